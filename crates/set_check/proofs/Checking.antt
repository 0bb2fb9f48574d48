-- What was found of a set's segments, put together: it is what is wrong with the set of the span.
use Rattle.std.proofs.Common.{◌≡◌, ◌∙◌, ap, sym, subst, ℕ, false, List, Option, Some, None}
use Rattle.std.specs.Prelude.{IfSome}
use Rattle.hub_kinds.specs.declared.fault.Fault.{Fault}
use Rattle.hub_kinds.specs.declared.set_codes.SetCode.{SetCode}
use Rattle.hub_kinds.specs.Words.{AreRising}
use Rattle.x12_segs.specs.Words.{SegValue}
use Rattle.x12_segs.specs.declared.set_span.SetSpan.{SetSpan}
use Rattle.guide_tree.specs.declared.rows.GuideRows.{GuideRows}
use Rattle.set_walk.specs.declared.ends.Ends.{Ends}
use Rattle.set_check.specs.Checked.{IsChecked, guide_tree_of}
use Rattle.set_check.specs.Codes.{set_codes_of}
use Rattle.set_check.specs.Envelope.{IsEnvelopeOf}
use Rattle.set_check.specs.MeetsLaw.{IsWellGuided}
use Rattle.set_check.specs.SetFaults.{AreSetFaults, codes_with}
use Rattle.set_check.specs.SetParts.{SetParts, set_parts, segments_of_set}

codes_by : (guide : Option GuideRows) (parts : SetParts) (faults told : List Fault) (e : Ends) (trailer : Option SegValue)
    (codes : List SetCode) → IsEnvelopeOf parts e → told ≡ faults → trailer ≡ e.trailer
    → codes ≡ set_codes_of told (guide_tree_of guide) e.header e.segments trailer false → codes ≡ codes_with
    (guide_tree_of guide) parts faults
codes_by guide parts faults told e trailer codes of t l is =
    is
    ∙ ap (λ (x : List Fault). set_codes_of x (guide_tree_of guide) e.header e.segments trailer false) t
    ∙ ap (λ (x : SegValue). set_codes_of faults (guide_tree_of guide) x e.segments trailer false) of.header
    ∙ ap (λ (x : ℕ). set_codes_of faults (guide_tree_of guide) parts.header x trailer false) of.segments
    ∙ ap (λ (x : Option SegValue). set_codes_of faults (guide_tree_of guide) parts.header (segments_of_set parts) x false) (l ∙ of.trailer)

pub put_down : (text : List ℕ) (span : SetSpan) (guide : Option GuideRows) (faults told kept : List Fault)
    (e : Ends) (trailer : Option SegValue) (codes kept_codes : List SetCode)
    → IsWellGuided (guide_tree_of guide) → AreSetFaults (guide_tree_of guide) (set_parts text span) faults → AreRising faults
    → IsEnvelopeOf (set_parts text span) e → told ≡ faults
    → trailer ≡ e.trailer → codes ≡ set_codes_of told (guide_tree_of guide) e.header e.segments trailer false
    → kept ≡ faults → kept_codes ≡ codes
    → IsChecked (record { text = text; span = span; guide = guide; faults = kept; codes = kept_codes })
put_down text span guide faults told kept e trailer codes kept_codes w f r of t l is k kc = record {
  well_guided = w;
  faults = subst (λ (x : List Fault). AreSetFaults (guide_tree_of guide) (set_parts text span) x) (sym k) f;
  rising = subst AreRising (sym k) r;
  codes =
      kc ∙ codes_by guide (set_parts text span) faults told e trailer codes of t l is
      ∙ ap (codes_with (guide_tree_of guide) (set_parts text span)) (sym k);
}

pub kept_envelope : {A : Type 0} (o : Option A) (view : A → Ends) (parts : SetParts) (e : Ends) → IfSome o (λ f. view f ≡ e)
    → IsEnvelopeOf parts e → IfSome o (λ f. IsEnvelopeOf parts (view f))
kept_envelope None view parts e h of = h
kept_envelope (Some f) view parts e h of = subst (IsEnvelopeOf parts) (sym h) of
