-- A set of a judged interchange stands in its span.
use Rattle.std.proofs.Common.{◌≡◌, ◌<◌, ℕ, List, length, subst, sym, ap, ◌∙◌}
use Rattle.std.specs.List.{All}
use Rattle.std.proofs.lemmas.List.Elements.{All-get_or}
use Rattle.x12_bytes.specs.Header.{header_delims}
use Rattle.x12_segs.specs.Words.{IsSetSpan}
use Rattle.env_index.specs.declared.entry.SetEnvelope.{SetEnvelope}
use Rattle.env_index.specs.Words.{InterchangeEntry, HasSpans, span_of, GroupEntry}
use Rattle.x12_bytes.specs.declared.delims.Delims.{Delims}
use Rattle.x12_segs.specs.declared.set_span.SetSpan.{SetSpan}
use Rattle.answered_sets.specs.Judged.{JudgedValue, PlacedValue}
use Rattle.answered_sets.specs.Placed.{group_at, groups_in, no_group, no_set, placed_at, set_at}

pub set_in_span : (text : List ℕ) (x : InterchangeEntry) (g s : ℕ) → HasSpans text x → g < length x.content.groups
    → s < length (group_at x.content.groups g).sets
    → IsSetSpan text (span_of (header_delims x.header) (set_at (group_at x.content.groups g).sets s))
set_in_span text x g s h within inside =
    All-get_or (λ (e : SetEnvelope). IsSetSpan text (span_of (header_delims x.header) e)) (group_at x.content.groups g).sets s no_set inside
    (All-get_or (λ (group : GroupEntry). All (λ (e : SetEnvelope). IsSetSpan text (span_of (header_delims x.header) e)) group.sets)
    x.content.groups g no_group within h)

-- the same of an equal text, and of an equal span
pub moved_span : {t t' : List ℕ} {s s' : SetSpan} → t' ≡ t → s' ≡ s → IsSetSpan t s → IsSetSpan t' s'
moved_span {t} {t'} {s} {s'} et es h = subst (λ (u : List ℕ). IsSetSpan u s') (sym et) (subst (IsSetSpan t) (sym es) h)

pub span_at : (x : JudgedValue) (g s : ℕ) (p : PlacedValue) (header : List ℕ) (d : Delims) (e : SetEnvelope) (span : SetSpan)
    → p ≡ placed_at x g s → header ≡ x.interchange.header → d ≡ header_delims header → e ≡ p.set → span ≡ span_of d e
    → span ≡ span_of (header_delims x.interchange.header) (set_at (group_at (groups_in x) g).sets s)
span_at x g s p header d e span ep eh ed ee es =
    es ∙ ap (λ (k : Delims). span_of k e) (ed ∙ ap header_delims eh)
    ∙ ap (span_of (header_delims x.interchange.header)) (ee ∙ ap (λ (q : PlacedValue). q.set) ep)
