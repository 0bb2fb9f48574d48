-- A set that was checked is answered alike.
use Rattle.std.proofs.Common.{◌≡◌, List, [], ◌∷◌, map, Option, Some, None, refl, sym, ap, ◌∙◌}
use Rattle.std.specs.Prelude.{option_map, slice_index_or}
use Rattle.x12_bytes.specs.declared.delims.Delims.{Delims}
use Rattle.x12_segs.specs.Words.{SegValue, Seg, elements_of, view_of, span_segs}
use Rattle.hub_kinds.specs.declared.fault.Fault.{Fault}
use Rattle.hub_kinds.specs.declared.set_codes.SetCode.{SetCode}
use Rattle.guide_tree.specs.Tree.{GuideTree}
use Rattle.set_check.specs.Checked.{Checked, guide_in, parts_in}
use Rattle.set_check.specs.SetFaults.{set_codes_where}
use Rattle.set_check.specs.SetParts.{SetParts, no_segment}
use Rattle.night_definition.specs.Segments.{Segment, element}
use Rattle.night_definition.specs.Envelopes.{Set}
use Rattle.night_definition.specs.Sets.{faults_of, set_codes, verdict_on}
use Rattle.night_equal_set.specs.Parts.{IsThatSet}
use Rattle.night_equal_set.specs.SetCodes.{SetCodesAreOne, VerdictsAreOne}
use Rattle.night_equal_faults.specs.Faults.{FaultsAreOne}
use Rattle.night_equal_text.specs.Seen.{seen}
use Rattle.night_equal_text.specs.Spanned.{IsSetOf}
use Rattle.night_equal_text.specs.Answered.{ChecksAreOne}
use Rattle.night_equal_night.proofs.Codes.{faults_told}

first_delims : (d : Delims) (segs : List Seg) → (slice_index_or (map (view_of d) segs) 0 (no_segment d)).delims ≡ d
first_delims d [] = refl
first_delims d (s ∷ segs) = refl

trailers : (o : Option SegValue) → option_map elements_of o ≡ option_map (λ (s : Segment). s.elements) (option_map seen o)
trailers None = refl
trailers (Some s) = refl

pub that_set : (c : Checked) (s : Set) → IsSetOf s (parts_in c) → IsThatSet c.span.delims s (parts_in c)
that_set c s is = record {
  delims = refl;
  header_delims = first_delims c.span.delims (span_segs c.text c.span);
  header = sym (ap (λ (x : Segment). x.elements) is.header);
  body = sym is.body;
  trailer = trailers (parts_in c).trailer ∙ sym (ap (option_map (λ (s : Segment). s.elements)) is.trailer);
}

pub checks : FaultsAreOne → SetCodesAreOne → VerdictsAreOne → ChecksAreOne
checks faults_one codes_one verdicts_one c s earlier is checked =
    let guide : Option GuideTree = guide_in c in
    let parts : SetParts = parts_in c in
    let d : Delims = c.span.delims in
    let that = that_set c s is in
    let faults : faults_of guide d s ≡ c.faults =
    faults_one guide d s parts c.faults that checked.well_guided checked.faults checked.rising in
    let codes : set_codes guide d s (faults_of guide d s) earlier ≡ set_codes_where guide parts c.faults earlier =
    ap (λ (f : List Fault). set_codes guide d s f earlier) faults
    ∙ codes_one guide d s parts c.faults earlier that (faults_told guide parts c.faults checked.faults) in
    record {
      identifier = ap (λ (h : Segment). element 1 h.elements) is.header;
      control = ap (λ (h : Segment). element 2 h.elements) is.header;
      convention = ap (λ (h : Segment). element 3 h.elements) is.header;
      faults = faults;
      codes = codes;
      verdict = ap (λ (f : List Fault). verdict_on guide f (set_codes guide d s (faults_of guide d s) earlier)) faults
          ∙ ap (λ (k : List SetCode). verdict_on guide c.faults k) codes
          ∙ verdicts_one guide c.faults (set_codes_where guide parts c.faults earlier);
    }
