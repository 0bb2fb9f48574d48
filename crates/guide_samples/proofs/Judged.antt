-- What the check of the one set of a text says of the text.
use Rattle.std.proofs.Common.{
  ◌≡◌,
  ◌≢◌,
  ◌∙◌,
  ℕ,
  Bool,
  true,
  false,
  not,
  ◌&&◌,
  List,
  [],
  ◌∷◌,
  ◌++◌,
  map,
  Option,
  Some,
  None,
  refl,
  sym,
  ap,
  ap₂,
}
use Rattle.std.proofs.Common.{codes, subst}
use Rattle.std.specs.Prelude.{IsTrue, bytes_eq, option_map, slice_index_or}
use Rattle.std.specs.List.{All, flat_map, list_all}
use Rattle.std.proofs.lemmas.List.Elements.{All-cons, All-nil}
use Rattle.std.proofs.lemmas.Option.{same_Some}
use Rattle.x12_bytes.specs.declared.delims.Delims.{Delims}
use Rattle.x12_segs.specs.Words.{SegValue, Seg, elements_of, view_of, span_segs}
use Rattle.x12_write.specs.Segment.{WrittenSegment, segments_text}
use Rattle.hub_kinds.specs.Words.{AreRising, segment_code_text}
use Rattle.hub_kinds.specs.declared.answers.SetAnswer.{SetAnswer}
use Rattle.hub_kinds.specs.declared.codes.SegmentCode.{SegmentCode}
use Rattle.hub_kinds.specs.declared.codes.SegmentCode.TheVariants as code
use Rattle.hub_kinds.specs.declared.fault.ElemFault.{ElemFault}
use Rattle.hub_kinds.specs.declared.fault.Fault.{Fault}
use Rattle.hub_kinds.specs.declared.set_codes.SetCode.{SetCode}
use Rattle.hub_kinds.specs.declared.set_codes.Verdict.{Verdict}
use Rattle.guide_tree.specs.declared.rows.GuideRows.{GuideRows}
use Rattle.guide_tree.specs.Words.{GuideTree, IsAccepted, guide_of}
use Rattle.ack_999.specs.Report.{set_text}
use Rattle.ack_999.specs.Report as old
use Rattle.set_check.specs.Answer.{answer_to}
use Rattle.set_check.specs.Checked.{Checked, guide_in, guide_tree_of, parts_in}
use Rattle.set_check.specs.SetFaults.{AreSetFaults, set_codes_where}
use Rattle.set_check.specs.SetParts.{SetParts, no_segment}
use Rattle.set_check.specs.Verdict.{verdict_with}
use Rattle.set_check.specs.Meets as then
use Rattle.night_definition.specs.Acknowledgments.{written}
use Rattle.night_definition.specs.Segments.{Elements, Segment, element}
use Rattle.night_definition.specs.Envelopes.{Set}
use Rattle.night_definition.specs.Sets.{MeetsAlone, faults_of, set_codes, verdict_on}
use Rattle.night_equal_set.specs.Meeting.{IsConditioned, MeetingsAreOne}
use Rattle.night_equal_set.specs.Parts.{IsThatSet}
use Rattle.night_equal_set.specs.SetCodes.{SetCodesAreOne, VerdictsAreOne, is_told}
use Rattle.night_equal_faults.specs.Faults.{FaultsAreOne}
use Rattle.night_equal_text.specs.Seen.{seen}
use Rattle.night_equal_text.specs.Spanned.{IsSetOf}
use Rattle.night_equal_writing.specs.Acknowledgments.{AcknowledgmentsAreOne, HasItsCode, seen as seen_segment, set_answer}
use Rattle.night_equal_writing.specs.Texts.{TextsAreOne}
use Rattle.guide_samples.specs.Alone.{IsFaultAlone, IsOnlySpan}
use Rattle.guide_samples.specs.Samples.{HasOneFault, IsSample, answer_by, lines_by}
use Rattle.guide_samples.proofs.Conditioned.{conditioned}

first_delims : (d : Delims) (segs : List Seg) → (slice_index_or (map (view_of d) segs) 0 (no_segment d)).delims ≡ d
first_delims d [] = refl
first_delims d (s ∷ segs) = refl

trailers : (o : Option SegValue) → option_map elements_of o ≡ option_map (λ (s : Segment). s.elements) (option_map seen o)
trailers None = refl
trailers (Some s) = refl

-- the set of a text is the one that is checked
that_set : (c : Checked) (s : Set) → IsSetOf s (parts_in c) → IsThatSet c.span.delims s (parts_in c)
that_set c s is = record {
  delims = refl;
  header_delims = first_delims c.span.delims (span_segs c.text c.span);
  header = sym (ap (λ (x : Segment). x.elements) is.header);
  body = sym is.body;
  trailer = trailers (parts_in c).trailer ∙ sym (ap (option_map (λ (s : Segment). s.elements)) is.trailer);
}

pub sample : MeetingsAreOne → (rows : GuideRows) → IsAccepted rows → (c : Checked) (text : List ℕ) → c.text ≡ text
    → c.guide ≡ Some rows → IsOnlySpan text c.span → then.MeetsAlone (guide_in c) (parts_in c) → IsSample (guide_of rows) text
sample meetings rows accepted c text same guided only meets =
    let here : IsOnlySpan c.text c.span = subst (λ t. IsOnlySpan t c.span) (sym same) only in
    let guide : guide_in c ≡ Some (guide_of rows) = ap guide_tree_of guided in
    let by_guide : then.MeetsAlone (Some (guide_of rows)) (parts_in c) = subst (λ g. then.MeetsAlone g (parts_in c)) guide meets in
    let is : MeetsAlone (Some (guide_of rows)) c.span.delims here.set =
    (meetings (Some (guide_of rows)) c.span.delims here.set (parts_in c) (that_set c here.set here.same)
    (λ g e. subst IsConditioned (same_Some (guide_of rows) g e) (conditioned (guide_of rows) accepted.well_formed))).1 by_guide in
    let found : IsSample (guide_of rows) c.text = record { delims = c.span.delims; set = here.set; only = here.only; meets = is } in
    subst (λ t. IsSample (guide_of rows) t) same found

written_all : TextsAreOne → (d : Delims) (segments : List WrittenSegment) → flat_map (written d) (map seen_segment segments)
    ≡ segments_text d segments
written_all texts d [] = refl
written_all texts d (s ∷ segments) = ap₂ (λ (a b : List ℕ). a ++ b) (texts.segment d s.id s.elements) (written_all texts d segments)

not_eight : (c : SegmentCode) → c ≢ code.ElementErrors → IsTrue (not (bytes_eq (segment_code_text c) (codes "8")))
not_eight code.UnrecognizedSegment ne = refl
not_eight code.UnexpectedSegment ne = refl
not_eight code.RequiredSegmentMissing ne = refl
not_eight code.LoopTooOften ne = refl
not_eight code.SegmentTooOften ne = refl
not_eight code.NotInSet ne = refl
not_eight code.OutOfSequence ne = refl
not_eight code.ElementErrors ne = absurd (ne refl)
not_eight code.NotUsedPresent ne = refl
not_eight code.DependentMissing ne = refl
not_eight code.LoopTooSeldom ne = refl
not_eight code.SegmentTooSeldom ne = refl
not_eight code.DependentNotUsedPresent ne = refl

true_and : (b : Bool) → IsTrue b → IsTrue (b && true)
true_and true is = is
true_and false is = is

told : (f : Fault) (o : Option ElemFault) → f.elem ≡ o → (f.elem ≡ None → f.code ≢ code.ElementErrors) → IsTrue (is_told f)
told f None is own = rw is (not_eight f.code (own is))
told f (Some e) is own = rw is refl

abbrev answer_made : List ℕ → List ℕ → List ℕ → List Fault → List SetCode → Verdict → SetAnswer
answer_made identifier control convention faults codes verdict = record {
  identifier = identifier;
  control = control;
  convention = convention;
  faults = faults;
  codes = codes;
  verdict = verdict;
}

-- the definition's answer to the set is that of its check
answered : SetCodesAreOne → VerdictsAreOne → (g : GuideTree) (c : Checked) (set : Set) → guide_in c ≡ Some g
    → IsThatSet c.span.delims set (parts_in c) → faults_of (Some g) c.span.delims set ≡ c.faults → IsTrue (list_all is_told c.faults)
    → set_answer (answer_by g c.span.delims set) ≡ answer_to c false
answered same_codes same_verdicts g c set guided that faults each =
    let d : Delims = c.span.delims in
    let parts : SetParts = parts_in c in
    let h : Elements = set.header.elements in
    let layer : List SetCode = set_codes_where (Some g) parts c.faults false in
    let with_codes : (hs : Elements) (fs : List Fault) (cs : List SetCode) → SetAnswer =
    λ hs fs cs. answer_made (element 1 hs) (element 2 hs) (element 3 hs) fs cs (verdict_on (Some g) fs cs) in
    ap (λ (fs : List Fault). with_codes h fs (set_codes (Some g) d set fs false)) faults
    ∙ ap (λ (hs : Elements). with_codes hs c.faults (set_codes (Some g) d set c.faults false)) (sym that.header)
    ∙ ap (λ (cs : List SetCode). with_codes (elements_of parts.header) c.faults cs) (same_codes (Some g) d set parts c.faults false that
    each)
    ∙ ap (λ (v : Verdict). answer_made (element 1 (elements_of parts.header)) (element 2 (elements_of parts.header))
    (element 3 (elements_of parts.header)) c.faults layer v) (same_verdicts (Some g) c.faults layer)
    ∙ ap (λ (o : Option GuideTree). answer_made (element 1 (elements_of parts.header)) (element 2 (elements_of parts.header))
    (element 3 (elements_of parts.header)) c.faults (set_codes_where o parts c.faults false) (verdict_with o parts c.faults false))
    (sym guided)

pub one_fault : FaultsAreOne → SetCodesAreOne → VerdictsAreOne → AcknowledgmentsAreOne → TextsAreOne → (rows : GuideRows)
    → IsAccepted rows → (c : Checked) (text : List ℕ) → c.text ≡ text → c.guide ≡ Some rows → IsOnlySpan text c.span
    → AreSetFaults (guide_in c) (parts_in c) c.faults → AreRising c.faults → (IsSuch : Fault → Type 0) → IsFaultAlone IsSuch c.faults
    → (out : List ℕ) → out ≡ set_text c.span.delims (answer_to c false) → HasOneFault (guide_of rows) IsSuch text out
one_fault faults same_codes same_verdicts acks texts rows accepted c text same guided only are up IsSuch one out said =
    let g : GuideTree = guide_of rows in
    let d : Delims = c.span.delims in
    let here : IsOnlySpan c.text c.span = subst (λ t. IsOnlySpan t c.span) (sym same) only in
    let guide : guide_in c ≡ Some g = ap guide_tree_of guided in
    let that : IsThatSet d here.set (parts_in c) = that_set c here.set here.same in
    let by_guide : AreSetFaults (Some g) (parts_in c) c.faults = subst (λ o. AreSetFaults o (parts_in c) c.faults) guide are in
    let is : faults_of (Some g) d here.set ≡ c.faults =
    faults (Some g) d here.set (parts_in c) c.faults that accepted.well_formed by_guide up in
    let each : IsTrue (list_all is_told c.faults) =
    subst (λ (fs : List Fault). IsTrue (list_all is_told fs)) (sym one.alone) (true_and (is_told one.fault)
    (told one.fault one.fault.elem refl one.own)) in
    let have : All HasItsCode (faults_of (Some g) d here.set) =
    subst (λ (fs : List Fault). All HasItsCode fs) (sym (is ∙ one.alone))
    (All-cons HasItsCode one.fault [] one.has (All-nil HasItsCode)) in
    let lines : lines_by g d here.set ≡ set_text d (answer_to c false) =
    ap (flat_map (written d)) (acks.set d (answer_by g d here.set) have)
    ∙ written_all texts d (old.set_segments d (set_answer (answer_by g d here.set)))
    ∙ ap (λ (a : SetAnswer). set_text d a) (answered same_codes same_verdicts g c here.set guide that is each) in
    let found : HasOneFault g IsSuch c.text out = record {
      delims = d;
      set = here.set;
      only = here.only;
      fault = one.fault;
      alone = is ∙ one.alone;
      such = one.such;
      said = said ∙ sym lines;
    } in
    subst (λ t. HasOneFault g IsSuch t out) same found
