-- Codes, ids and conventions as they are written: letters and digits, which hold no delimiter.
use Rattle.std.proofs.Common.{◌≡◌, ℕ, Bool, true, false, List, [], ◌∷◌, refl, ap, ◌∙◌}
use Rattle.std.specs.Prelude.{◌&&◌, ◌||◌, if◌then◌else◌}
use Rattle.std.specs.List.{list_all}
use Rattle.std.specs.Char.{is_ascii_alphanumeric, is_ascii_digit, is_ascii_uppercase}
use Rattle.std.specs.Int.{is_in_range}
use Rattle.hub_kinds.specs.declared.codes.SegmentCode.{SegmentCode}
use Rattle.hub_kinds.specs.declared.codes.SegmentCode.TheVariants as segment
use Rattle.hub_kinds.specs.declared.codes.ElementCode.{ElementCode}
use Rattle.hub_kinds.specs.declared.codes.ElementCode.TheVariants as element
use Rattle.hub_kinds.specs.Words.{segment_code_text, element_code_text, set_code_text, group_code_text, verdict_text, group_verdict_text}
use Rattle.hub_kinds.specs.Words.{is_word}
use Rattle.hub_kinds.specs.Words.{is_segment_id, is_upper_or_digit}
use Rattle.hub_kinds.specs.declared.set_codes.SetCode.{SetCode}
use Rattle.hub_kinds.specs.declared.set_codes.SetCode.TheVariants as set
use Rattle.hub_kinds.specs.declared.set_codes.GroupCode.{GroupCode}
use Rattle.hub_kinds.specs.declared.set_codes.GroupCode.TheVariants as group
use Rattle.hub_kinds.specs.declared.set_codes.Verdict.{Verdict}
use Rattle.hub_kinds.specs.declared.set_codes.Verdict.TheVariants as verdict
use Rattle.hub_kinds.specs.declared.set_codes.GroupVerdict.{GroupVerdict}
use Rattle.hub_kinds.specs.declared.set_codes.GroupVerdict.TheVariants as group_verdict
use Rattle.ack_999.specs.Faults.{id_text}
use Rattle.x12_write.proofs.ForAbove.{is_plain, both}
use Rattle.ack_999.specs.Report.{convention_text}

pub plain-set_code_text : (c : SetCode) → is_plain (set_code_text c) ≡ true
plain-set_code_text set.SegmentsInError = refl
plain-set_code_text set.ImplementationSegmentsInError = refl
plain-set_code_text set.NotSupported = refl
plain-set_code_text set.TrailerMissing = refl
plain-set_code_text set.ControlNumbersDiffer = refl
plain-set_code_text set.SegmentCountWrong = refl
plain-set_code_text set.ControlNumberInvalid = refl
plain-set_code_text set.ControlNumberNotUnique = refl
plain-set_code_text set.ConventionNotSupported = refl

pub plain-group_code_text : (c : GroupCode) → is_plain (group_code_text c) ≡ true
plain-group_code_text group.NotSupported = refl
plain-group_code_text group.VersionNotSupported = refl
plain-group_code_text group.TrailerMissing = refl
plain-group_code_text group.ControlNumbersDiffer = refl
plain-group_code_text group.SetCountWrong = refl
plain-group_code_text group.ControlNumberNotUnique = refl

pub plain-verdict_text : (v : Verdict) → is_plain (verdict_text v) ≡ true
plain-verdict_text verdict.Accepted = refl
plain-verdict_text verdict.AcceptedWithErrors = refl
plain-verdict_text verdict.Rejected = refl

pub plain-group_verdict_text : (v : GroupVerdict) → is_plain (group_verdict_text v) ≡ true
plain-group_verdict_text group_verdict.Accepted = refl
plain-group_verdict_text group_verdict.AcceptedWithErrors = refl
plain-group_verdict_text group_verdict.PartlyAccepted = refl
plain-group_verdict_text group_verdict.Rejected = refl

pub plain-segment_text : (c : SegmentCode) → is_plain (segment_code_text c) ≡ true
plain-segment_text segment.UnrecognizedSegment = refl
plain-segment_text segment.UnexpectedSegment = refl
plain-segment_text segment.RequiredSegmentMissing = refl
plain-segment_text segment.LoopTooOften = refl
plain-segment_text segment.SegmentTooOften = refl
plain-segment_text segment.NotInSet = refl
plain-segment_text segment.OutOfSequence = refl
plain-segment_text segment.ElementErrors = refl
plain-segment_text segment.NotUsedPresent = refl
plain-segment_text segment.DependentMissing = refl
plain-segment_text segment.LoopTooSeldom = refl
plain-segment_text segment.SegmentTooSeldom = refl
plain-segment_text segment.DependentNotUsedPresent = refl

pub plain-element_text : (c : ElementCode) → is_plain (element_code_text c) ≡ true
plain-element_text element.RequiredMissing = refl
plain-element_text element.ConditionalMissing = refl
plain-element_text element.TooManyElements = refl
plain-element_text element.TooShort = refl
plain-element_text element.TooLong = refl
plain-element_text element.InvalidCharacter = refl
plain-element_text element.InvalidCode = refl
plain-element_text element.InvalidDate = refl
plain-element_text element.InvalidTime = refl
plain-element_text element.ExclusionViolated = refl
plain-element_text element.TooManyRepetitions = refl
plain-element_text element.TooManyComponents = refl
plain-element_text element.CodeNotUsed = refl
plain-element_text element.DependentMissing = refl
plain-element_text element.NotUsedPresent = refl
plain-element_text element.PatternFailure = refl
plain-element_text element.DependentNotUsedPresent = refl

pub plain-convention_text : (convention : List ℕ) → is_plain (convention_text convention) ≡ true
plain-convention_text convention = shown (is_word 1 35 convention) refl
  where
    shown : (b : Bool) → is_word 1 35 convention ≡ b → is_plain (if b then convention else []) ≡ true
    shown true h = (both _ _ h).1
    shown false h = refl

-- the bytes of an id are letters and digits
turned : (upper digit lower : Bool) → (upper || digit) ≡ true → ((digit || upper) || lower) ≡ true
turned true true lower h = refl
turned true false lower h = refl
turned false true lower h = refl
turned false false lower h = cc

plain-id_bytes : (id : List ℕ) → list_all is_upper_or_digit id ≡ true → is_plain id ≡ true
plain-id_bytes [] h = refl
plain-id_bytes (b ∷ bs) h =
    let parts = both (is_upper_or_digit b) (list_all is_upper_or_digit bs) h in
    let one : is_ascii_alphanumeric b ≡ true = turned (is_ascii_uppercase b) (is_ascii_digit b) (is_in_range 97 122 b) parts.0 in
    ap (λ (c : Bool). c && is_plain bs) one ∙ plain-id_bytes bs parts.1

pub plain-id_text : (id : List ℕ) → is_plain (id_text id) ≡ true
plain-id_text id = shown (is_segment_id id) refl
  where
    shown : (b : Bool) → is_segment_id id ≡ b → is_plain (if b then id else 90 ∷ 90 ∷ 90 ∷ []) ≡ true
    shown true h = plain-id_bytes id (both _ _ h).1
    shown false h = refl
