-- 999 guide: the texts of the codes, and the order of faults. The choice of a code for each fault is own.
use Rattle.std.specs.Prelude.{ℕ, List, [], ◌∷◌, codes, Option, Some, None}
use Rattle.hub_kinds.specs.declared.codes.SegmentCode.{SegmentCode}
use Rattle.hub_kinds.specs.declared.codes.SegmentCode.TheVariants as ik304
use Rattle.hub_kinds.specs.declared.codes.ElementCode.{ElementCode}
use Rattle.hub_kinds.specs.declared.codes.ElementCode.TheVariants as ik403
use Rattle.hub_kinds.specs.declared.fault.Fault.{Fault}
use Rattle.hub_kinds.specs.declared.fault.ElemFault.{ElemFault}
use Rattle.hub_kinds.specs.declared.set_codes.SetCode.{SetCode}
use Rattle.hub_kinds.specs.declared.set_codes.SetCode.TheVariants as ik502
use Rattle.hub_kinds.specs.declared.set_codes.GroupCode.{GroupCode}
use Rattle.hub_kinds.specs.declared.set_codes.GroupCode.TheVariants as ak905
use Rattle.hub_kinds.specs.declared.set_codes.Verdict.{Verdict}
use Rattle.hub_kinds.specs.declared.set_codes.Verdict.TheVariants as ik501
use Rattle.hub_kinds.specs.declared.set_codes.GroupVerdict.{GroupVerdict}
use Rattle.hub_kinds.specs.declared.set_codes.GroupVerdict.TheVariants as ak901
use Rattle.hub_kinds.specs.declared.interchange.InterchangeFault.{InterchangeFault}
use Rattle.hub_kinds.specs.declared.interchange.InterchangeFault.TheVariants as isa

-- IK304: each code's text and its rank in the order of faults
abbrev pub ik304_of : SegmentCode → List ℕ × ℕ
ik304_of ik304.UnrecognizedSegment = (codes "1", 0)
ik304_of ik304.UnexpectedSegment = (codes "2", 1)
ik304_of ik304.RequiredSegmentMissing = (codes "3", 2)
ik304_of ik304.LoopTooOften = (codes "4", 3)
ik304_of ik304.SegmentTooOften = (codes "5", 4)
ik304_of ik304.NotInSet = (codes "6", 5)
ik304_of ik304.OutOfSequence = (codes "7", 6)
ik304_of ik304.ElementErrors = (codes "8", 7)
ik304_of ik304.NotUsedPresent = (codes "I4", 8)
ik304_of ik304.DependentMissing = (codes "I6", 9)
ik304_of ik304.LoopTooSeldom = (codes "I7", 10)
ik304_of ik304.SegmentTooSeldom = (codes "I8", 11)
ik304_of ik304.DependentNotUsedPresent = (codes "I9", 12)

-- IK403: each code's text and its rank
abbrev pub ik403_of : ElementCode → List ℕ × ℕ
ik403_of ik403.RequiredMissing = (codes "1", 0)
ik403_of ik403.ConditionalMissing = (codes "2", 1)
ik403_of ik403.TooManyElements = (codes "3", 2)
ik403_of ik403.TooShort = (codes "4", 3)
ik403_of ik403.TooLong = (codes "5", 4)
ik403_of ik403.InvalidCharacter = (codes "6", 5)
ik403_of ik403.InvalidCode = (codes "7", 6)
ik403_of ik403.InvalidDate = (codes "8", 7)
ik403_of ik403.InvalidTime = (codes "9", 8)
ik403_of ik403.ExclusionViolated = (codes "10", 9)
ik403_of ik403.TooManyRepetitions = (codes "12", 10)
ik403_of ik403.TooManyComponents = (codes "13", 11)
ik403_of ik403.CodeNotUsed = (codes "I6", 12)
ik403_of ik403.DependentMissing = (codes "I9", 13)
ik403_of ik403.NotUsedPresent = (codes "I10", 14)
ik403_of ik403.PatternFailure = (codes "I12", 15)
ik403_of ik403.DependentNotUsedPresent = (codes "I13", 16)

-- IK502
abbrev pub set_code_text : SetCode → List ℕ
set_code_text ik502.SegmentsInError = codes "5"
set_code_text ik502.ImplementationSegmentsInError = codes "I5"
set_code_text ik502.NotSupported = codes "1"
set_code_text ik502.TrailerMissing = codes "2"
set_code_text ik502.ControlNumbersDiffer = codes "3"
set_code_text ik502.SegmentCountWrong = codes "4"
set_code_text ik502.ControlNumberInvalid = codes "7"
set_code_text ik502.ControlNumberNotUnique = codes "23"
set_code_text ik502.ConventionNotSupported = codes "I6"

-- AK905
abbrev pub group_code_text : GroupCode → List ℕ
group_code_text ak905.NotSupported = codes "1"
group_code_text ak905.VersionNotSupported = codes "2"
group_code_text ak905.TrailerMissing = codes "3"
group_code_text ak905.ControlNumbersDiffer = codes "4"
group_code_text ak905.SetCountWrong = codes "5"
group_code_text ak905.ControlNumberNotUnique = codes "19"

-- IK501
abbrev pub verdict_text : Verdict → List ℕ
verdict_text ik501.Accepted = codes "A"
verdict_text ik501.AcceptedWithErrors = codes "E"
verdict_text ik501.Rejected = codes "R"

-- AK901
abbrev pub group_verdict_text : GroupVerdict → List ℕ
group_verdict_text ak901.Accepted = codes "A"
group_verdict_text ak901.AcceptedWithErrors = codes "E"
group_verdict_text ak901.PartlyAccepted = codes "P"
group_verdict_text ak901.Rejected = codes "R"

-- the number of an interchange's fault (own) and its note in a TA1 (TA105); 2 and 8 have none
abbrev pub fault_texts : InterchangeFault → List ℕ × Option (List ℕ)
fault_texts isa.TrailerMissing = (codes "1", Some (codes "023"))
fault_texts isa.ControlNumberInvalid = (codes "2", None)
fault_texts isa.ControlNumbersDiffer = (codes "3", Some (codes "001"))
fault_texts isa.GroupCountWrong = (codes "4", Some (codes "021"))
fault_texts isa.SegmentMisplaced = (codes "5", Some (codes "022"))
fault_texts isa.GroupHeaderInvalid = (codes "6", Some (codes "024"))
fault_texts isa.SetHeaderInvalid = (codes "7", Some (codes "024"))
fault_texts isa.SenderUnknown = (codes "8", None)
fault_texts isa.Duplicate = (codes "9", Some (codes "025"))

-- faults are ordered by position, IK304, slot, element, component, repetition and IK403
abbrev pub key_of : Fault → List ℕ
key_of f = f.position ∷ (ik304_of f.code).1 ∷ f.slot ∷ of f.elem where
  of : Option ElemFault → List ℕ
  of None = []
  of (Some e) = e.element ∷ e.component ∷ e.repetition ∷ (ik403_of e.code).1 ∷ []
