-- Verdicts, worked: which codes and which faults reject a set, each both ways.
use Rattle.std.proofs.Common.{◌≡◌, refl, List, [], ◌∷◌, codes, Option, Some, None}
use Rattle.hub_kinds.specs.declared.codes.ElementCode.{ElementCode}
use Rattle.hub_kinds.specs.declared.codes.ElementCode.TheVariants as element
use Rattle.hub_kinds.specs.declared.codes.SegmentCode.{SegmentCode}
use Rattle.hub_kinds.specs.declared.codes.SegmentCode.TheVariants as segment
use Rattle.hub_kinds.specs.declared.fault.ElemFault.{ElemFault}
use Rattle.hub_kinds.specs.declared.fault.Fault.{Fault}
use Rattle.hub_kinds.specs.declared.set_codes.SetCode.{SetCode}
use Rattle.hub_kinds.specs.declared.set_codes.SetCode.TheVariants as code
use Rattle.hub_kinds.specs.declared.set_codes.Verdict.TheVariants.{Accepted, AcceptedWithErrors, Rejected}
use Rattle.guide_tree.specs.Words.{GuideTree, no_trees}
use Rattle.set_check.specs.Verdict.{verdict_on}

abbrev fault_with : SegmentCode → Option ElemFault → Fault
fault_with seg elem = record { position = 3; id = codes "PO1"; loop_id = []; code = seg; slot = 4; elem = elem }

abbrev of_element : ElementCode → Fault
of_element c =
    fault_with segment.ElementErrors
    (Some (record { element = 2; component = 0; repetition = 0; code = c; reference = []; copy = [] }))

abbrev of_segment : SegmentCode → Fault
of_segment c = fault_with c None

abbrev tolerating : List SegmentCode → List ElementCode → Option GuideTree
tolerating segments elements = Some (record {
  head = record {
    name = codes "H";
    group = codes "PO";
    set = codes "850";
    version = codes "005010";
    convention = None;
    dictionary = [];
    tolerate_segment = segments;
    tolerate_element = elements;
  };
  hl = None;
  depends = [];
  nodes = no_trees;
})

-- too long elements are tolerated, and segments that come too often
abbrev both : Option GuideTree
both = tolerating (segment.NotInSet ∷ segment.SegmentTooOften ∷ []) (element.TooShort ∷ element.TooLong ∷ [])

abbrev five : List SetCode
five = code.SegmentsInError ∷ []

-- nothing found
nothing : verdict_on both [] [] ≡ Accepted
nothing = refl

nothing_unguided : verdict_on None [] [] ≡ Accepted
nothing_unguided = refl

-- each code that doesn't report faults, alone
trailer_missing : verdict_on both [] (code.TrailerMissing ∷ []) ≡ Rejected
trailer_missing = refl

controls_differ : verdict_on both [] (code.ControlNumbersDiffer ∷ []) ≡ Rejected
controls_differ = refl

count_wrong : verdict_on both [] (code.SegmentCountWrong ∷ []) ≡ Rejected
count_wrong = refl

control_short : verdict_on both [] (code.ControlNumberInvalid ∷ []) ≡ Rejected
control_short = refl

control_used : verdict_on both [] (code.ControlNumberNotUnique ∷ []) ≡ Rejected
control_used = refl

other_convention : verdict_on both [] (code.ConventionNotSupported ∷ []) ≡ Rejected
other_convention = refl

unguided : verdict_on None [] (code.NotSupported ∷ []) ≡ Rejected
unguided = refl

-- a segment's fault, an element's fault, and both: tolerated, and not
segment_tolerated : verdict_on both (of_segment segment.SegmentTooOften ∷ []) five ≡ AcceptedWithErrors
segment_tolerated = refl

segment_not_tolerated : verdict_on both (of_segment segment.LoopTooOften ∷ []) five ≡ Rejected
segment_not_tolerated = refl

element_tolerated : verdict_on both (of_element element.TooLong ∷ []) five ≡ AcceptedWithErrors
element_tolerated = refl

element_not_tolerated : verdict_on both (of_element element.InvalidDate ∷ []) five ≡ Rejected
element_not_tolerated = refl

all_tolerated : verdict_on both (of_segment segment.NotInSet ∷ of_element element.TooShort ∷ []) five ≡ AcceptedWithErrors
all_tolerated = refl

one_not_tolerated : verdict_on both (of_segment segment.NotInSet ∷ of_element element.InvalidDate ∷ []) five ≡ Rejected
one_not_tolerated = refl

nothing_tolerated : verdict_on (tolerating [] []) (of_element element.TooLong ∷ []) five ≡ Rejected
nothing_tolerated = refl

-- an I5 as well
implementation_tolerated : verdict_on (tolerating [] (element.CodeNotUsed ∷ [])) (of_element element.CodeNotUsed ∷ [])
    (code.ImplementationSegmentsInError ∷ []) ≡ AcceptedWithErrors
implementation_tolerated = refl

-- one list says nothing of the other: 5 is "too long" of an element, and "too often" of a segment
segment_list_of_elements : verdict_on (tolerating (segment.SegmentTooOften ∷ []) []) (of_element element.TooLong ∷ []) five ≡ Rejected
segment_list_of_elements = refl

element_list_of_segments : verdict_on (tolerating [] (element.TooLong ∷ [])) (of_segment segment.SegmentTooOften ∷ []) five ≡ Rejected
element_list_of_segments = refl

segment_code_of_an_element : verdict_on (tolerating (segment.ElementErrors ∷ []) []) (of_element element.TooLong ∷ []) five ≡ Rejected
segment_code_of_an_element = refl

-- tolerated faults beside a code that doesn't report faults
tolerated_with_another_code : verdict_on both (of_element element.TooLong ∷ [])
    (code.SegmentsInError ∷ code.ControlNumberNotUnique ∷ []) ≡ Rejected
tolerated_with_another_code = refl
