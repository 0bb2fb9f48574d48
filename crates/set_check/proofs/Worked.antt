-- The codes of sets, worked: which fault gives which code, these and no others, and what is cut.
use Rattle.std.specs.Prelude.{ℕ, ◌≡◌, refl, true, List, [], ◌∷◌, Option, Some, None, codes}
use Rattle.hub_kinds.specs.declared.codes.ElementCode.{ElementCode}
use Rattle.hub_kinds.specs.declared.codes.ElementCode.TheVariants as element
use Rattle.hub_kinds.specs.declared.codes.SegmentCode.{SegmentCode}
use Rattle.hub_kinds.specs.declared.codes.SegmentCode.TheVariants as segment
use Rattle.hub_kinds.specs.declared.fault.ElemFault.{ElemFault}
use Rattle.hub_kinds.specs.declared.fault.Fault.{Fault}
use Rattle.hub_kinds.specs.declared.set_codes.SetCode.TheVariants as code
use Rattle.x12_segs.specs.Words.{SegValue}
use Rattle.guide_tree.specs.Words.{GuideTree, no_trees}
use Rattle.set_check.specs.Codes.{fault_codes, guide_codes, envelope_codes, convention_codes}
use Rattle.set_check.specs.Codes.{all_codes, set_codes_of}
use Rattle.set_check.specs.declared.codes.TheConstants.{COUNT_DIGITS, LEAST_CONTROL}

abbrev fault_with : SegmentCode → Option ElemFault → Fault
fault_with seg elem = record { position = 3; id = codes "PO1"; loop_id = []; code = seg; slot = 4; elem = elem }

abbrev of_element : ElementCode → Fault
of_element c =
    fault_with segment.ElementErrors
    (Some (record { element = 2; component = 0; repetition = 0; code = c; reference = []; copy = [] }))

abbrev of_segment : SegmentCode → Fault
of_segment c = fault_with c None

abbrev segment_under : Option ℕ → List ℕ → SegValue
segment_under repetition bytes = record {
  start = 0;
  bytes = bytes;
  delims = record { element = 42; component = 62; repetition = repetition; terminator = 126 };
}

abbrev segment_of : List ℕ → SegValue
segment_of = segment_under None

-- the same where ^ is the repetition separator
abbrev repeating : List ℕ → SegValue
repeating = segment_under (Some 94)

abbrev guide_with : Option (List ℕ) → GuideTree
guide_with convention = record {
  head = record {
    name = codes "H";
    group = codes "PO";
    set = codes "850";
    version = codes "005010";
    convention = convention;
    dictionary = [];
    tolerate_segment = [];
    tolerate_element = [];
  };
  hl = None;
  depends = [];
  nodes = no_trees;
}

abbrev asking : List ℕ → GuideTree
asking convention = guide_with (Some convention)

abbrev plain_guide : GuideTree
plain_guide = guide_with None

-- 5 and I5: no fault, neither; a code of each kind, one or both; 8 alone, neither; 8 with an element's code, that code's alone
no_fault : fault_codes [] ≡ []
no_fault = refl

base_segment : fault_codes (of_segment segment.RequiredSegmentMissing ∷ []) ≡ code.SegmentsInError ∷ []
base_segment = refl

implementation_segment : fault_codes (of_segment segment.NotUsedPresent ∷ []) ≡ code.ImplementationSegmentsInError ∷ []
implementation_segment = refl

base_element : fault_codes (of_element element.TooLong ∷ []) ≡ code.SegmentsInError ∷ []
base_element = refl

implementation_element : fault_codes (of_element element.CodeNotUsed ∷ []) ≡ code.ImplementationSegmentsInError ∷ []
implementation_element = refl

eight_alone : fault_codes (of_segment segment.ElementErrors ∷ []) ≡ []
eight_alone = refl

both_kinds : fault_codes (of_element element.CodeNotUsed ∷ of_segment segment.NotInSet ∷ of_element element.PatternFailure ∷ [])
    ≡ code.SegmentsInError ∷ code.ImplementationSegmentsInError ∷ []
both_kinds = refl

-- 1: without a guide alone
guide_missing : guide_codes None ≡ code.NotSupported ∷ []
guide_missing = refl

guide_there : guide_codes (Some plain_guide) ≡ []
guide_there = refl

-- the limits, by their values
least_control : LEAST_CONTROL ≡ 4
least_control = refl

count_digits : COUNT_DIGITS ≡ 10
count_digits = refl

-- 2, 3, 4 and 7
trailer_missing : envelope_codes (segment_of (codes "ST*850*0001")) 3 None ≡ code.TrailerMissing ∷ []
trailer_missing = refl

sound_envelope : envelope_codes (segment_of (codes "ST*850*0001")) 3 (Some (segment_of (codes "SE*0003*0001"))) ≡ []
sound_envelope = refl

three_wrong : envelope_codes (segment_of (codes "ST*850*001")) 4 (Some (segment_of (codes "SE*5*0002")))
    ≡ code.ControlNumbersDiffer ∷ code.SegmentCountWrong ∷ code.ControlNumberInvalid ∷ []
three_wrong = refl

-- I6: another convention alone; an empty ST03 is none
other_convention : convention_codes (Some (asking (codes "Y"))) (segment_of (codes "ST*850*0001*X")) ≡ code.ConventionNotSupported ∷ []
other_convention = refl

same_convention : convention_codes (Some (asking (codes "X"))) (segment_of (codes "ST*850*0001*X")) ≡ []
same_convention = refl

empty_convention : convention_codes (Some (asking (codes "Y"))) (segment_of (codes "ST*850*0001*")) ≡ []
empty_convention = refl

-- separators alone are empty too, each kind; ^ is a byte as any where it separates nothing, and a text with separators is as it stands
component_separator_alone : convention_codes (Some (asking (codes "CONV1"))) (segment_of (codes "ST*850*0001*>")) ≡ []
component_separator_alone = refl

repetition_separator_alone : convention_codes (Some (asking (codes "CONV1"))) (repeating (codes "ST*850*0001*^")) ≡ []
repetition_separator_alone = refl

separators_of_both_kinds : convention_codes (Some (asking (codes "CONV1"))) (repeating (codes "ST*850*0001*>^>")) ≡ []
separators_of_both_kinds = refl

byte_that_separates_nothing : convention_codes (Some (asking (codes "CONV1"))) (segment_of (codes "ST*850*0001*^"))
    ≡ code.ConventionNotSupported ∷ []
byte_that_separates_nothing = refl

convention_and_separator : convention_codes (Some (asking (codes "CONV1"))) (segment_of (codes "ST*850*0001*CONV1>"))
    ≡ code.ConventionNotSupported ∷ []
convention_and_separator = refl

convention_not_asked : convention_codes (Some plain_guide) (segment_of (codes "ST*850*0001*X")) ≡ []
convention_not_asked = refl

convention_without_guide : convention_codes None (segment_of (codes "ST*850*0001*X")) ≡ []
convention_without_guide = refl

-- six codes, of which the first five are kept: the last is put in before it is cut
abbrev faults_of_both : List Fault
faults_of_both = of_segment segment.UnexpectedSegment ∷ of_element element.CodeNotUsed ∷ []

six : all_codes faults_of_both (Some (asking (codes "Y"))) (segment_of (codes "ST*850*001*X")) 3 None true
    ≡ code.SegmentsInError ∷ code.ImplementationSegmentsInError ∷ code.TrailerMissing ∷ code.ControlNumberInvalid
    ∷ code.ControlNumberNotUnique ∷ code.ConventionNotSupported ∷ []
six = refl

first_of_six : set_codes_of faults_of_both (Some (asking (codes "Y"))) (segment_of (codes "ST*850*001*X")) 3 None true
    ≡ code.SegmentsInError ∷ code.ImplementationSegmentsInError ∷ code.TrailerMissing ∷ code.ControlNumberInvalid
    ∷ code.ControlNumberNotUnique ∷ []
first_of_six = refl
