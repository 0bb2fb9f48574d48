-- 999 guide, IK304 and IK403: what a difference of two guides makes wrong.
use Rattle.std.specs.Prelude.{Bool, true, false, ◌||◌}
use Rattle.hub_kinds.specs.declared.codes.ElementCode.{ElementCode}
use Rattle.hub_kinds.specs.declared.codes.ElementCode.TheVariants as element
use Rattle.hub_kinds.specs.declared.codes.SegmentCode.{SegmentCode}
use Rattle.hub_kinds.specs.declared.codes.SegmentCode.TheVariants as segment
use Rattle.guide_tree.specs.declared.slot.Relation.{Relation}
use Rattle.guide_tree.specs.declared.slot.Relation.TheVariants.{Exclusion}
use Rattle.guide_widening.specs.declared.difference.Key.{Key}
use Rattle.guide_widening.specs.declared.difference.Key.TheVariants as key

-- an element or a component is missing, or there although it isn't used
abbrev pub is_of_presence : ElementCode → Bool
is_of_presence element.RequiredMissing = true
is_of_presence element.NotUsedPresent = true
is_of_presence element.TooManyElements = true
is_of_presence element.TooManyComponents = true
is_of_presence other = false

abbrev pub is_too_often : ElementCode → Bool
is_too_often element.TooManyRepetitions = true
is_too_often other = false

-- a value isn't of its type; the type says what counts as its length, too
abbrev pub is_of_type : ElementCode → Bool
is_of_type element.InvalidCharacter = true
is_of_type element.InvalidDate = true
is_of_type element.InvalidTime = true
is_of_type element.TooShort = true
is_of_type element.TooLong = true
is_of_type other = false

abbrev pub is_too_short : ElementCode → Bool
is_too_short element.TooShort = true
is_too_short other = false

abbrev pub is_too_long : ElementCode → Bool
is_too_long element.TooLong = true
is_too_long other = false

abbrev pub is_of_bytes : ElementCode → Bool
is_of_bytes element.InvalidCharacter = true
is_of_bytes other = false

-- a code isn't listed, or is listed as not used
abbrev pub is_of_codes : ElementCode → Bool
is_of_codes element.InvalidCode = true
is_of_codes element.CodeNotUsed = true
is_of_codes other = false

-- what the relation reports
abbrev pub is_of_relation : Relation → ElementCode → Bool
is_of_relation Exclusion element.ExclusionViolated = true
is_of_relation Exclusion other = false
is_of_relation relation element.ConditionalMissing = true
is_of_relation relation other = false

-- HL01, HL02 or HL04 is wrong
abbrev pub is_of_numbers : ElementCode → Bool
is_of_numbers element.PatternFailure = true
is_of_numbers other = false

-- HL03 isn't listed
abbrev pub is_of_level : ElementCode → Bool
is_of_level element.CodeNotUsed = true
is_of_level other = false

-- what is wrong with an element, by what the guides say otherwise of it, or of the hierarchy
abbrev pub is_element_code : Key → ElementCode → Bool
is_element_code key.Presence code = is_of_presence code
is_element_code key.Components code = is_of_presence code
is_element_code key.Repeat code = is_too_often code
is_element_code key.Type code = is_of_type code
is_element_code key.LeastLength code = is_too_short code
is_element_code key.GreatestLength code = is_too_long code
is_element_code key.Wide code = is_of_bytes code
is_element_code key.Codes code = is_of_codes code
is_element_code key.Code code = is_of_codes code
is_element_code key.Hierarchy code = is_of_numbers code || is_of_level code
is_element_code key.Sequential code = is_of_numbers code
is_element_code key code = false

-- there are too few uses, or none
abbrev pub is_too_few : SegmentCode → Bool
is_too_few segment.RequiredSegmentMissing = true
is_too_few segment.SegmentTooSeldom = true
is_too_few segment.LoopTooSeldom = true
is_too_few other = false

abbrev pub is_too_many : SegmentCode → Bool
is_too_many segment.SegmentTooOften = true
is_too_many segment.LoopTooOften = true
is_too_many segment.NotUsedPresent = true
is_too_many other = false

-- the segment has no place in the guide, or none here
abbrev pub is_of_stray : SegmentCode → Bool
is_of_stray segment.UnrecognizedSegment = true
is_of_stray segment.UnexpectedSegment = true
is_of_stray segment.NotInSet = true
is_of_stray segment.OutOfSequence = true
is_of_stray other = false

-- what is wrong with a segment that has a place, or should have one, by what the guides say otherwise of its uses
abbrev pub is_segment_code : Key → SegmentCode → Bool
is_segment_code key.Node code = is_too_few code
is_segment_code key.LeastUse code = is_too_few code
is_segment_code key.GreatestUse code = is_too_many code
is_segment_code key code = false
