-- 999 guide, the code lists of IK304 and IK403: their texts, and their order.
use Rattle.std.specs.Prelude.{ℕ, List, codes}
use Rattle.hub_kinds.specs.declared.codes.SegmentCode.{SegmentCode}
use Rattle.hub_kinds.specs.declared.codes.SegmentCode.TheVariants as seg
use Rattle.hub_kinds.specs.declared.codes.ElementCode.{ElementCode}
use Rattle.hub_kinds.specs.declared.codes.ElementCode.TheVariants as elem

-- IK304
abbrev pub segment_code_text : SegmentCode → List ℕ
segment_code_text seg.UnrecognizedSegment = codes "1"
segment_code_text seg.UnexpectedSegment = codes "2"
segment_code_text seg.RequiredSegmentMissing = codes "3"
segment_code_text seg.LoopTooOften = codes "4"
segment_code_text seg.SegmentTooOften = codes "5"
segment_code_text seg.NotInSet = codes "6"
segment_code_text seg.OutOfSequence = codes "7"
segment_code_text seg.ElementErrors = codes "8"
segment_code_text seg.NotUsedPresent = codes "I4"
segment_code_text seg.DependentMissing = codes "I6"
segment_code_text seg.LoopTooSeldom = codes "I7"
segment_code_text seg.SegmentTooSeldom = codes "I8"
segment_code_text seg.DependentNotUsedPresent = codes "I9"

-- IK403
abbrev pub element_code_text : ElementCode → List ℕ
element_code_text elem.RequiredMissing = codes "1"
element_code_text elem.ConditionalMissing = codes "2"
element_code_text elem.TooManyElements = codes "3"
element_code_text elem.TooShort = codes "4"
element_code_text elem.TooLong = codes "5"
element_code_text elem.InvalidCharacter = codes "6"
element_code_text elem.InvalidCode = codes "7"
element_code_text elem.InvalidDate = codes "8"
element_code_text elem.InvalidTime = codes "9"
element_code_text elem.ExclusionViolated = codes "10"
element_code_text elem.TooManyRepetitions = codes "12"
element_code_text elem.TooManyComponents = codes "13"
element_code_text elem.CodeNotUsed = codes "I6"
element_code_text elem.DependentMissing = codes "I9"
element_code_text elem.NotUsedPresent = codes "I10"
element_code_text elem.PatternFailure = codes "I12"
element_code_text elem.DependentNotUsedPresent = codes "I13"

-- the order of the segment codes
abbrev pub segment_rank : SegmentCode → ℕ
segment_rank seg.UnrecognizedSegment = 0
segment_rank seg.UnexpectedSegment = 1
segment_rank seg.RequiredSegmentMissing = 2
segment_rank seg.LoopTooOften = 3
segment_rank seg.SegmentTooOften = 4
segment_rank seg.NotInSet = 5
segment_rank seg.OutOfSequence = 6
segment_rank seg.ElementErrors = 7
segment_rank seg.NotUsedPresent = 8
segment_rank seg.DependentMissing = 9
segment_rank seg.LoopTooSeldom = 10
segment_rank seg.SegmentTooSeldom = 11
segment_rank seg.DependentNotUsedPresent = 12

-- the order of the element codes
abbrev pub element_rank : ElementCode → ℕ
element_rank elem.RequiredMissing = 0
element_rank elem.ConditionalMissing = 1
element_rank elem.TooManyElements = 2
element_rank elem.TooShort = 3
element_rank elem.TooLong = 4
element_rank elem.InvalidCharacter = 5
element_rank elem.InvalidCode = 6
element_rank elem.InvalidDate = 7
element_rank elem.InvalidTime = 8
element_rank elem.ExclusionViolated = 9
element_rank elem.TooManyRepetitions = 10
element_rank elem.TooManyComponents = 11
element_rank elem.CodeNotUsed = 12
element_rank elem.DependentMissing = 13
element_rank elem.NotUsedPresent = 14
element_rank elem.PatternFailure = 15
element_rank elem.DependentNotUsedPresent = 16
