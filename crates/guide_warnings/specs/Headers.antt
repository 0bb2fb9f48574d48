-- X12.5, interchange header; 999 guide (005010X231), IK304: the guides by which a segment is accepted that begins with ISA.
use Rattle.std.specs.Prelude.{Bool, ◌==◌, ◌&&◌, ◌||◌, codes}
use Rattle.std.specs.List.{list_any}
use Rattle.hub_kinds.specs.Words.{contains_text, segment_rank}
use Rattle.hub_kinds.specs.declared.codes.SegmentCode.{SegmentCode}
use Rattle.hub_kinds.specs.declared.codes.SegmentCode.TheVariants as ik304
use Rattle.guide_tree.specs.declared.rows.GuideHead.{GuideHead}

-- the guide tolerates an IK304
abbrev pub tolerates : GuideHead → SegmentCode → Bool
tolerates head code = list_any (λ c. segment_rank c == segment_rank code) head.tolerate_segment

-- it tolerates segments that nobody knows; or those that the standard's set has and it doesn't, and counts ISA among them
abbrev pub lets_headers_through : GuideHead → Bool
lets_headers_through head =
    tolerates head ik304.UnrecognizedSegment
    || (tolerates head ik304.NotInSet && contains_text head.dictionary (codes "ISA"))
