-- The lemmas of this crate on which those above it stand.
pub use Rattle.x12_segs.proofs.CutLemmas.{rest_from-cut, segs_from-cut, segs_of-moved, span-split, span_of}
pub use Rattle.x12_segs.proofs.FirstLemmas.{IsFirstSeg, first_byte, first_seg}
pub use Rattle.x12_segs.proofs.KindLemmas.{other_segment}
pub use Rattle.x12_segs.proofs.OrderLemmas.{StandInOrder, segs_in_order}
pub use Rattle.x12_segs.proofs.PartLemmas.{now_or_empty, parts-found, parts-none}
pub use Rattle.x12_segs.proofs.RunLemmas.{stands_alone}
pub use Rattle.x12_segs.proofs.SegLemmas.{IsCut, cut_found, drop-slice_range, part_at-none, part_at-some, rest_from-found, rest_from-none}
pub use Rattle.x12_segs.proofs.SegLemmas.{rest_of-cons, segs_from-found, segs_from-none, segs_of-cons, without_line_ends-slice}
pub use Rattle.x12_segs.proofs.ShortIds.{id_found}
