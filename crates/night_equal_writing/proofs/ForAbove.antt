-- The lemmas of this crate on which those above it stand.
pub use Rattle.night_equal_writing.proofs.Acknowledgments.{accepted_is, same_either}
pub use Rattle.night_equal_writing.proofs.Answers.{filtered}
pub use Rattle.night_equal_writing.proofs.Blocked.{in_way, inner_are, own_is_none, segs_in}
pub use Rattle.night_equal_writing.proofs.Boxes.{interchanges_zip}
pub use Rattle.night_equal_writing.proofs.Cleaning.{clean_is}
pub use Rattle.night_equal_writing.proofs.Deliveries.{alone_seen, deliverable_is, goes, goes_is, refused_none}
pub use Rattle.night_equal_writing.proofs.Totals.{groups_within_are}
