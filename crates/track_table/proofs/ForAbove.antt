-- The lemmas of this crate on which those above it stand.
pub use Rattle.track_table.proofs.Behind.{last_snoc}
pub use Rattle.track_table.proofs.Chunks.{begins, group_total_snoc}
pub use Rattle.track_table.proofs.Targets.{apart_from, groups_stay}
