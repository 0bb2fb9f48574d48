-- The lemmas of this crate on which those above it stand.
pub use Rattle.guide_toml.proofs.FileBytes.{SaysNone, SaysOf, fault_is, guide_fault_is, guide_is, has_table, one_or_none, rows_are}
pub use Rattle.guide_toml.proofs.Forests.{depth_at, item_depth, list_depth, member_depth}
