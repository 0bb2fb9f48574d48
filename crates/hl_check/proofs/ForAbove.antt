-- The lemmas of this crate on which those above it stand.
pub use Rattle.hl_check.proofs.Keyed.{one_hierarchy_fault}
pub use Rattle.hl_check.proofs.Whole.{hierarchy_of_placed, hierarchy_whole}
