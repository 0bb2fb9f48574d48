-- The lemmas of this crate on which those above it stand.
pub use Rattle.cut_plan.proofs.Pieces.{length-pieces}
pub use Rattle.cut_plan.proofs.Whole.{range-split}
