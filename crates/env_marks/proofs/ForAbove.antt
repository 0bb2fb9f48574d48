-- The lemmas of this crate on which those above it stand.
pub use Rattle.env_marks.proofs.Gathered.{values-more}
pub use Rattle.env_marks.proofs.PartSteps.{IsPartCut, marking_found, part_found}
