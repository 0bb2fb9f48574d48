-- The lemmas of this crate on which those above it stand.
pub use Rattle.depend_check.proofs.Keyed.{one_dependency_fault}
pub use Rattle.depend_check.proofs.Whole.{dependencies_kept, dependencies_of_placed}
