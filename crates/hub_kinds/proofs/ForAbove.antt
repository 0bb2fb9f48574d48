-- The lemmas of this crate on which those above it stand.
pub use Rattle.hub_kinds.proofs.Once.{none_rises}
