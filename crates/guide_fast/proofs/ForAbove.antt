-- The lemmas of this crate on which those above it stand.
pub use Rattle.guide_fast.proofs.Crossing.{fast_sync}
