-- The lemmas of this crate on which those above it stand.
pub use Rattle.moment.proofs.Both.{both}
pub use Rattle.moment.proofs.Moments.{digits_decided}
