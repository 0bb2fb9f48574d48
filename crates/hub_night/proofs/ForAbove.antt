-- The lemma of this crate on which those above it stand.
pub use Rattle.hub_night.proofs.Sharing.{given_within}
