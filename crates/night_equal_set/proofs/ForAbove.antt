-- The lemmas of this crate on which those above it stand.
pub use Rattle.night_equal_set.proofs.Firsts.{keeps}
