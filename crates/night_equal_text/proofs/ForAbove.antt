-- The lemmas of this crate on which those above it stand.
pub use Rattle.night_equal_text.proofs.Following.{sets_kept_on}
pub use Rattle.night_equal_text.proofs.Spanning.{inner_is, trailer_is}
