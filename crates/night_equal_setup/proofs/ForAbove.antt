-- The lemmas of this crate on which those above it stand.
pub use Rattle.night_equal_setup.proofs.Setups.{setup_bytes_are_one}
pub use Rattle.night_equal_setup.proofs.Texts.{counters_texts_are_one}
