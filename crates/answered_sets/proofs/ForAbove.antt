-- The lemmas of this crate on which those above it stand.
pub use Rattle.answered_sets.proofs.Stretch.{neither, none_divided, none_dropped, none_taken, nor}
