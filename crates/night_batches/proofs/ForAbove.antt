-- The lemmas of this crate on which those above it stand.
pub use Rattle.night_batches.proofs.Joining.{night_of_written, rendered_length}
pub use Rattle.night_batches.proofs.Starting.{first_written, nothing_acknowledged, nothing_is_written}
