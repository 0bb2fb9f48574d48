-- The lemmas of this crate on which those above it stand.
pub use Rattle.night_command.proofs.Opening.{of_opened}
