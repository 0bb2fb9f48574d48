-- The lemmas of this crate on which those above it stand.
pub use Rattle.gather_files.proofs.Alone.{files_are_read, nothing_alone}
