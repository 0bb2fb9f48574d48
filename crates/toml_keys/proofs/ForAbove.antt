-- The lemmas of this crate on which those above it stand.
pub use Rattle.toml_keys.proofs.ReadSteps.{adds, lacks_all}
pub use Rattle.toml_keys.proofs.RowSteps.{next_row, row_added, row_fails}
