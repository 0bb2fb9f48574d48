-- The lemmas of this crate on which those above it stand.
pub use Rattle.track_equal.proofs.Tables.{Laws, clean_report, table_is}
