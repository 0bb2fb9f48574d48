-- The lemmas of this crate on which those above it stand.
pub use Rattle.count_numbers.proofs.Counts.{numbers_counted}
pub use Rattle.count_numbers.proofs.Interchanges.{first_interchange, no_interchange, not_none}
