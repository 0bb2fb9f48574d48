-- The lemmas of this crate on which those above it stand.
pub use Rattle.night_search.proofs.Searching.{lines_more, taken}
