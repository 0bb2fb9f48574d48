-- The lemmas of this crate on which those above it stand.
pub use Rattle.night_report.proofs.Adding.{none_with, with_none}
pub use Rattle.night_report.proofs.Joined.{lines_joined, totals_joined}
