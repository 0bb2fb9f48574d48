-- The lemmas of this crate on which those above it stand.
pub use Rattle.night_equal.proofs.Envelopes.{read_is_derived}
pub use Rattle.night_equal.proofs.Headers.{heads}
pub use Rattle.night_equal.proofs.Reaches.{same_reach}
pub use Rattle.night_equal.proofs.Segments.{segments_are}
pub use Rattle.night_equal.proofs.Summaries.{same_kind}
