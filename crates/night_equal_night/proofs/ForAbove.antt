-- The lemmas of this crate on which those above it stand.
pub use Rattle.night_equal_night.proofs.Checks.{that_set}
pub use Rattle.night_equal_night.proofs.Interchanges.{IsReady}
pub use Rattle.night_equal_night.proofs.Known.{TextLaws, known_answers, known_plain, known_seen, known_told}
pub use Rattle.night_equal_night.proofs.Ready.{ready}
