-- The lemmas of this crate on which those above it stand.
pub use Rattle.set_answers.proofs.Duplicates.{by_differs, told_by_first_use}
pub use Rattle.set_answers.proofs.Growing.{at_index, length_snoc, map_snoc, mapped_at}
pub use Rattle.set_answers.proofs.Numbered.{by_numbers, keys_joined}
pub use Rattle.set_answers.proofs.Pairing.{no_pairs, pairs_more}
pub use Rattle.set_answers.proofs.Putting.{there_is}
pub use Rattle.set_answers.proofs.Settling.{faults_length, settled_spans}
pub use Rattle.set_answers.proofs.Telling.{asked_told}
