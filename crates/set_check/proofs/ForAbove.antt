-- The lemmas of this crate on which those above it stand.
pub use Rattle.set_check.proofs.Crossing.{checked_send}
pub use Rattle.set_check.proofs.Keyed.{one_rule_fault, set_keyed}
pub use Rattle.set_check.proofs.Once.{one_check}
pub use Rattle.set_check.proofs.Verdicts.{meets_by}
