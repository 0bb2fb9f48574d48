-- The lemmas of this crate on which those above it stand.
pub use Rattle.partner_setup.proofs.Marks.{Four, ends, four, no_letter, undivided}
pub use Rattle.partner_setup.proofs.Sending.{sendable}
pub use Rattle.partner_setup.proofs.Sounding.{targets_apart, targets_within}
pub use Rattle.partner_setup.proofs.Tabling.{more_kept}
