-- The lemmas of this crate on which those above it stand.
pub use Rattle.set_findings.proofs.Settling.{alone_long, settled_long, settled_twice, with_long}
