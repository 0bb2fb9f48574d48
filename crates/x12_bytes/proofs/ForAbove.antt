-- The lemmas of this crate on which those above it stand.
pub use Rattle.x12_bytes.proofs.Testing.{decides_head}
