-- The lemmas of this crate on which those above it stand.
pub use Rattle.stream_read.proofs.Known.{consumes_on}
