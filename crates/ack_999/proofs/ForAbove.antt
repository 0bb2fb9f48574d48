-- The lemmas of this crate on which those above it stand.
pub use Rattle.ack_999.proofs.Parts.{text_999-parts}
pub use Rattle.ack_999.proofs.ReadBack.{IsReadable, segments_text-reads_back, trimmed-all}
pub use Rattle.ack_999.proofs.Readable.{readable-999}
pub use Rattle.ack_999.proofs.ReadableFaults.{readable}
