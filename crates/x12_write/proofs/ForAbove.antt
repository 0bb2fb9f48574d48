-- The lemmas of this crate on which those above it stand.
pub use Rattle.x12_write.proofs.Begins.{begins-longer}
pub use Rattle.x12_write.proofs.Fields.{length-elements_text}
pub use Rattle.x12_write.proofs.Headers.{header-read}
pub use Rattle.x12_write.proofs.Plain.{both, decimal-undivided, is_plain, padded_number-undivided, plain-undivided, set_number-undivided}
pub use Rattle.x12_write.proofs.Trimming.{before_rest-some, trimmed-push_full}
