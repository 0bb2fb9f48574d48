-- The lemmas of this crate on which those above it stand.
pub use Rattle.isa_scan.proofs.HeadLemmas.{head_none, head_one, head_within, heads_both, heads_none, no_heads}
pub use Rattle.isa_scan.proofs.Worked.{bars, one_order, stars, text}
