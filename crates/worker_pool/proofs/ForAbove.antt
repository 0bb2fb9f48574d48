-- The lemmas of this crate on which those above it stand.
pub use Rattle.worker_pool.proofs.Placing.{placed_by}
