-- The lemmas of this crate on which those above it stand.
pub use Rattle.job_pool.proofs.Gathered.{gathered, numbered}
