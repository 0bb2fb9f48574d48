-- The lemmas of this crate on which those above it stand.
pub use Rattle.hub_folder.proofs.Zips.{zip_mapped, zip_more}
