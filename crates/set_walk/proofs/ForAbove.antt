-- The lemmas of this crate on which those above it stand.
pub use Rattle.set_walk.proofs.Apart.{apart_at, one_elem, same_apart, structure_is_not}
pub use Rattle.set_walk.proofs.SoundPlaces.{sound_places}
