-- The lemmas of this crate on which those above it stand.
pub use Rattle.night_equal_guides.proofs.Guides.{guide_bytes_are_one}
pub use Rattle.night_equal_guides.proofs.Steps.{IsGiven, asked_is, each_is, first_if, gives, known_is, may, needs, number_is, of_ok, ok_is}
pub use Rattle.night_equal_guides.proofs.Steps.{required_is, same_steps, skips, tables_are, turned}
