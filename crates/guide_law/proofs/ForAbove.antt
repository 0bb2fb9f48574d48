-- The lemmas of this crate on which those above it stand.
pub use Rattle.guide_law.proofs.Among.{contains_in, in_cases, in_contains, in_left, in_map, in_mapped, in_right}
pub use Rattle.guide_law.proofs.Coming.{nexts_come}
pub use Rattle.guide_law.proofs.Computed.{Found, first_found, is_placing, only_placing}
pub use Rattle.guide_law.proofs.Conforming.{derived_is_placed, placed_is_derived}
pub use Rattle.guide_law.proofs.Faulty.{members}
pub use Rattle.guide_law.proofs.Keyed.{IsNamed, IsNamedIn, keyed, one_named}
pub use Rattle.guide_law.proofs.Placed.{placed_one_way, triggers}
