-- The lemmas of this crate on which those above it stand.
pub use Rattle.elem_rules.proofs.Agreeing.{broken_same, broken_within, positions_have_rows, text_of_row}
pub use Rattle.elem_rules.proofs.FlatRows.{same_code}
pub use Rattle.elem_rules.proofs.Members.{contains_one, from_flat_map, from_if, from_option, in_flat_map, in_option, in_then, no_member}
pub use Rattle.elem_rules.proofs.Members.{one_contains}
pub use Rattle.elem_rules.proofs.Membership.{found_is, is_found, keyed}
pub use Rattle.elem_rules.proofs.Places.{part_between, part_past, place_below, place_within}
pub use Rattle.elem_rules.proofs.Shown.{composite_shows, simple_shows}
