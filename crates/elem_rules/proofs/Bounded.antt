-- What the bounds of a slot say of its rows.
use Rattle.std.proofs.Common.{◌≤◌, length, refl}
use Rattle.std.specs.Prelude.{IsTrue, ◌&&◌, nat_le}
use Rattle.std.specs.List.{All, list_all}
use Rattle.std.proofs.lemmas.Bool.{leb-true}
use Rattle.std.proofs.lemmas.Bool.Decides.{Decides-by_and}
use Rattle.guide_tree.specs.declared.slot.Slot.{Slot}
use Rattle.guide_tree.specs.Words.{is_slot_bounded, is_element_bounded, is_use_range, is_slot_id}
use Rattle.moment.proofs.ForAbove.{both}

pub rows_few : (s : Slot) → IsTrue (is_slot_bounded s) → length s.elements ≤ 40
rows_few s h =
    let a = both ((is_use_range s.min s.max && is_slot_id s.id) && nat_le (length s.elements) 40)
    (list_all is_element_bounded s.elements) h in
    let b = both (is_use_range s.min s.max && is_slot_id s.id) (nat_le (length s.elements) 40) a.0 in
    leb-true (length s.elements) 40 b.1

pub rows_bounded : (s : Slot) → IsTrue (is_slot_bounded s) → All (λ row. IsTrue (is_element_bounded row)) s.elements
rows_bounded s h =
    let a = both ((is_use_range s.min s.max && is_slot_id s.id) && nat_le (length s.elements) 40)
    (list_all is_element_bounded s.elements) h in
    (Decides-by_and is_element_bounded (λ row. IsTrue (is_element_bounded row)) (list_all is_element_bounded)
    (λ row. (λ t. t, λ t. t)) refl (λ _ _. refl) s.elements).0 a.1
