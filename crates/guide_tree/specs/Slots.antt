-- X12.6, segment: the slots of a guide by their numbers (own), and what each of them keeps to.
use Rattle.std.specs.Prelude.{ℕ, ◌==◌, Option, Bool, IsTrue}
use Rattle.std.specs.List.{list_all}
use Rattle.guide_tree.specs.declared.slot.Slot.{Slot}
use Rattle.guide_tree.specs.Tree.{Trees, find_slot}
use Rattle.guide_tree.specs.Bounds.{is_slot_bounded}
use Rattle.guide_tree.specs.Conditions.{is_condition_of}

abbrev pub has_slot_number : ℕ → Slot → Bool
has_slot_number number s = s.number == number

-- the slot with a number, where a segment has it
abbrev pub slot_numbered : Trees → ℕ → Option Slot
slot_numbered ts number = find_slot (has_slot_number number) ts

-- the slot keeps the bounds, and its relational conditions speak of elements that have rows
pub record IsSound (s : Slot) : Type 0 where
  pub bounded : IsTrue (is_slot_bounded s)
  pub conditioned : IsTrue (list_all (is_condition_of s) s.conditions)
