-- X12.6, transaction set (own): the slot of each node of a guide by the nodes' numbers, parents first, and the flat slots that are so.
use Rattle.std.specs.Prelude.{◌≡◌, List, [], ◌∷◌, ◌++◌, map, length, Option, Some, None}
use Rattle.guide_tree.specs.declared.slot.Slot.{Slot}
use Rattle.guide_tree.specs.Words.{Tree, Trees, segment, loop, no_trees, tree, Place, slot_at}
use Rattle.elem_rules.specs.declared.flat_slot.FlatSlot.{FlatSlot}
use Rattle.elem_rules.specs.Flat.{ArePairs, IsFlatSlot}
use denote.Ref.{Bor}

-- a loop has no slot
abbrev mutual
  pub slots_in : Tree → List (Option Slot)
  slots_in (segment s) = Some s ∷ []
  slots_in (loop l ts) = None ∷ slots_of ts

  pub slots_of : Trees → List (Option Slot)
  slots_of no_trees = []
  slots_of (tree t ts) = slots_in t ++ slots_of ts

-- nodes are numbered from 1 on
abbrev pub numbered_slots : Trees → List (Option Slot)
numbered_slots ts = None ∷ slots_of ts

abbrev pub lent_slot : Option (Bor Slot) → Option Slot
lent_slot None = None
lent_slot (Some s) = Some s.now

abbrev pub lent_slots : List (Option (Bor Slot)) → List (Option Slot)
lent_slots slots = map lent_slot slots

-- some place of the guide leads to the slot
abbrev pub IsSlotOf : Trees → Slot → Type 0
IsSlotOf ts s = (q : Place) × (slot_at ts q ≡ Some s)

-- of a loop nothing is said
abbrev pub IsFlatNode : FlatSlot → Option Slot → Type 0
IsFlatNode flat None = Unit {0}
IsFlatNode flat (Some s) = IsFlatSlot flat s

-- each slot has its flat slot at its number
abbrev pub AreFlatNodes : List FlatSlot → List (Option Slot) → Type 0
AreFlatNodes flats slots = (length flats ≡ length slots) × ArePairs IsFlatNode flats slots
