-- X12.6, transaction set (own): the segments' slots of a guide in their order, and whether a segment fits one of some.
use Rattle.std.specs.Prelude.{ℕ, List, [], ◌∷◌, ◌++◌, map, Option, Some, None, Bool, false, ◌||◌, slice_get}
use Rattle.guide_tree.specs.declared.slot.Slot.{Slot}
use Rattle.guide_tree.specs.Words.{Tree, Trees, segment, loop, no_trees, tree, Segment, fits}
use denote.Ref.{Bor}

abbrev mutual
  pub slots_in : Tree → List Slot
  slots_in (segment s) = s ∷ []
  slots_in (loop l ts) = slots_of ts

  pub slots_of : Trees → List Slot
  slots_of no_trees = []
  slots_of (tree t ts) = slots_in t ++ slots_of ts

abbrev pub slot_id : Slot → List ℕ
slot_id s = s.id

abbrev pub slot_ids : List Slot → List (List ℕ)
slot_ids slots = map slot_id slots

abbrev pub lent_slots : List (Bor Slot) → List Slot
lent_slots slots = map (λ s. s.now) slots

abbrev pub fits_it : Segment → Option Slot → Bool
fits_it s None = false
fits_it s (Some x) = fits x s

abbrev pub fits_at : Segment → List Slot → (place : ℕ) → Bool
fits_at s slots k = fits_it s (slice_get slots k)

abbrev pub any_listed : Segment → List Slot → (places : List ℕ) → Bool
any_listed s slots [] = false
any_listed s slots (k ∷ ks) = fits_at s slots k || any_listed s slots ks
