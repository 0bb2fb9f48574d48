-- X12.6, segment (own): the first pick of a slot by numbers, by which a segment that isn't picked is passed over.
use Rattle.std.specs.Prelude.{ℕ, ◌≡◌, ◌==◌, Bool, ◌||◌, List, [], ◌∷◌, map}
use Rattle.guide_tree.specs.declared.node.Node.{Node}
use Rattle.guide_tree.specs.declared.slot.Slot.{Slot}
use Rattle.guide_tree.specs.declared.slot.Pick.{Pick}
use Rattle.guide_tree.specs.Words.{Tree, segment, loop, no_trees, tree, Segment, element_at, view}
use Rattle.guide_fast.specs.IdNumber.{id_number}
use Rattle.guide_fast.specs.declared.first_pick.FirstPick.{FirstPick}
use Rattle.guide_fast.specs.declared.first_pick.Asked.{Asked}

-- the number of a code that is the only one; else 0
abbrev pub code_number : List (List ℕ) → ℕ
code_number [] = 0
code_number (c ∷ []) = id_number c
code_number (c ∷ d ∷ more) = 0

abbrev pub no_pick : FirstPick
no_pick = record { position = 0; value = 0 }

abbrev pub first_pick : List Pick → FirstPick
first_pick [] = no_pick
first_pick (p ∷ ps) = record { position = p.position; value = code_number p.codes }

abbrev pub slot_pick : Slot → FirstPick
slot_pick x = first_pick x.picks

-- that of the slot that a node begins with
abbrev pub tree_pick : Tree → FirstPick
tree_pick (segment x) = slot_pick x
tree_pick (loop l no_trees) = no_pick
tree_pick (loop l (tree (segment x) ts)) = slot_pick x
tree_pick (loop l (tree (loop k us) ts)) = no_pick

abbrev pub begin_pick : Node → FirstPick
begin_pick n = tree_pick (view n)

abbrev pub begin_picks : List Node → List FirstPick
begin_picks ns = map begin_pick ns

abbrev pub slot_picks : List Slot → List FirstPick
slot_picks slots = map slot_pick slots

-- the number of the element is that of the one code, or no number is known
abbrev pub may_pick : Segment → FirstPick → Bool
may_pick s p = (p.value == 0) || (p.value == id_number (element_at s p.position))

-- the number of the element at a position
abbrev pub HasValue : Segment → Asked → Type 0
HasValue s a = a.value ≡ id_number (element_at s a.position)
