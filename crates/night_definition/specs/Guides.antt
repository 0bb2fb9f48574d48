-- X12.6, transaction set: a guide, and the bodies that its nodes derive. Picks, labels and slot numbers are own.
use Rattle.std.specs.Prelude.{ℕ, ◌≡◌, ◌≤◌, Bool, ◌&&◌, IsTrue, List, [], ◌∷◌, ◌++◌, length, bytes_eq}
use Rattle.std.specs.List.{list_all, list_any, AllByRecursion}
use Rattle.guide_tree.specs.declared.slot.Slot.{Slot}
use Rattle.guide_tree.specs.Tree.{Tree, Trees, segment, loop, no_trees, tree}
use Rattle.night_definition.specs.Segments.{Elements, element}

abbrev pub is_among : List (List ℕ) → List ℕ → Bool
is_among texts text = list_any (λ t. bytes_eq t text) texts

-- a segment fits a slot: it has the slot's id and, in each element that the slot picks by, one of the listed codes
abbrev pub fits : Slot → Elements → Bool
fits slot s = bytes_eq slot.id (element 0 s) && list_all (λ p. is_among p.codes (element p.position s)) slot.picks

abbrev pub min_of : Tree → ℕ
min_of (segment s) = s.min
min_of (loop l ts) = l.min

abbrev pub max_of : Tree → ℕ
max_of (segment s) = s.max
max_of (loop l ts) = l.max

abbrev pub number_of_node : Tree → ℕ
number_of_node (segment s) = s.number
number_of_node (loop l ts) = l.number

-- a segment, and the slot that a derivation gives it
abbrev pub Given : Type 0
Given = Elements × Slot

abbrev pub joined : {A : Type 0} → List (List A) → List A
joined [] = []
joined (xs ∷ more) = xs ++ joined more

abbrev mutual
  -- a part of a segment node is one segment that fits it; a part of a loop is what its children derive
  pub IsPart : Tree → List Given → Type 0
  IsPart (segment slot) xs = (s : Elements) × IsTrue (fits slot s) × (xs ≡ (s, slot) ∷ [])
  IsPart (loop l ts) xs = Derives ts xs

  -- child by child, a list consists of between minimum and maximum parts
  pub Derives : Trees → List Given → Type 0
  Derives no_trees xs = xs ≡ []
  Derives (tree t ts) xs = (parts : List (List Given)) × (rest : List Given) ×
      (min_of t ≤ length parts) × (length parts ≤ max_of t) × AllByRecursion (IsPart t) parts ×
      Derives ts rest × (xs ≡ joined parts ++ rest)

abbrev mutual
  pub slots_in : (loop_id : List ℕ) → Tree → List (Slot × List ℕ)
  slots_in loop_id (segment s) = (s, loop_id) ∷ []
  slots_in loop_id (loop l ts) = slots l.id ts

  -- all slots, each with the id of its innermost loop
  pub slots : (loop_id : List ℕ) → Trees → List (Slot × List ℕ)
  slots loop_id no_trees = []
  slots loop_id (tree t ts) = slots_in loop_id t ++ slots loop_id ts
