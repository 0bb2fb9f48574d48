-- X12.6, transaction set: when segments meet a guide. A grammar, with neither cursor nor counter.
use Rattle.std.specs.Prelude.{◌≡◌, ◌≤◌, IsTrue, List, [], ◌∷◌, ◌++◌, length, map}
use Rattle.std.specs.List.{AllByRecursion}
use Rattle.guide_tree.specs.declared.slot.Slot.{Slot}
use Rattle.guide_tree.specs.Tree.{Tree, Trees, segment, loop, no_trees, tree, min_of, max_of}
use Rattle.guide_tree.specs.Segments.{Segment, fits}

-- a segment and the slot that a derivation gives it
abbrev pub Given : Type 0
Given = Segment × Slot

-- lists end to end
abbrev pub joined : List (List Given) → List Given
joined [] = []
joined (x ∷ xs) = x ++ joined xs

abbrev mutual
  -- one part of a node: a segment that fits its slot, or what the children of a loop derive
  pub IsPart : Tree → List Given → Type 0
  IsPart (segment slot) xs = (s : Segment) × IsTrue (fits slot s) × (xs ≡ (s, slot) ∷ [])
  IsPart (loop l ts) xs = Derives ts xs

  -- child by child, between minimum and maximum parts of each
  pub Derives : Trees → List Given → Type 0
  Derives no_trees xs = xs ≡ []
  Derives (tree t ts) xs = (parts : List (List Given)) × (rest : List Given) ×
      (min_of t ≤ length parts) × (length parts ≤ max_of t) × AllByRecursion (IsPart t) parts ×
      Derives ts rest × (xs ≡ joined parts ++ rest)

-- the body of a set is derived
abbrev pub IsDerived : Trees → List Segment → Type 0
IsDerived ts body = (xs : List Given) × (map (λ x. x.0) xs ≡ body) × Derives ts xs
