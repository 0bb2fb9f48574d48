-- What may still come after a place: the other half of a derivation.
use Rattle.std.specs.Prelude.{ℕ, zero, suc, ◌+◌, ◌≡◌, ◌≤◌, ◌⊎◌, List, [], ◌∷◌, ◌++◌, length}
use Rattle.std.specs.List.{AllByRecursion}
use Rattle.guide_tree.specs.Words.{Tree, Trees, segment, loop, no_trees, tree, min_of, max_of, Given, IsPart, Derives, joined, Place}
use Rattle.guide_tree.specs.Words.{IsFirst}

-- the first child of each loop is a segment that stands there exactly once
abbrev pub HasTrigger : Trees → Type 0
HasTrigger no_trees = ⊥
HasTrigger (tree (segment p) ts) = (p.min ≡ 1) × (p.max ≡ 1)
HasTrigger (tree (loop l us) ts) = ⊥

abbrev mutual
  pub Triggered : Tree → Type 0
  Triggered (segment p) = Unit {0}
  Triggered (loop l ts) = HasTrigger ts × AllTriggered ts

  pub AllTriggered : Trees → Type 0
  AllTriggered no_trees = Unit {0}
  AllTriggered (tree t ts) = Triggered t × AllTriggered ts

abbrev mutual
  -- the rest of one part of a tree, after a place in it
  pub AfterIn : Tree → Place → List Given → Type 0
  AfterIn (segment p) [] xs = xs ≡ []
  AfterIn (segment p) (a ∷ q) xs = ⊥
  AfterIn (loop l ts) [] xs = ⊥
  AfterIn (loop l ts) (a ∷ q) xs = After ts a.child a.use_no q xs

  -- the rest of what the trees derive, after a place in use number r of child n
  pub After : Trees → (n r : ℕ) → Place → List Given → Type 0
  After no_trees n r q xs = ⊥
  After (tree t ts) (suc n) r q xs = After ts n r q xs
  After (tree t ts) zero r q xs = (inner : List Given) × (parts : List (List Given)) × (rest : List Given) ×
      (min_of t ≤ length parts + r + 1) × (length parts + r + 1 ≤ max_of t) × AfterIn t q inner ×
      AllByRecursion (IsPart t) parts × Derives ts rest × (xs ≡ inner ++ (joined parts ++ rest))

-- where a part of the tree begins: at its segment, or at its loop's first child
abbrev pub IsStart : Tree → Place → Type 0
IsStart (segment p) [] = Unit {0}
IsStart (segment p) (a ∷ q) = ⊥
IsStart (loop l ts) [] = ⊥
IsStart (loop l ts) (a ∷ q) = IsFirst a × (q ≡ [])

-- child m is come to for the first time, and what is passed over may be absent
abbrev pub Enters : Trees → (m : ℕ) → Place → Type 0
Enters no_trees m q = ⊥
Enters (tree t ts) zero q = (1 ≤ max_of t) × IsStart t q
Enters (tree t ts) (suc m) q = (min_of t ≡ 0) × Enters ts m q

-- nothing has to come
abbrev pub MayBeEmpty : Trees → Type 0
MayBeEmpty no_trees = Unit {0}
MayBeEmpty (tree t ts) = (min_of t ≡ 0) × MayBeEmpty ts

-- From child n, use r, place p in it, to child m, use u, place q in it, with nothing missing on the way and
-- no use past a maximum.
abbrev mutual
  pub Closes : Tree → Place → Type 0
  Closes (segment p) [] = Unit {0}
  Closes (segment p) (a ∷ q) = ⊥
  Closes (loop l ts) [] = ⊥
  Closes (loop l ts) (a ∷ q) = Ends ts a.child a.use_no q

  -- after this place nothing has to come
  pub Ends : Trees → (n r : ℕ) → Place → Type 0
  Ends no_trees n r q = ⊥
  Ends (tree t ts) (suc n) r q = Ends ts n r q
  Ends (tree t ts) zero r q = Closes t q × (min_of t ≤ r + 1) × (r + 1 ≤ max_of t) × MayBeEmpty ts

abbrev mutual
  pub StepsIn : Tree → Place → Place → Type 0
  StepsIn (segment p) q w = ⊥
  StepsIn (loop l ts) [] w = ⊥
  StepsIn (loop l ts) (a ∷ q) [] = ⊥
  StepsIn (loop l ts) (a ∷ q) (b ∷ w) = Steps ts a.child a.use_no q b.child b.use_no w

  pub Steps : Trees → (n r : ℕ) → Place → (m u : ℕ) → Place → Type 0
  Steps no_trees n r q m u w = ⊥
  Steps (tree t ts) (suc n) r q zero u w = ⊥
  Steps (tree t ts) (suc n) r q (suc m) u w = Steps ts n r q m u w
  Steps (tree t ts) zero r q zero u w =
      ((u ≡ r) × StepsIn t q w) ⊎ (Closes t q × (u ≡ r + 1) × (u + 1 ≤ max_of t) × IsStart t w)
  Steps (tree t ts) zero r q (suc m) u w =
      Closes t q × (min_of t ≤ r + 1) × (r + 1 ≤ max_of t) × (u ≡ 0) × Enters ts m w

-- The places are come to one after another with nothing missing and no use past a maximum.
abbrev pub IsMetFrom : Trees → (n r : ℕ) → Place → List Place → Type 0
IsMetFrom ts n r q [] = Ends ts n r q
IsMetFrom ts n r q ([] ∷ places) = ⊥
IsMetFrom ts n r q ((b ∷ w) ∷ places) = Steps ts n r q b.child b.use_no w × IsMetFrom ts b.child b.use_no w places

abbrev pub IsMet : Trees → List Place → Type 0
IsMet ts [] = MayBeEmpty ts
IsMet ts ([] ∷ places) = ⊥
IsMet ts ((b ∷ w) ∷ places) = (b.use_no ≡ 0) × Enters ts b.child w × IsMetFrom ts b.child b.use_no w places
