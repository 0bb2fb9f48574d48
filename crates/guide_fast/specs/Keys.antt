-- X12.6, segment (own): the text by which a slot is looked for, which is one of the first elements of each segment that fits it.
use Rattle.std.specs.Prelude.{ℕ, ◌+◌, ◌≤◌, List, [], ◌∷◌, map, Bool, nat_lt, cond}
use Rattle.std.specs.List.{AllByRecursion}
use Rattle.guide_tree.specs.declared.node.Node.{Node}
use Rattle.guide_tree.specs.declared.slot.Slot.{Slot}
use Rattle.guide_tree.specs.declared.slot.Pick.{Pick}
use Rattle.guide_tree.specs.Words.{Tree, segment, loop, no_trees, tree, view}
use Rattle.guide_fast.specs.declared.keys.TheConstants.{POSITIONS}
use denote.Ref.{Bor}

-- a code that is the only one and that is looked for, or the id
abbrev pub code_or : (id : List ℕ) → (is_near : Bool) → (codes : List (List ℕ)) → List ℕ
code_or id is_near [] = id
code_or id is_near (c ∷ []) = cond is_near c id
code_or id is_near (c ∷ d ∷ more) = id

-- the one code of the first pick, if this is of the id or one of the elements after it
abbrev pub key_of : (id : List ℕ) → List Pick → List ℕ
key_of id [] = id
key_of id (p ∷ ps) = code_or id (nat_lt p.position POSITIONS) p.codes

abbrev pub slot_key : Slot → List ℕ
slot_key x = key_of x.id x.picks

-- that of the slot that a node begins with
abbrev pub tree_key : Tree → List ℕ
tree_key (segment x) = slot_key x
tree_key (loop l no_trees) = []
tree_key (loop l (tree (segment x) ts)) = slot_key x
tree_key (loop l (tree (loop k us) ts)) = []

abbrev pub begin_key : Node → List ℕ
begin_key n = tree_key (view n)

abbrev pub begin_keys : List Node → List (List ℕ)
begin_keys ns = map begin_key ns

abbrev pub slot_keys : List Slot → List (List ℕ)
slot_keys slots = map slot_key slots

-- how many of a segment's first texts, its id first, have that by which a slot is looked for
abbrev pub reach_of : List Pick → ℕ
reach_of [] = 1
reach_of (p ∷ ps) = cond (nat_lt p.position POSITIONS) (p.position + 1) 1

abbrev pub slot_reach : Slot → ℕ
slot_reach x = reach_of x.picks

abbrev pub tree_reach : Tree → ℕ
tree_reach (segment x) = slot_reach x
tree_reach (loop l no_trees) = 1
tree_reach (loop l (tree (segment x) ts)) = slot_reach x
tree_reach (loop l (tree (loop k us) ts)) = 1

abbrev pub begin_reach : Node → ℕ
begin_reach n = tree_reach (view n)

abbrev pub lent_reach : Bor Slot → ℕ
lent_reach x = slot_reach x.now

-- as many are enough for all
abbrev pub Reaches : {X : Type 0} → (reach : X → ℕ) → (texts : ℕ) → List X → Type 0
Reaches reach n xs = AllByRecursion (λ x. reach x ≤ n) xs
