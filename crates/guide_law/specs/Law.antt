-- X12.6, transaction set, and the 999 guide, IK304: what the placing of a body says of the grammar, and the computed
-- forms of placing and faults of the relations.
use Rattle.std.specs.Prelude.{ℕ, ◌≡◌, ◌↔◌, ◌≤◌, List, [], ◌∷◌, ◌++◌, map, Option, Some, None}
use Rattle.std.specs.List.{Contains}
use Rattle.hub_kinds.specs.declared.fault.Fault.{Fault}
use Rattle.hub_kinds.specs.Words.{key_of}
use Rattle.guide_tree.specs.Words.{Trees, GuideTree, Segment, Place, use_of, slot_given, slot_at, MayCome, IsPlacing, Has}
use Rattle.guide_tree.specs.Words.{IsStructureFault, Given, Derives, IsDerived, Candidate, nexts, placing_of, structure_faults}

-- no stray, no use past a maximum, and nothing missing
abbrev pub IsFaultless : GuideTree → List Segment → List (Option Place) → (end : ℕ) → Type 0
IsFaultless g body given end = (f : Fault) → IsStructureFault g body given end f → ⊥

-- each segment has a place, which leads to the slot that the derivation gives it
abbrev pub HasSlots : Trees → List (Option Place) → List Given → Type 0
HasSlots ts given xs = map (slot_given ts) given ≡ map (λ x. Some x.1) xs

-- where a body is derived, its placing has no structural fault, and the slots of the derivation
abbrev pub DerivedIsPlaced : GuideTree → Type 0
DerivedIsPlaced g = (xs : List Given) (given : List (Option Place)) (end : ℕ) → Derives g.nodes xs
    → IsPlacing g.nodes None (map (λ x. x.0) xs) given
    → IsFaultless g (map (λ x. x.0) xs) given end × HasSlots g.nodes given xs

-- where the placing of a body has no structural fault, the body is derived with the slots of the placing
abbrev pub PlacedIsDerived : GuideTree → Type 0
PlacedIsDerived g = (body : List Segment) (given : List (Option Place)) (end : ℕ) → IsPlacing g.nodes None body given
    → IsFaultless g body given end
    → (xs : List Given) × (map (λ x. x.0) xs ≡ body) × Derives g.nodes xs × HasSlots g.nodes given xs

-- a body has one placing
abbrev pub IsPlacedOneWay : GuideTree → Type 0
IsPlacedOneWay g = (body : List Segment) (given other : List (Option Place)) → IsPlacing g.nodes None body given
    → IsPlacing g.nodes None body other → given ≡ other

-- a body that is derived has a placing
abbrev pub DerivedHasPlacing : GuideTree → Type 0
DerivedHasPlacing g = (xs : List Given) → Derives g.nodes xs
    → (given : List (Option Place)) × IsPlacing g.nodes None (map (λ x. x.0) xs) given

-- In each placing, also of a body with strays, the uses of a child in a repetition of its parent are numbered from 0
-- without gaps: so there are more than n of them where use n is there.
abbrev pub UsesAreCounted : Trees → Type 0
UsesAreCounted ts = (body : List Segment) (given : List (Option Place)) → IsPlacing ts None body given
    → (parent : Place) (child u v : ℕ) → v ≤ u → Has given (parent ++ use_of child u ∷ [])
    → Has given (parent ++ use_of child v ∷ [])

-- the computed candidates are the places that may come and lead to a slot, each with its slot
abbrev pub NextsAreExact : Trees → Type 0
NextsAreExact ts = (last : Option Place) (c : Candidate)
    → Contains (nexts ts last) c ↔ (MayCome last c.place × (slot_at ts c.place ≡ Some c.slot))

-- the computed placing is a placing, and there isn't another
abbrev pub IsOnlyPlacing : GuideTree → Type 0
IsOnlyPlacing g = (body : List Segment) (given : List (Option Place))
    → IsPlacing g.nodes None body given ↔ (given ≡ placing_of g.nodes body)

-- the pass meets no fault in a body exactly where the body is derived
abbrev pub PassIsGrammar : GuideTree → Type 0
PassIsGrammar g = (body : List Segment) (end : ℕ)
    → (structure_faults g end body (placing_of g.nodes body) ≡ []) ↔ IsDerived g.nodes body

-- what the pass over the placing of a body meets are its structural faults, and nothing else
abbrev pub MembersAreFaults : GuideTree → Type 0
MembersAreFaults g = (body : List Segment) (end : ℕ) (f : Fault)
    → Contains (structure_faults g end body (placing_of g.nodes body)) f
    ↔ IsStructureFault g body (placing_of g.nodes body) end f

-- two structural faults of a body that have one place in the order of faults are one
abbrev pub FaultsAreKeyed : GuideTree → Type 0
FaultsAreKeyed g = (body : List Segment) (given : List (Option Place)) (end : ℕ) (f h : Fault)
    → IsStructureFault g body given end f → IsStructureFault g body given end h → key_of f ≡ key_of h → f ≡ h
