-- X12.6, transaction set: the place in the guide that each segment of a body gets (own).
use Rattle.std.specs.Prelude.{ℕ, ◌+◌, ◌==◌, Bool, true, false, ◌&&◌, List, [], ◌∷◌, ◌++◌, map, Option, Some, None, if◌then◌else◌}
use Rattle.std.specs.Prelude.{option_map, find, filter_map}
use Rattle.std.specs.Option.{option_or}
use Rattle.guide_tree.specs.declared.slot.Slot.{Slot}
use Rattle.guide_tree.specs.Tree.{Tree, Trees, segment, loop, no_trees, tree}
use Rattle.night_definition.specs.Segments.{Elements}
use Rattle.night_definition.specs.Guides.{fits}

-- a way down the guide: at each level the child's number and its repetition, both from 0
abbrev pub Place : Type 0
Place = List (ℕ × ℕ)

-- a place, with its slot and the id of its innermost loop
pub record Spot : Type 0 where
  pub place : Place
  pub slot : Slot
  pub loop_id : List ℕ

abbrev pub under : ℕ × ℕ → Spot → Spot
under a x = record x { place = a ∷ x.place }

-- a repetition of a child begins with its segment, or with the first segment of its loop
abbrev pub begins : (loop_id : List ℕ) → ℕ × ℕ → Tree → List Spot
begins loop_id a (segment s) = record { place = a ∷ []; slot = s; loop_id = loop_id } ∷ []
begins loop_id a (loop l (tree (segment s) ts)) = record { place = a ∷ (0, 0) ∷ []; slot = s; loop_id = l.id } ∷ []
begins loop_id a (loop l ts) = []

-- the beginning of each child from a number on
abbrev pub first_spots : (loop_id : List ℕ) → (child : ℕ) → Trees → List Spot
first_spots loop_id k no_trees = []
first_spots loop_id k (tree t ts) = begins loop_id (k, 0) t ++ first_spots loop_id (k + 1) ts

abbrev mutual
  pub inside : Tree → Place → List Spot
  inside (segment s) p = []
  inside (loop l ts) p = spots_after l.id true 0 ts p

  -- What may follow a place: what may follow in the same repetition of its child; the child's next repetition, unless it is the first
  -- child of a loop; each later child.
  pub spots_after : (loop_id : List ℕ) → (in_loop : Bool) → (child : ℕ) → Trees → Place → List Spot
  spots_after loop_id in_loop k no_trees p = []
  spots_after loop_id in_loop k (tree t ts) [] = []
  spots_after loop_id in_loop k (tree t ts) (a ∷ p) =
      if k == a.0
      then map (under a) (inside t p)
      ++ ((if in_loop && a.0 == 0 then [] else begins loop_id (a.0, a.1 + 1) t) ++ first_spots loop_id (a.0 + 1) ts)
      else spots_after loop_id in_loop (k + 1) ts (a ∷ p)

abbrev pub next_spots : Trees → (last : Option Place) → List Spot
next_spots ts None = first_spots [] 0 ts
next_spots ts (Some p) = spots_after [] false 0 ts p

-- a segment of a body: its position (ST is 1) and its spot; one without a spot is a stray
pub record Placed : Type 0 where
  pub position : ℕ
  pub segment : Elements
  pub spot : Option Spot

-- each segment gets the place that may follow the last one and whose slot it fits
abbrev pub placing : Trees → (last : Option Place) → (position : ℕ) → List Elements → List Placed
placing ts last n [] = []
placing ts last n (s ∷ body) =
    let spot = find (λ x. fits x.slot s) (next_spots ts last) in
    record { position = n; segment = s; spot = spot } ∷ placing ts (option_or (option_map (λ x. x.place) spot) last) (n + 1) body

-- a segment that has a place
pub record Use : Type 0 where
  pub position : ℕ
  pub segment : Elements
  pub spot : Spot

abbrev pub uses : List Placed → List Use
uses placed = filter_map (λ p. option_map (λ x. record { position = p.position; segment = p.segment; spot = x }) p.spot) placed
