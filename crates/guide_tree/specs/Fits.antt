-- X12.6, order of segments (own): the place that a segment fits, by a walk along the last place.
use Rattle.std.specs.Prelude.{ℕ, zero, suc, ◌+◌, Bool, true, false, if◌then◌else◌, [], ◌∷◌}
use Rattle.std.specs.Prelude.{Option, Some, None, option_map}
use Rattle.guide_tree.specs.declared.slot.Slot.{Slot}
use Rattle.guide_tree.specs.Tree.{Tree, Trees, segment, loop, no_trees, tree, or_else}
use Rattle.guide_tree.specs.Segments.{Segment, fits}
use Rattle.guide_tree.specs.Places.{Pair, Place, use_of}
use Rattle.guide_tree.specs.Nexts.{Candidate, into, may_repeat}

abbrev pub fit_slot : Segment → Place → Slot → Option Candidate
fit_slot s q x = if fits x s then Some (record { place = q; slot = x }) else None

abbrev pub fit_start : Segment → Tree → Option Candidate
fit_start s (segment x) = fit_slot s [] x
fit_start s (loop l no_trees) = None
fit_start s (loop l (tree (segment x) ts)) = fit_slot s (use_of 0 0 ∷ []) x
fit_start s (loop l (tree (loop k us) ts)) = None

abbrev pub fit_starts : Segment → ℕ → Trees → Option Candidate
fit_starts s k no_trees = None
fit_starts s k (tree t ts) = or_else (option_map (into (use_of k 0)) (fit_start s t)) (fit_starts s (k + 1) ts)

abbrev pub fit_again : Segment → (in_loop : Bool) → Pair → Tree → Option Candidate
fit_again s in_loop a t =
    if may_repeat in_loop a.child then option_map (into (use_of a.child (a.use_no + 1))) (fit_start s t) else None

abbrev mutual
  pub fit_in : Segment → Tree → Place → Option Candidate
  fit_in s (segment x) p = None
  fit_in s (loop l ts) [] = None
  fit_in s (loop l ts) (a ∷ p) = fit_from s true ts a.child a p

  pub fit_from : Segment → (in_loop : Bool) → Trees → (n : ℕ) → Pair → Place → Option Candidate
  fit_from s in_loop no_trees n a p = None
  fit_from s in_loop (tree t ts) (suc n) a p = fit_from s in_loop ts n a p
  fit_from s in_loop (tree t ts) zero a p =
      or_else (option_map (into a) (fit_in s t p)) (or_else (fit_again s in_loop a t) (fit_starts s (a.child + 1) ts))

-- the same, where no last place is the empty one
abbrev pub fit_next : Segment → (in_loop : Bool) → Trees → Place → Option Candidate
fit_next s in_loop ts [] = None
fit_next s in_loop ts (a ∷ p) = fit_from s in_loop ts a.child a p

abbrev pub fit_behind : Segment → Trees → Place → Option Candidate
fit_behind s ts [] = fit_starts s 0 ts
fit_behind s ts (a ∷ p) = fit_from s false ts a.child a p
