-- X12.6, order of segments (own rule): which slots may come from one place, by the tree alone, and the least pair
-- of rivals. In a loop the first child comes with the loop; each other node may come again or after an earlier
-- one, and so it is a rival of those after it, and of the loops round it and what is after these.
use Rattle.std.specs.Prelude.{ℕ, ◌==◌, nat_lt, nat_le, Option, Some, None, Bool, ◌&&◌, ◌||◌, if◌then◌else◌}
use Rattle.guide_tree.specs.declared.slot.Slot.{Slot}
use Rattle.guide_tree.specs.Tree.{Tree, Trees, segment, loop, no_trees, tree}
use Rattle.guide_tree.specs.Segments.{can_fit_both}

-- the slot that a node begins with
abbrev pub entry : Tree → Option Slot
entry (segment s) = Some s
entry (loop l no_trees) = None
entry (loop l (tree (segment s) ts)) = Some s
entry (loop l (tree (loop k us) ts)) = None

-- two numbers, the lesser first
abbrev pub Numbers : Type 0
Numbers = ℕ × ℕ

abbrev pub numbers_of : Slot → Slot → Numbers
numbers_of s t = if nat_le s.number t.number then (s.number, t.number) else (t.number, s.number)

abbrev pub is_less : Numbers → Numbers → Bool
is_less m n = nat_lt m.0 n.0 || ((m.0 == n.0) && nat_lt m.1 n.1)

-- the lesser one of the best so far and another
abbrev pub keep_least : Option Numbers → Numbers → Option Numbers
keep_least None m = Some m
keep_least (Some best) m = if is_less m best then Some m else Some best

-- a slot against another
abbrev pub against_slot : Option Numbers → Slot → Slot → Option Numbers
against_slot best s t = if can_fit_both s t then keep_least best (numbers_of s t) else best

abbrev pub against : Option Numbers → Option Slot → Option Slot → Option Numbers
against best None t = best
against best (Some s) None = best
against best (Some s) (Some t) = against_slot best s t

-- a slot against those that the nodes begin with
abbrev pub against_each : Option Numbers → Option Slot → Trees → Option Numbers
against_each best s no_trees = best
against_each best s (tree t ts) = against_each (against best s (entry t)) s ts

-- what is in the nodes against those that others begin with
abbrev mutual
  pub within_in : Trees → Option Numbers → Tree → Option Numbers
  within_in outer best (segment s) = best
  within_in outer best (loop l no_trees) = best
  within_in outer best (loop l (tree t ts)) = within outer best ts

  pub within : Trees → Option Numbers → Trees → Option Numbers
  within outer best no_trees = best
  within outer best (tree t ts) = within outer (within_in outer (against_each best (entry t) outer) t) ts

-- the least pair of rivals among the nodes and in them
abbrev mutual
  pub least_in : Option Numbers → Tree → Option Numbers
  least_in best (segment s) = best
  least_in best (loop l no_trees) = best
  least_in best (loop l (tree t ts)) = least_rivals best ts

  pub least_rivals : Option Numbers → Trees → Option Numbers
  least_rivals best no_trees = best
  least_rivals best (tree t ts) = least_rivals (least_in (within_in (tree t ts) (against_each best (entry t) ts) t) t) ts
