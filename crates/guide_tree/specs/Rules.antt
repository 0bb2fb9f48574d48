-- X12.6, transaction set (own): the rules that each node is judged by, and the first node that breaks one.
use Rattle.std.specs.Prelude.{ℕ, Option, Some, None, Bool, if◌then◌else◌}
use Rattle.guide_tree.specs.declared.judge.Rule.{Rule}
use Rattle.guide_tree.specs.declared.judge.Rule.TheVariants as rule
use Rattle.guide_tree.specs.Tree.{Tree, Trees, segment, loop, no_trees, tree, or_else}
use Rattle.guide_tree.specs.Bounds.{is_bounded}
use Rattle.guide_tree.specs.Conditions.{is_triggered, is_conditioned}

abbrev pub keeps : Rule → Trees → Tree → Bool
keeps rule.Bounds ts t = is_bounded t
keeps rule.Trigger ts t = is_triggered t
keeps rule.Conditions ts t = is_conditioned ts t

-- the number of the first node that fails a test
abbrev mutual
  pub first_failing_in : (Tree → Bool) → Tree → Option ℕ
  first_failing_in test (segment s) = if test (segment s) then None else Some s.number
  first_failing_in test (loop l ts) = if test (loop l ts) then first_failing test ts else Some l.number

  pub first_failing : (Tree → Bool) → Trees → Option ℕ
  first_failing test no_trees = None
  first_failing test (tree t ts) = or_else (first_failing_in test t) (first_failing test ts)
