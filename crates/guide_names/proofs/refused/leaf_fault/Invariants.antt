use Rattle.std.proofs.Common.{◌≡◌, map}
use Rattle.toml.specs.View.{members_view, table_view}
use Rattle.guide_names.specs.Refusals as refusals
use Rattle.guide_names.proofs.refused.leaf_fault.Given as goal

abbrev pub invariant-loop-key : goal.invariant-loop-key
invariant-loop-key l =
    refusals.first_refused (refusals.judge_of l.leaf) (map (λ k. k.now) l.tables) (members_view l.key-iterator)
    ≡ refusals.first_refused (refusals.judge_of l.leaf) (map (λ k. k.now) l.tables) (table_view l.table)
