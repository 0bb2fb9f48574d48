use Rattle.std.proofs.Common.{◌≡◌, ◌+◌, ◌≤◌, ℕ, List, length}
use Rattle.mailbox.specs.Rendered.{groups_of}
use Rattle.mailbox.specs.Renumbered.{groups_behind}
use Rattle.mailbox.specs.Woven.{HasWoven}
use Rattle.mailbox.specs.declared.woven.Cut.{Cut}
use Rattle.mailbox.proofs.assembling.append_groups.Given as goal

-- what is written, with whatever is written of the groups that are left, is all; so is what is counted
abbrev pub invariant-loop-rest : goal.invariant-loop-rest
invariant-loop-rest l = record {
  text : (end : List ℕ) (ends : List Cut)
      → HasWoven l.out.items l.cuts.items end ends l.rest (groups_behind l.setup l.partner l.at l.first l.count (groups_of l.rest))
      → HasWoven l.initial.out.items l.initial.cuts.items end ends l.sets
      (groups_behind l.setup l.partner l.at l.first 0 (groups_of l.sets));
  count : l.count + length (groups_of l.rest) ≡ length (groups_of l.sets);
  bound : l.count + length l.rest ≤ length l.sets;
}

abbrev pub decreases-loop-rest : goal.decreases-loop-rest
decreases-loop-rest l = length l.rest
