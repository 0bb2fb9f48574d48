use Rattle.std.proofs.Common.{◌≤◌, ◌-◌}
use Rattle.mailbox.specs.Parts.{AreParts}
use Rattle.mailbox.proofs.parts.parts_of.Given as goal

abbrev pub invariant-loop-from : goal.invariant-loop-from
invariant-loop-from l = AreParts 0 l.from l.parts.items × (l.from ≤ l.count)

abbrev pub decreases-loop-from : goal.decreases-loop-from
decreases-loop-from l = l.count - l.from
