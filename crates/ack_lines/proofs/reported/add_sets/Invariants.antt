use Rattle.std.proofs.Common.{◌≡◌, ◌++◌, map}
use Rattle.ack_lines.specs.Reported.{set_reported}
use Rattle.ack_lines.proofs.reported.add_sets.Given as goal

abbrev pub invariant-loop-set : goal.invariant-loop-set
invariant-loop-set l =
    l.all.items ++ map (set_reported l.falls) l.set-iterator.rest.items ≡ l.initial.all.items ++ map (set_reported l.falls) l.fn.sets.items
