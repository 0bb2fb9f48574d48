use Rattle.std.proofs.Common.{◌≡◌, ◌++◌}
use Rattle.ack_lines.specs.Reported.{reported_behind, reported_of}
use Rattle.ack_lines.proofs.reported.reported_of.Given as goal

abbrev pub invariant-loop-told : goal.invariant-loop-told
invariant-loop-told l =
    l.all.items ++ reported_behind l.sets.items l.told-iterator.rest.items ≡ reported_of l.fn.found.items
