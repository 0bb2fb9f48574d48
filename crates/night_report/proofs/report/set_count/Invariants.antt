use Rattle.std.proofs.Common.{◌≡◌, ◌+◌, drop, length}
use Rattle.answered_sets.specs.Judged.{sets_of, sets_of_groups_from}
use Rattle.night_report.proofs.report.set_count.Given as goal

abbrev pub invariant-loop-n : goal.invariant-loop-n
invariant-loop-n l = l.rest + length (sets_of l.fn.interchange)
    ≡ l.most + length (sets_of_groups_from l.fn.interchange l.n (drop l.n l.fn.interchange.interchange.content.groups))
