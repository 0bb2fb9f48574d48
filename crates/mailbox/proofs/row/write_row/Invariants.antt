use Rattle.std.proofs.Common.{◌≡◌, ◌+◌, ◌++◌, drop}
use Rattle.mailbox.specs.Rendered.{rendered_from}
use Rattle.mailbox.proofs.row.write_row.Given as goal

-- what is written, with what is left to write, is all
abbrev pub invariant-loop-i : goal.invariant-loop-i
invariant-loop-i l = l.row ++ rendered_from l.partner (l.k + l.i) (drop l.i l.sets) ≡ rendered_from l.partner l.k l.sets
