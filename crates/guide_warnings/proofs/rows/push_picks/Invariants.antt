use Rattle.std.proofs.Common.{◌≡◌, ◌++◌, drop}
use Rattle.guide_warnings.specs.Rows.{picks_warnings}
use Rattle.guide_warnings.proofs.rows.push_picks.Given as goal

abbrev pub invariant-loop-i : goal.invariant-loop-i
invariant-loop-i l = l.found.items ++ picks_warnings l.slot (drop l.i l.picks) ≡ l.initial.found.items ++ picks_warnings l.slot l.picks
