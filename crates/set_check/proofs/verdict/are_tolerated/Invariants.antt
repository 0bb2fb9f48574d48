use Rattle.std.proofs.Common.{◌≡◌, take, true}
use Rattle.std.specs.List.{list_all}
use Rattle.std.specs.Option.{option_copied}
use Rattle.set_check.specs.Checked.{guide_tree_of}
use Rattle.set_check.specs.Verdict.{tolerates}
use Rattle.set_check.proofs.verdict.are_tolerated.Given as goal

abbrev pub invariant-loop-i : goal.invariant-loop-i
invariant-loop-i l = list_all (tolerates (guide_tree_of (option_copied l.guide))) (take l.i l.faults) ≡ true
