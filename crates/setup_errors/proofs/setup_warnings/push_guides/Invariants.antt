use Rattle.std.proofs.Common.{◌≡◌, ◌++◌, drop}
use Rattle.setup_errors.specs.SetupWarnings.{guide_warnings}
use Rattle.setup_errors.proofs.setup_warnings.push_guides.Given as goal

abbrev pub invariant-loop-i : goal.invariant-loop-i
invariant-loop-i l =
    l.found.items ++ guide_warnings l.named (drop l.i l.guides) ≡ l.initial.found.items ++ guide_warnings l.named l.guides
