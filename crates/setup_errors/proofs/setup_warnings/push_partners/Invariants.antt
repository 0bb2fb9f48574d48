use Rattle.std.proofs.Common.{◌≡◌, ◌++◌, ◌+◌, drop}
use Rattle.setup_errors.specs.SetupWarnings.{partner_warnings}
use Rattle.setup_errors.proofs.setup_warnings.push_partners.Given as goal

abbrev pub invariant-loop-i : goal.invariant-loop-i
invariant-loop-i l =
    l.found.items ++ partner_warnings l.reached (l.i + 1) (drop l.i l.partners)
    ≡ l.initial.found.items ++ partner_warnings l.reached 1 l.partners
