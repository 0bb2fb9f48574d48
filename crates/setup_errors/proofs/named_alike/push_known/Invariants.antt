use Rattle.std.proofs.Common.{◌≡◌, ◌++◌, take, drop}
use Rattle.partner_setup.specs.Known.{KnowsPlaces}
use Rattle.setup_errors.specs.NamedAlike.{alike_from, alike_warnings}
use Rattle.setup_errors.proofs.named_alike.push_known.Given as goal

-- the first places of the names so far, and what is reported of them
abbrev pub invariant-loop-i : goal.invariant-loop-i
invariant-loop-i l =
    record {
      known : KnowsPlaces l.places 0 (take l.i l.names);
      told : l.found.items ++ alike_from l.partners l.i (drop l.i l.partners) ≡ l.initial.found.items ++ alike_warnings l.partners;
    }
