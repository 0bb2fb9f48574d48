use Rattle.std.proofs.Common.{◌≡◌, ◌++◌, drop, map}
use Rattle.std.specs.Prelude.{option_map}
use Rattle.csv.specs.Records.{fields_of}
use Rattle.sets_again.specs.Rows.{firsts, firsts_after}
use Rattle.sets_again.proofs.rows.firsts.Given as goal

abbrev pub invariant-loop-i : goal.invariant-loop-i
invariant-loop-i l =
    map (λ r. fields_of r.now) l.found.items ++ firsts_after (option_map (λ r. fields_of r.now) l.last) (map fields_of (drop l.i l.all))
    ≡ firsts (map fields_of l.all)
