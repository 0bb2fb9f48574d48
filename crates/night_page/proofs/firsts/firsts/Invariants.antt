use Rattle.std.proofs.Common.{◌≡◌, ◌≤◌, ◌++◌, drop, map}
use Rattle.std.specs.Prelude.{slice_range}
use Rattle.csv.specs.Records.{fields_of}
use Rattle.night_page.specs.Totals.{firsts, firsts_after}
use Rattle.night_page.proofs.firsts.firsts.Given as goal

abbrev pub invariant-loop-i : goal.invariant-loop-i
invariant-loop-i l = record {
  within : l.begin ≤ l.i;
  found : map (λ row. fields_of row.now) l.found.items
      ++ firsts_after (map fields_of (slice_range l.all l.begin l.i)) (map fields_of (drop l.i l.all))
      ≡ firsts (map fields_of l.all);
}
