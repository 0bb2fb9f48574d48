use Rattle.std.proofs.Common.{◌≡◌, ◌++◌, drop, map}
use Rattle.csv.specs.Records.{fields_of}
use Rattle.sets_again.specs.Again.{again_text}
use Rattle.sets_again.specs.Fits.{table_fits}
use Rattle.sets_again.proofs.again.append_all.Given as goal

abbrev pub invariant-loop-i : goal.invariant-loop-i
invariant-loop-i l = record {
  fits : table_fits (drop l.i l.index.entries) (map fields_of l.rest) ≡ table_fits l.index.entries (map fields_of l.fn.rows);
  written : l.out.items ++ again_text l.wanted l.index.text (drop l.i l.index.entries) (map fields_of l.rest)
      ≡ l.fn.out.items ++ again_text l.wanted l.index.text l.index.entries (map fields_of l.fn.rows);
}
