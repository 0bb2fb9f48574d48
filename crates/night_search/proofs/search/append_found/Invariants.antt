use Rattle.std.proofs.Common.{◌≡◌, ◌++◌, map, take}
use Rattle.std.specs.List.{list_any}
use Rattle.csv.specs.Records.{fields_of}
use Rattle.night_search.specs.Search.{found_lines, has_text}
use Rattle.night_search.proofs.search.append_found.Given as goal

abbrev pub invariant-loop-i : goal.invariant-loop-i
invariant-loop-i l = record {
  lines : l.out.items ≡ l.fn.out.items ++ found_lines l.text l.night (map fields_of (take l.i l.rows));
  found : l.found ≡ list_any (has_text l.text) (map fields_of (take l.i l.rows));
}
