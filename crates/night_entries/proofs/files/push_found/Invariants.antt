use Rattle.std.proofs.Common.{◌≡◌, ◌++◌, map, take}
use Rattle.night_entries.specs.Files.{file_by, only_found}
use Rattle.night_entries.specs.Named.{found_in}
use Rattle.night_entries.proofs.files.push_found.Given as goal

abbrev pub invariant-loop-i : goal.invariant-loop-i
invariant-loop-i l = l.list.items ≡ l.fn.list.items
    ++ map (file_by (found_in l.names.given) (found_in l.names.listed) (found_in l.names.found))
    (only_found (found_in l.names.given) (found_in l.names.listed) (take l.i l.found))
