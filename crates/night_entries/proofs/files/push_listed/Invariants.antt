use Rattle.std.proofs.Common.{◌≡◌, ◌++◌, map, take}
use Rattle.night_entries.specs.Files.{file_by, only_listed}
use Rattle.night_entries.specs.Named.{found_in}
use Rattle.night_entries.proofs.files.push_listed.Given as goal

abbrev pub invariant-loop-i : goal.invariant-loop-i
invariant-loop-i l = l.list.items ≡ l.fn.list.items
    ++ map (file_by (found_in l.names.given) (found_in l.names.listed) (found_in l.names.found))
    (only_listed (found_in l.names.given) (take l.i l.listed))
