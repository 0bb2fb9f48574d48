use Rattle.std.proofs.Common.{◌≡◌, ◌++◌, map, take}
use Rattle.kept_files.specs.Addressed.{entry_of}
use Rattle.kept_files.proofs.addresses.push_each.Given as goal

abbrev pub invariant-loop-i : goal.invariant-loop-i
invariant-loop-i l = l.entries.items ≡ l.fn.entries.items ++ map entry_of (take l.i l.rows)
