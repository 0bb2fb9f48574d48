use Rattle.std.proofs.Common.{◌≡◌, take}
use Rattle.std.specs.List.{flat_map}
use Rattle.night_entries.specs.Files.{sum_line}
use Rattle.hub_night.proofs.entry.lines_of.Given as goal

abbrev pub invariant-loop-i : goal.invariant-loop-i
invariant-loop-i l = l.lines.items ≡ flat_map sum_line (take l.i l.sums)
