use Rattle.std.proofs.Common.{◌≡◌, ◌≤◌, ◌-◌, length, take}
use Rattle.std.specs.List.{All, flat_map}
use Rattle.night_entries.specs.Files.{sum_line}
use Rattle.night_entries.specs.declared.files.NamedSum.{NamedSum}
use Rattle.night_entries.proofs.sums.read_sums.Given as goal

abbrev pub invariant-loop-at : goal.invariant-loop-at
invariant-loop-at l = record {
  within : l.at ≤ length l.text;
  so_far : flat_map sum_line l.sums.items ≡ take l.at l.text;
  sums : All (λ (line : NamedSum). length line.sum ≡ 64) l.sums.items;
}

abbrev pub decreases-loop-at : goal.decreases-loop-at
decreases-loop-at l = length l.text - l.at
