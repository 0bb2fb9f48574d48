use Rattle.std.proofs.Common.{◌≡◌, All, drop}
use Rattle.std.specs.Cmp.Lexicographic.{slice_cmp}
use Rattle.std.specs.List.Sorted.{IsSorted}
use Rattle.std.specs.Ordering.{nat_cmp}
use Rattle.number_register.specs.SeenNumbers.{is_among, keys_in}
use Rattle.number_register.proofs.seen.Seen.holds.Given as goal

-- it is among those of the runs that are left, or among none
abbrev pub invariant-loop-run : goal.invariant-loop-run
invariant-loop-run l = All (λ run. IsSorted (slice_cmp nat_cmp) run.items) l.self.runs.items
    → is_among l.key (keys_in (drop l.run-index l.self.runs.items)) ≡ is_among l.key (keys_in l.self.runs.items)
