use Rattle.std.proofs.Common.{◌≡◌, ◌++◌, drop}
use Rattle.count_numbers.specs.Numbers.{all_numbers}
use Rattle.count_numbers.proofs.numbering.numbers_for.Given as goal

abbrev pub invariant-loop-i : goal.invariant-loop-i
invariant-loop-i l = l.numbers.items ++ all_numbers (drop l.i l.tallies) (drop l.i l.counters) (drop l.i l.caps)
    ≡ all_numbers l.tallies l.counters l.caps
