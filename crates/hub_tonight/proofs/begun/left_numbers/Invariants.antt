use Rattle.std.proofs.Common.{◌≡◌, ℕ, List, reverse, take}
use Rattle.hub_tonight.specs.Begun.{numbers_left}
use Rattle.hub_tonight.specs.Numbers.{numbers_in}
use Rattle.hub_tonight.proofs.begun.left_numbers.Given as goal

abbrev pub invariant-loop-i : goal.invariant-loop-i
invariant-loop-i l = (q : List ℕ) → numbers_in l.map q ≡ numbers_left (reverse (take l.i l.nights)) q
