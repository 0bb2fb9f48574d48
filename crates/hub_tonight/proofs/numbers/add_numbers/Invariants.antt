use Rattle.std.proofs.Common.{◌≡◌, ℕ, List, option_map, take}
use Rattle.std.specs.Option.{option_or}
use Rattle.night_entries.specs.Named.{named}
use Rattle.hub_tonight.specs.Numbers.{numbers_in}
use Rattle.hub_tonight.proofs.numbers.add_numbers.Given as goal

abbrev pub invariant-loop-i : goal.invariant-loop-i
invariant-loop-i g l =
    (q : List ℕ)
    → numbers_in l.map q ≡ option_or (option_map g.T.Numbered.numbers (named g.T.Numbered.key q (take l.i l.rows))) (numbers_in l.fn.map q)
