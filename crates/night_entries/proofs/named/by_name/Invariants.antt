use Rattle.std.proofs.Common.{◌≡◌, ℕ, List, take}
use Rattle.night_entries.specs.Named.{found_in, named}
use Rattle.night_entries.proofs.named.by_name.Given as goal

abbrev pub invariant-loop-i : goal.invariant-loop-i
invariant-loop-i g l = (q : List ℕ) → found_in l.map q ≡ named g.T.Named.name q (take l.i l.items)
