use Rattle.std.proofs.Common.{◌≡◌, ℕ, List, take}
use Rattle.std.specs.Option.{option_or}
use Rattle.hub_ledger.specs.Entries.{known_row, row_of}
use Rattle.night_breaches.specs.Known.{row_in}
use Rattle.night_breaches.proofs.known.add_rows.Given as goal

abbrev pub invariant-loop-i : goal.invariant-loop-i
invariant-loop-i l = (q : List ℕ) → row_in l.rows q ≡ option_or (known_row l.night (row_of q (take l.i l.more))) (row_in l.fn.rows q)
