-- What a stretch of a night leaves to be numbered for one partner (own), by pieces of the list of what happens for it.
use Rattle.std.specs.Prelude.{ℕ, List, slice_range}
use Rattle.count_numbers.specs.declared.entry.Entry.{Entry}
use Rattle.count_numbers.specs.Tally.{PartnerTally, tally_of}

abbrev pub tally_between : Unit {0} → List Entry → ℕ → ℕ → PartnerTally
tally_between u items a b = tally_of (slice_range items a b)
