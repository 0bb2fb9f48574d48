use Rattle.std.proofs.Common.{◌≡◌, ◌++◌, take}
use Rattle.night_entries.specs.Named.{found_in}
use Rattle.record_chain.specs.Breaks.{listed_breaks}
use Rattle.record_chain.proofs.files.add_listed_breaks.Given as goal

abbrev pub invariant-loop-i : goal.invariant-loop-i
invariant-loop-i l = l.found.items ≡ l.fn.found.items ++ listed_breaks (found_in l.there) l.night (take l.i l.files)
