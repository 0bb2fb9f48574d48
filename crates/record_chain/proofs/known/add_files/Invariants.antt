use Rattle.std.proofs.Common.{◌≡◌, ℕ, List, take}
use Rattle.std.specs.Option.{option_or}
use Rattle.night_entries.specs.Named.{found_in}
use Rattle.record_chain.specs.Breaks.{file_named}
use Rattle.record_chain.proofs.known.add_files.Given as goal

abbrev pub invariant-loop-i : goal.invariant-loop-i
invariant-loop-i l = (q : List ℕ) → found_in l.map q ≡ option_or (file_named (take l.i l.files) q) (found_in l.fn.map q)
