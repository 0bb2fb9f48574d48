use Rattle.std.proofs.Common.{◌≡◌, ◌++◌, take}
use Rattle.night_search.specs.Lines.{joined, read}
use Rattle.night_search.proofs.append.append_parts.Given as goal

abbrev pub invariant-loop-part : goal.invariant-loop-part
invariant-loop-part l = l.out.items ≡ l.initial.out.items ++ joined (read (take l.part-index l.parts))
