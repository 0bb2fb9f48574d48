use Rattle.std.proofs.Common.{◌≡◌, filter, take}
use Rattle.night_search.specs.Lines.{read}
use Rattle.night_page.specs.Names.{is_filled}
use Rattle.night_page.proofs.lines.filled.Given as goal

abbrev pub invariant-loop-part : goal.invariant-loop-part
invariant-loop-part l = read l.lines.items ≡ filter is_filled (read (take l.part-index l.parts))
