use Rattle.std.proofs.Common.{◌≡◌, ◌++◌, take}
use Rattle.std.specs.List.{flat_map}
use Rattle.night_search.specs.Lines.{read}
use Rattle.night_page.specs.Tags.{cell}
use Rattle.night_page.proofs.tags.append_cells.Given as goal

abbrev pub invariant-loop-text : goal.invariant-loop-text
invariant-loop-text l = l.out.items ≡ l.initial.out.items ++ flat_map cell (read (take l.text-index l.texts))
