use Rattle.std.proofs.Common.{◌≡◌, ◌++◌, take}
use Rattle.std.specs.List.{flat_map}
use Rattle.night_search.specs.Lines.{read}
use Rattle.night_page.specs.Tags.{head_cell}
use Rattle.night_page.proofs.tags.append_head_cells.Given as goal

abbrev pub invariant-loop-i : goal.invariant-loop-i
invariant-loop-i l = l.out.items ≡ l.fn.out.items ++ flat_map head_cell (read (take l.i l.names))
