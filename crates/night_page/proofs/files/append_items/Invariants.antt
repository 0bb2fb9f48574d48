use Rattle.std.proofs.Common.{◌≡◌, ◌++◌, take}
use Rattle.std.specs.List.{flat_map}
use Rattle.night_search.specs.Lines.{read}
use Rattle.night_page.specs.Tags.{item}
use Rattle.night_page.proofs.files.append_items.Given as goal

abbrev pub invariant-loop-line : goal.invariant-loop-line
invariant-loop-line l = l.out.items ≡ l.initial.out.items ++ flat_map item (read (take l.line-index l.lines))
