use Rattle.std.proofs.Common.{◌≡◌, take}
use Rattle.hub_folder.specs.Older.{map_now}
use Rattle.hub_adopt.specs.Lines.{lines_of}
use Rattle.hub_adopt.proofs.lines.lines_of.Given as goal

abbrev pub invariant-loop-i : goal.invariant-loop-i
invariant-loop-i l = l.text.items ≡ lines_of 1 (map_now (take l.i l.order))
