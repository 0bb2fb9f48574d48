use Rattle.std.proofs.Common.{◌≡◌, map, take}
use Rattle.track_table.specs.Cells.{spaced_words}
use Rattle.track_table.proofs.cells.spaced_codes.Given as goal

abbrev pub invariant-loop-i : goal.invariant-loop-i
invariant-loop-i g l = l.text.items ≡ spaced_words (map g.C.Code.text (take l.i l.codes))
