use Rattle.std.proofs.Common.{take}
use Rattle.std.specs.List.{AllZip}
use Rattle.day_command.specs.Page.{IsToldAt, partners_in}
use Rattle.day_command.proofs.told.all_told.Given as goal

abbrev pub invariant-loop-i : goal.invariant-loop-i
invariant-loop-i g l = AllZip (IsToldAt l.night) (partners_in (take l.i l.names)) l.told.items
