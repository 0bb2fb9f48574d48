use Rattle.std.proofs.Common.{take}
use Rattle.std.specs.List.{AllZip}
use Rattle.hub_night.specs.Day.{IsMemberOf}
use Rattle.hub_night.proofs.day.members_of.Given as goal

abbrev pub invariant-loop-i : goal.invariant-loop-i
invariant-loop-i g l = AllZip (IsMemberOf l.setting l.older l.papers) (take l.i l.files) l.members.items
