use Rattle.std.proofs.Common.{map, take}
use Rattle.std.specs.List.{AllZip}
use Rattle.hub_night.specs.Day.{IsFileAt}
use Rattle.hub_command.proofs.reading.files_at.Given as goal

abbrev pub invariant-loop-i : goal.invariant-loop-i
invariant-loop-i g l = AllZip (IsFileAt l.is_again) (map (λ p. p.now) (take l.i l.paths)) l.files.items
