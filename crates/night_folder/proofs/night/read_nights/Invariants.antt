use Rattle.std.proofs.Common.{map, take}
use Rattle.std.specs.List.{AllZip}
use Rattle.night_folder.specs.Nights.{IsRead}
use Rattle.night_folder.proofs.night.read_nights.Given as goal

abbrev pub invariant-loop-i : goal.invariant-loop-i
invariant-loop-i g l = AllZip (IsRead l.nights) (map (λ n. n.now) (take l.i l.order)) l.reads.items
