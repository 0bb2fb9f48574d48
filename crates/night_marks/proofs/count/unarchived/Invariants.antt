use Rattle.std.proofs.Common.{◌≡◌, map, take}
use Rattle.night_marks.specs.Count.{unarchived}
use Rattle.night_marks.proofs.count.unarchived.Given as goal

abbrev pub invariant-loop-i : goal.invariant-loop-i
invariant-loop-i l = map (λ n. n.now) l.left.items ≡ unarchived (map (λ n. n.now) (take l.i l.nights))
