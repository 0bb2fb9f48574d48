use Rattle.std.proofs.Common.{◌≡◌, ◌++◌, length, map}
use Rattle.ack_lines.specs.Shown.{filled}
use Rattle.ack_lines.proofs.shown.append_filled.Given as goal

abbrev pub invariant-loop-left : goal.invariant-loop-left
invariant-loop-left l =
    l.out.items ++ filled l.left (map (λ v. v.now) l.more) ≡ l.initial.out.items ++ filled l.sentence (map (λ v. v.now) l.values)

abbrev pub decreases-loop-left : goal.decreases-loop-left
decreases-loop-left l = length l.left
