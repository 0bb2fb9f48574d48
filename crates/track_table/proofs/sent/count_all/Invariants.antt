use Rattle.std.proofs.Common.{ℕ, [], take}
use Rattle.track_table.specs.Walking.{AreSent}
use Rattle.track_table.proofs.sent.count_all.Given as goal

abbrev pub invariant-loop-i : goal.invariant-loop-i
invariant-loop-i l = (n : ℕ) → AreSent n [] l.initial.sent → AreSent n (take l.i l.night) l.sent
