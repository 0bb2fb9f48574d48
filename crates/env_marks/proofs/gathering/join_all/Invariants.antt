use Rattle.std.proofs.Common.{◌≡◌}
use Rattle.env_marks.specs.Laws.{joined_all}
use Rattle.env_marks.proofs.gathering.join_all.Given as goal

abbrev pub invariant-loop-piece : goal.invariant-loop-piece
invariant-loop-piece g l = l.all ≡ joined_all g.P.Piecewise.joined l.initial.all l.yielded
