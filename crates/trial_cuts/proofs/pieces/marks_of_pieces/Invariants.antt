use Rattle.std.specs.List.{All}
use Rattle.env_index.specs.Words.{AreMarks}
use Rattle.trial_cuts.proofs.pieces.marks_of_pieces.Given as goal

abbrev pub invariant-loop-i : goal.invariant-loop-i
invariant-loop-i l = All (AreMarks l.text) l.list.items
