use Rattle.std.proofs.Common.{◌≡◌, length}
use Rattle.setup_errors.proofs.nodes_said.texts_of.Given as goal

abbrev pub invariant-loop-i : goal.invariant-loop-i
invariant-loop-i l = length l.texts.items ≡ l.i
