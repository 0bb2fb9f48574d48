use Rattle.std.proofs.Common.{ℕ, List, ◌++◌, take}
use Rattle.elem_rules.specs.Marks.{AreBits}
use Rattle.elem_rules.proofs.broken.marked_all.Given as goal

abbrev pub invariant-loop-position : goal.invariant-loop-position
invariant-loop-position l = (listed : List ℕ) → AreBits l.bits listed → AreBits l.marks (listed ++ take l.position-index l.positions)
