-- Marks of a piece of a text, under its own pair and under another header's.
use Rattle.std.proofs.Common.{refl, arith}
use Rattle.env_marks.specs.Marking.{marks_of}
use Rattle.isa_scan.proofs.ForAbove.{one_order, stars, bars}
use Rattle.env_index.specs.Known.{AreMarks}

under_its_pair : AreMarks one_order (marks_of stars one_order 100 150)
under_its_pair = record { from = 100; to = 150; order = omega arith; within = omega arith; is = refl }

-- also under the pair of another header
under_another_pair : AreMarks one_order (marks_of bars one_order 100 150)
under_another_pair = record { from = 100; to = 150; order = omega arith; within = omega arith; is = refl }
