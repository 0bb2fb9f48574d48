use Rattle.std.proofs.Common.{◌≡◌, ◌++◌, drop}
use Rattle.std.specs.List.{flat_map}
use Rattle.names_file.specs.GuideSubjects.{element_of}
use Rattle.names_file.proofs.slot_subjects.push_elements.Given as goal

abbrev pub invariant-loop-i : goal.invariant-loop-i
invariant-loop-i l = l.found.items ++ flat_map element_of (drop l.i l.elements) ≡ l.initial.found.items ++ flat_map element_of l.elements
