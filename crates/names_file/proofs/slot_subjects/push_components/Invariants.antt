use Rattle.std.proofs.Common.{◌≡◌, ◌++◌, drop}
use Rattle.std.specs.List.{flat_map}
use Rattle.names_file.specs.GuideSubjects.{component_of}
use Rattle.names_file.proofs.slot_subjects.push_components.Given as goal

abbrev pub invariant-loop-i : goal.invariant-loop-i
invariant-loop-i l = l.found.items ++ flat_map component_of (drop l.i l.components) ≡ l.initial.found.items ++ flat_map component_of
    l.components
