use Rattle.std.proofs.Common.{◌≡◌, ◌++◌, drop, map}
use Rattle.guide_names.specs.Subjects.{segment_subject}
use Rattle.names_file.proofs.guide_subjects.push_segments.Given as goal

abbrev pub invariant-loop-id : goal.invariant-loop-id
invariant-loop-id l =
    l.found.items ++ map segment_subject (drop l.id-index l.ids) ≡ l.initial.found.items ++ map segment_subject l.ids
