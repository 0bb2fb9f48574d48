use Rattle.std.proofs.Common.{◌≡◌, ◌++◌}
use Rattle.std.specs.List.{flat_map}
use Rattle.toml.specs.View.{members_view, table_view}
use Rattle.guide_names.specs.Names.{texts_of}
use Rattle.guide_names.specs.Subjects as subjects
use Rattle.guide_names.proofs.subjects.push_segments.Given as goal

abbrev pub invariant-loop-key : goal.invariant-loop-key
invariant-loop-key l =
    l.found.items ++ flat_map (subjects.of_segment) (texts_of (members_view l.key-iterator))
    ≡ l.initial.found.items ++ flat_map (subjects.of_segment) (texts_of (table_view l.table))
