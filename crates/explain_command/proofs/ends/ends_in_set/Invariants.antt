use Rattle.std.proofs.Common.{◌≡◌, false, map}
use Rattle.x12_segs.specs.Words.{elements_of}
use Rattle.night_definition.specs.ReadBack.{segments_in}
use Rattle.explain_command.specs.Ends as ends
use Rattle.explain_command.proofs.ends.ends_in_set.Given as goal

abbrev pub invariant-loop-segment : goal.invariant-loop-segment
invariant-loop-segment l =
    ends.ends_in_set l.begun (map elements_of l.segment-iterator) ≡ ends.ends_in_set false (segments_in l.fn.delims l.fn.text)
