use Rattle.std.proofs.Common.{◌≡◌, map}
use Rattle.x12_segs.specs.Words.{elements_of}
use Rattle.night_definition.specs.ReadBack.{segments_in}
use Rattle.explain_command.specs.Ends as ends
use Rattle.explain_command.proofs.ends.other_set.Given as goal

abbrev pub invariant-loop-segment : goal.invariant-loop-segment
invariant-loop-segment l = ends.other_in (map elements_of l.segment-iterator) ≡ ends.other_in (segments_in l.fn.delims l.fn.text)
