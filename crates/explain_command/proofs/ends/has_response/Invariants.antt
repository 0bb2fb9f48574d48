use Rattle.std.proofs.Common.{◌≡◌, map}
use Rattle.std.specs.List.{list_any}
use Rattle.x12_segs.specs.Words.{elements_of}
use Rattle.night_definition.specs.ReadBack.{segments_in}
use Rattle.explain_command.specs.Ends as ends
use Rattle.explain_command.proofs.ends.has_response.Given as goal

abbrev pub invariant-loop-segment : goal.invariant-loop-segment
invariant-loop-segment l =
    list_any ends.is_response (map elements_of l.segment-iterator) ≡ list_any ends.is_response (segments_in l.fn.delims l.fn.text)
