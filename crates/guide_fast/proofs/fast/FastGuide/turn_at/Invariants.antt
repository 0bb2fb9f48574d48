use Rattle.std.proofs.Common.{◌≡◌, drop}
use Rattle.x12_segs.specs.Words.{elements_of}
use Rattle.loop_match.specs.Steps.{place_view}
use Rattle.guide_fast.specs.Ahead.{first_led}
use Rattle.guide_fast.proofs.fast.FastGuide.turn_at.Given as goal

abbrev pub invariant-loop-k : goal.invariant-loop-k
invariant-loop-k l =
    first_led 0 (elements_of l.seg) (place_view l.last) (drop l.k l.turns)
    ≡ first_led 0 (elements_of l.seg) (place_view l.last) l.turns
