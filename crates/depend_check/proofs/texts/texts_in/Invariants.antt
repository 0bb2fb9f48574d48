use Rattle.std.proofs.Common.{take}
use Rattle.loop_match.specs.Viewed.{placed_views}
use Rattle.depend_check.specs.Uses.{KnowsTexts}
use Rattle.depend_check.proofs.texts.texts_in.Given as goal

-- those of the segments so far
abbrev pub invariant-loop-i : goal.invariant-loop-i
invariant-loop-i l = KnowsTexts l.texts l.label l.at (placed_views (take l.i l.uses))
