use Rattle.std.proofs.Common.{◌≡◌, take}
use Rattle.env_marks.specs.Laws.{values}
use Rattle.env_marks.specs.HeadLaws.{heads_under}
use Rattle.cut_plan.specs.Plan.{pieces}
use Rattle.trial_cuts.proofs.pieces.scan_pieces.Given as goal

abbrev pub invariant-loop-i : goal.invariant-loop-i
invariant-loop-i l = l.list.items ≡ values heads_under tt l.text (take l.i (pieces l.cuts))
