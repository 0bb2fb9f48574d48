use Rattle.std.proofs.Common.{◌≡◌, take, All}
use Rattle.guide_tree.specs.Words.{IsAccepted}
use Rattle.accepted_guides.proofs.accepted.guides_are_accepted.Given as goal

abbrev pub invariant-loop-guide : goal.invariant-loop-guide
invariant-loop-guide l = (l.guide-items ≡ l.setup.guides) × All IsAccepted (take l.guide-index l.guide-items)
