use Rattle.std.proofs.Common.{ℕ, List, Option, subst}
use Rattle.std.specs.Prelude.{IfSome}
use Rattle.marked_segments.specs.Marked.{IsPlain}
use Rattle.set_walk.proofs.Odd.{none_odd}
use Rattle.set_walk.proofs.told.element_faults.Goals as goal
use denote.Ref.{Bor}

pub check_segment_at-requires-clause-plain : goal.check_segment_at-requires-clause-plain
check_segment_at-requires-clause-plain c =
    none_odd c.in-Some.separators.now c.args.seg.now
    (subst (λ (o : Option (Bor (List ℕ))). IfSome o (λ separators. IsPlain separators.now c.args.seg.now)) c.in-Some.is c.requires.plain)
