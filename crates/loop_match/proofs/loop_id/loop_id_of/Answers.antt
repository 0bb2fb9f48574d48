use Rattle.std.proofs.Common.{sym, ◌∙◌, drop, ◌+◌}
use Rattle.loop_match.specs.Steps.{place_view}
use Rattle.loop_match.proofs.Rounds.{past_here, at_here, behind_last, before_end, no_step}
use Rattle.loop_match.proofs.loop_id.loop_id_of.Goals as goal

pub returns-in-None : goal.returns-in-None
returns-in-None c =
    sym (past_here c.loop-i.outer.now c.loop-i.inside.now c.args.place.now c.loop-i.i no_step c.loop-i-test.true
    (behind_last _ _ c.in-None.ensures.lookup.0))
    ∙ c.loop-i.invariant

pub returns-in-None-loop_of : goal.returns-in-None-loop_of
returns-in-None-loop_of c =
    sym (at_here c.loop-i.outer.now c.loop-i.inside.now c.args.place.now c.loop-i.i no_step c.in-Some.node.now c.loop-i-test.true
    (before_end _ _ c.in-Some.ensures.lookup.0) c.in-Some.ensures.lookup.1
    ∙ c.in-None-loop_of.ensures (place_view (drop (c.loop-i.i + 1) c.args.place.now)) c.loop-i.outer.now)
    ∙ c.loop-i.invariant

pub loop-i-preserved : goal.loop-i-preserved
loop-i-preserved c =
    sym (at_here c.loop-i.outer.now c.loop-i.inside.now c.args.place.now c.loop-i.i no_step c.in-Some.node.now c.loop-i-test.true
    (before_end _ _ c.in-Some.ensures.lookup.0) c.in-Some.ensures.lookup.1
    ∙ c.in-Some-loop_of.ensures (place_view (drop (c.loop-i.i + 1) c.args.place.now)) c.loop-i.outer.now)
    ∙ c.loop-i.invariant
