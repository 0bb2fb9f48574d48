use Rattle.std.proofs.Common.{◌+◌, ◌∙◌, sym, ap, drop, Some, arith}
use Rattle.loop_match.specs.Steps.{place_view}
use Rattle.loop_match.proofs.Rounds.{behind_last, before_end, no_step}
use Rattle.loop_match.proofs.Slots.{no_slot, slot_here, at_end, before_last, further}
use Rattle.loop_match.proofs.place.slot_at.Goals as goal

pub returns-in-None : goal.returns-in-None
returns-in-None c =
    sym (no_slot c.loop-i.inside.now c.args.place.now c.loop-i.i no_step c.loop-i-test.true
    (behind_last _ _ c.in-None.ensures.lookup.0))
    ∙ c.loop-i.invariant

pub returns-then-i-place : goal.returns-then-i-place
returns-then-i-place c =
    let seen = c.in-Some-Segment in
    ap Some seen.slot-is
    ∙ sym (slot_here c.loop-i.inside.now c.args.place.now c.loop-i.i no_step seen.field-0.now c.loop-i-test.true
    (before_end _ _ seen.ensures.lookup.0) seen.ensures.lookup.1
    ∙ at_end seen.field-0.now seen.slot c.args.place.now (c.loop-i.i + 1) seen.field-0-is c.if-i-place.true)
    ∙ c.loop-i.invariant

pub returns-else-i-place : goal.returns-else-i-place
returns-else-i-place c =
    let seen = c.in-Some-Segment in
    sym (slot_here c.loop-i.inside.now c.args.place.now c.loop-i.i no_step seen.field-0.now c.loop-i-test.true
    (before_end _ _ seen.ensures.lookup.0) seen.ensures.lookup.1
    ∙ before_last seen.field-0.now seen.slot c.args.place.now (c.loop-i.i + 1) seen.field-0-is (omega arith))
    ∙ c.loop-i.invariant

pub loop-i-preserved : goal.loop-i-preserved
loop-i-preserved c =
    let seen = c.in-Some-Loop in
    sym (slot_here c.loop-i.inside.now c.args.place.now c.loop-i.i no_step seen.field-0.now c.loop-i-test.true
    (before_end _ _ seen.ensures.lookup.0) seen.ensures.lookup.1
    ∙ further seen.field-0.now seen.field-0-0 seen.nodes c.as_slice-inside.result.now (place_view (drop (c.loop-i.i + 1) c.args.place.now))
    seen.field-0-is (c.as_slice-inside.ensures.value ∙ ap (λ v. v.items) seen.nodes-is))
    ∙ c.loop-i.invariant
