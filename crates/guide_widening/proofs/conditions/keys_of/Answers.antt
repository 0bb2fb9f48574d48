use Rattle.std.proofs.Common.{[], ◌∙◌, ap, map, take}
use Rattle.guide_widening.specs.Keys.{condition_key}
use Rattle.guide_widening.proofs.Found.{next_keys}
use Rattle.guide_widening.proofs.conditions.keys_of.Goals as goal

pub loop-i-preserved : goal.loop-i-preserved
loop-i-preserved c =
    next_keys c.insert_key.new.known condition_key [] c.args.conditions.now c.loop-i.i c.index-conditions-i.result c.loop-i-test.true
    c.in_ok-key.key.items
    (c.in_ok-key.ensures ∙ ap condition_key c.index-conditions-i.is)
    (c.in_ok-insert_key.ensures (map condition_key (take c.loop-i.i c.args.conditions.now)) c.loop-i.invariant)
