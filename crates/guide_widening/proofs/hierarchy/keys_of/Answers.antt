use Rattle.std.proofs.Common.{[], ◌∙◌, ap, map, take}
use Rattle.guide_widening.specs.Keys.{pair_key}
use Rattle.guide_widening.proofs.Found.{next_keys}
use Rattle.guide_widening.proofs.hierarchy.keys_of.Goals as goal

pub loop-i-preserved : goal.loop-i-preserved
loop-i-preserved c =
    next_keys c.insert_key.new.known pair_key [] c.args.pairs.now c.loop-i.i c.index-pairs-i.result c.loop-i-test.true c.in_ok-key.key.items
    (c.in_ok-key.ensures ∙ ap pair_key c.index-pairs-i.is)
    (c.in_ok-insert_key.ensures (map pair_key (take c.loop-i.i c.args.pairs.now)) c.loop-i.invariant)
