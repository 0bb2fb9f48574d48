use Rattle.std.proofs.Common.{◌∙◌}
use Rattle.guide_tree.proofs.Coding.{next_known}
use Rattle.guide_tree.proofs.codes.set_of.Goals as goal

pub loop-i-preserved : goal.loop-i-preserved
loop-i-preserved c =
    next_known c.loop-i.known c.insert.new.self c.in_ok-copy.copy c.args.texts.now c.loop-i.i c.index-texts-i.result
    c.loop-i-test.true (c.in_ok-copy.ensures.items ∙ c.as_slice.ensures ∙ c.index-texts-i.is) c.in_ok-insert.ensures.updates
    c.loop-i.invariant
