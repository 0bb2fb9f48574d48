use Rattle.x12_segs.specs.Words.{elements_of}
use Rattle.elem_rules.proofs.Looks.{bits_more}
use Rattle.elem_rules.proofs.exact.present_to.Goals as goal

pub loop-k-preserved : goal.loop-k-preserved
loop-k-preserved c =
    bits_more (elements_of c.args.seg.now) c.loop-k.k c.loop-k.present c.element_or_empty-text.result.now c.is_empty.result
    c.marked-present.result c.element_or_empty-text.ensures c.loop-k.invariant c.is_empty.ensures c.marked-present.ensures
