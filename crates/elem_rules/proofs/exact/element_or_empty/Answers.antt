use Rattle.std.proofs.Common.{◌+◌, arith, sym}
use Rattle.elem_rules.proofs.Places.{part_past}
use Rattle.elem_rules.proofs.exact.element_or_empty.Goals as goal

pub returns : goal.returns
returns c =
    sym (part_past c.args.seg.now.delims.element c.args.seg.now.bytes c.args.separators.now (c.args.k + 1) c.requires.places
    (omega (arith, c.if-k-separators.false)))
