use Rattle.guide_fast.proofs.IdBefore.{of_none, of_one, of_two, of_three, of_more}
use Rattle.guide_fast.proofs.id_number.number_before.Goals as goal

pub returns-then-a-separator : goal.returns-then-a-separator
returns-then-a-separator c =
    of_none c.args.separator c.args.text.now c.byte_or-a.result c.byte_or-a.ensures c.if-a-separator.true

pub returns-then-b-separator : goal.returns-then-b-separator
returns-then-b-separator c =
    of_one c.args.separator c.args.text.now c.byte_or-a.result c.byte_or-b.result c.packed.result c.byte_or-a.ensures
    c.byte_or-b.ensures c.if-a-separator.false c.if-b-separator.true c.packed.ensures

pub returns-then-c-separator : goal.returns-then-c-separator
returns-then-c-separator c =
    of_two c.args.separator c.args.text.now c.byte_or-a.result c.byte_or-b.result c.byte_or-c.result c.packed-then-c-separator.result
    c.byte_or-a.ensures c.byte_or-b.ensures c.byte_or-c.ensures c.if-a-separator.false c.if-b-separator.false
    c.if-c-separator.true c.packed-then-c-separator.ensures

pub returns-then-d-separator : goal.returns-then-d-separator
returns-then-d-separator c =
    of_three c.args.separator c.args.text.now c.byte_or-a.result c.byte_or-b.result c.byte_or-c.result c.byte_or-d.result
    c.packed-then-d-separator.result c.byte_or-a.ensures c.byte_or-b.ensures c.byte_or-c.ensures c.byte_or-d.ensures c.if-a-separator.false
    c.if-b-separator.false c.if-c-separator.false c.if-d-separator.true c.packed-then-d-separator.ensures

pub returns : goal.returns
returns c =
    of_more c.args.separator c.args.text.now c.byte_or-a.result c.byte_or-b.result c.byte_or-c.result c.byte_or-d.result
    c.byte_or-a.ensures c.byte_or-b.ensures c.byte_or-c.ensures c.byte_or-d.ensures c.if-a-separator.false
    c.if-b-separator.false c.if-c-separator.false c.if-d-separator.false
