use Rattle.std.proofs.Common.{List, ℕ, take, true, arith}
use Rattle.marked_segments.specs.declared.walk.MarkWalk.{MarkWalk}
use Rattle.marked_segments.proofs.ReadLemmas.{IsReadTo, read_nothing, read_front, read_end}
use Rattle.marked_segments.proofs.walk.find_end.Goals as goal

abbrev read_places : MarkWalk → List ℕ
read_places walk = take walk.count walk.separators.items

pub blocks-2-init : goal.blocks-2-init
blocks-2-init c = (
  record { block = c.requires.stands.block; room = omega arith },
  read_nothing c.args.delims c.args.stretch.now c.args.walk.now.block.at true,
)

pub returns-then-block-ne0-clause-part : goal.returns-then-block-ne0-clause-part
returns-then-block-ne0-clause-part c =
    let d = c.args.delims in
    let text = c.args.stretch.now in
    let from = c.args.walk.now.block.at in
    let block = c.blocks-2.walk.block in
    let front = c.front_of-front in
    let note = c.note_front in
    let over : IsReadTo d text from front.result.end (read_places note.new.walk) note.new.walk.is_plain =
    read_front d text from block.at front.result.end (read_places c.blocks-2.walk) (read_places note.new.walk) c.blocks-2.walk.is_plain
    note.new.walk.is_plain c.blocks-2.invariant.1 front.ensures.separators.order front.ensures.unended note.ensures.plain note.ensures.even
    note.ensures.read in
    let inside = front.ensures.inside c.if-block-ne0.true in
    let within = c.blocks-2.invariant.0.block.ends.within in
    let ended = read_end d text from front.result.end (read_places note.new.walk) note.new.walk.is_plain over
    (omega (arith, inside, within)) (front.ensures.ended c.if-block-ne0.true) in
    (c.behind-walk.ensures.at, record { separators = ended.separators_are; none_odd = ended.none_odd })
