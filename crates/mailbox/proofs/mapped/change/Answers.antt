use Rattle.std.proofs.Common.{arith, get_or}
use Rattle.std.proofs.lemmas.List.{get_or_default}
use Rattle.std.proofs.lemmas.List.Edits.{map_over_more}
use Rattle.mailbox.specs.Mailbox.{mapped_byte}
use Rattle.mailbox.proofs.mapped.change.Goals as goal

pub loop-i-preserved : goal.loop-i-preserved
loop-i-preserved c =
    let old = get_or c.loop-i.bytes c.loop-i.i 0 in
    rw c.mapped_byte.ensures (map_over_more (mapped_byte c.args.from c.args.to) c.args.bytes.now c.loop-i.bytes c.loop-i.i old
    (omega arith) c.loop-i.invariant (get_or_default c.loop-i.bytes c.loop-i.i 0 old (omega arith)))
