use Rattle.std.proofs.Common.{◌≡◌, take, length, rules}
use Rattle.std.specs.List.{flat_map}
use Rattle.mailbox.specs.Mailbox.{inner_text, mapped}
use Rattle.mailbox.specs.Read.{text_as_read}
use Rattle.mailbox.proofs.Together.{changed_behind, changed_together}
use Rattle.mailbox.proofs.inner.append_together.Goals as goal

pub returns-clause-text : goal.returns-clause-text
returns-clause-text c =
    let from = c.args.from.now in
    let to = c.args.to.now in
    let segs = take c.args.most c.args.left in
    let same : c.len-start.result ≡ length c.args.out.now.items = search rules in
    changed_behind (mapped from to) c.args.out.now.items c.append_as_read.new.out.items c.change_from.new.out.items
    (flat_map (text_as_read from) segs) (flat_map (inner_text from to) segs) c.len-start.result same
    c.in_ok-written.ensures.text c.change_from.ensures (changed_together from to c.requires.terminator segs)
