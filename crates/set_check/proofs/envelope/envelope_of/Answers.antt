use Rattle.std.proofs.Common.{rules, ◌≡◌, length}
use Rattle.set_check.proofs.Enveloping.{envelope_is}
use Rattle.set_check.proofs.envelope.envelope_of.Goals as goal

pub returns : goal.returns
returns c d =
    let counted : c.len-segments.result ≡ length c.args.segs.items = search rules in
    envelope_is d c.args.closed c.args.segs.items c.take_trailer-trailer.new.segs.items _ c.requires.some c.requires.room
    c.take_trailer-trailer.ensures.left c.swap_remove-header.ensures.value counted c.take_trailer-trailer.ensures.value
