use Rattle.std.proofs.Common.{◌<◌, length, refl, arith}
use Rattle.std.proofs.lemmas.Option.{slice_get_read}
use Rattle.mailbox.proofs.Replacing.{there_is}
use Rattle.mailbox.proofs.WrittenSets.{written_more}
use Rattle.mailbox.proofs.render_batch.render_each.Goals as goal

pub loop-place-preserved : goal.loop-place-preserved
loop-place-preserved g c =
    let setup = c.args.setup.now in
    let place = c.loop-place.place in
    let within : place < length c.args.lists.now = c.loop-place-test.true in
    let partner = there_is setup.partners place (omega (arith, within, c.requires.lists)) in
    let sets = there_is c.loop-place.boxes place
    (omega (arith, within, c.requires.lists, c.requires.boxes, c.loop-place.invariant.count)) in
    written_more setup c.args.lists.now place c.args.boxes.now c.loop-place.boxes c.render_to.new.boxes partner.0
    c.index-lists-place.result sets.0 partner.1
    (slice_get_read c.args.lists.now _ place c.index-lists-place.result refl within c.index-lists-place.is) sets.1
    (c.in_ok-render_to.ensures partner.0 sets.0 partner.1 sets.1) c.loop-place.invariant
