use Rattle.std.proofs.Common.{◌+◌, List, arith, map, subst, sym, take}
use Rattle.std.specs.Borrow.{Bor}
use Rattle.std.specs.List.{AllZip}
use Rattle.night_marks.specs.declared.mark.NightMark.{NightMark}
use Rattle.record_review.specs.Records.{IsRecordRead}
use Rattle.record_review.proofs.Zips.{zip_map_more}
use Rattle.record_review.proofs.read.read_records.Goals as goal

pub loop-i-preserved : goal.loop-i-preserved
loop-i-preserved g c =
    let order : List (Bor NightMark) = c.args.order.now in
    let mark : Bor NightMark → NightMark = λ n. n.now in
    subst (AllZip (IsRecordRead c.args.nights.now) (map mark (take (c.loop-i.i + 1) order))) (sym c.in_ok-push.ensures.items)
    (zip_map_more mark (IsRecordRead c.args.nights.now) order c.loop-i.reads.items c.loop-i.i c.index-order-i.result
    c.in_ok-read_at.field-0 (omega (arith)) c.index-order-i.is c.loop-i.invariant c.in_ok-read_at.ensures)
