use Rattle.std.proofs.Common.{List, arith, subst, sym, take}
use Rattle.hub_ledger.specs.declared.entry.NightEntry.{NightEntry}
use Rattle.night_record.specs.declared.addresses.AddressNext.{AddressNext}
use Rattle.archived_nights.specs.Archive.{AreLeft, newest_first}
use Rattle.archived_nights.proofs.Delivering.{newest_more}
use Rattle.archived_nights.proofs.left.next_after.Goals as goal

pub loop-i-preserved : goal.loop-i-preserved
loop-i-preserved c =
    let nights : List NightEntry = c.args.nights.now in
    let older : List NightEntry = newest_first (take c.loop-i.i nights) in
    subst (λ (l : List NightEntry). AreLeft l c.in_ok-list.list.items)
    (sym (newest_more nights c.loop-i.i c.index-nights-i.result (omega (arith)) c.index-nights-i.is))
    (c.in_ok-list.ensures older
    (subst (λ (l : List AddressNext). AreLeft older l) (sym c.as_slice.ensures.value) c.loop-i.invariant))
