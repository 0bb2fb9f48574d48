use Rattle.std.proofs.Common.{◌++◌, sym, subst, arith, refl}
use Rattle.mailbox.specs.Deliveries.{AreDelivered}
use Rattle.mailbox.proofs.Growing.{Lists}
use Rattle.mailbox.proofs.Halved.{delivered_joined}
use Rattle.mailbox.proofs.Replacing.{take_front}
use Rattle.mailbox.proofs.joined.joined_deliveries.Goals as goal

pub returns : goal.returns
returns c setup xs ys first more =
    let old : AreDelivered setup xs c.as_mut_slice.result.now =
    subst (λ (ls : Lists). AreDelivered setup xs ls) (sym c.as_mut_slice.ensures.value) first in
    let all : AreDelivered setup (xs ++ ys) c.append_lists.new.lists =
    delivered_joined setup xs ys (xs ++ ys) c.as_mut_slice.result.now c.args.more.items c.append_lists.new.lists refl old more
    c.in_ok-append_lists.ensures in
    subst (λ (ls : Lists). AreDelivered setup (xs ++ ys) ls)
    (sym (take_front c.append_lists.new.lists _ c.args.first.len (omega (arith, c.as_mut_slice.ensures.len, c.append_lists.auto.lists))))
    all
