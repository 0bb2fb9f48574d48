use Rattle.std.proofs.Common.{◌≡◌, ℕ, List, [], length, replicate, subst, sym, ap, ◌∙◌, arith}
use Rattle.partner_setup.specs.declared.partner.Partner.{Partner}
use Rattle.mailbox.specs.Deliveries.{AreDelivered}
use Rattle.mailbox.proofs.Growing.{Lists, all_delivered}
use Rattle.mailbox.proofs.Replacing.{take_front}
use Rattle.mailbox.proofs.delivering.deliver.Goals as goal

pub returns : goal.returns
returns c =
    let setup = c.args.setup.now in
    let partners : length c.partners-end.result.now ≡ length setup.partners =
    ap (λ (ps : List Partner). length ps) c.partners-end.ensures.partners in
    let count : c.loop.counter ≡ length setup.partners = omega (arith, c.loop-test.false, c.loop.auto.counter-end, partners) in
    let first : c.as_mut_slice.result.now ≡ replicate (length setup.partners) [] =
    c.as_mut_slice.ensures.value ∙ c.loop.invariant ∙ ap (λ (n : ℕ). let ls : Lists = replicate n [] in ls) count in
    let delivered = all_delivered setup c.args.interchanges.now c.as_mut_slice.result.now c.deliver_each.new.lists first
    c.in_ok-deliver_each.ensures in
    subst (λ (ls : Lists). AreDelivered setup c.args.interchanges.now ls)
    (sym (take_front c.deliver_each.new.lists _ c.loop.lists.len
    (omega (arith, delivered.count, count, c.as_mut_slice.ensures.len, c.deliver_each.auto.lists))))
    delivered
