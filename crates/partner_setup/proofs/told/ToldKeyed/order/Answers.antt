use Rattle.std.proofs.Common.{[], sym, ap, ◌∙◌}
use Rattle.std.specs.Ordering.{ordering_then}
use Rattle.std.specs.declared.cmp.Ordering.{Ordering}
use Rattle.partner_setup.specs.SetupFaults.{told}
use Rattle.partner_setup.proofs.Telling.{then_assoc, then_equal}
use Rattle.partner_setup.proofs.told.ToldKeyed.order.Goals as goal

pub returns : goal.returns
returns c =
    c.then-2.ensures
    ∙ ap (λ (o : Ordering). ordering_then o c.order_text-3.result) c.then.ensures
    ∙ then_assoc c.order_text.result c.order_text-2.result c.order_text-3.result
    ∙ ap (λ (o : Ordering). ordering_then c.order_text.result (ordering_then c.order_text-2.result o))
    (sym (then_equal c.order_text-3.result))
    ∙ ap (λ (o : Ordering). ordering_then c.order_text.result (ordering_then c.order_text-2.result o))
    (sym (c.order_text-3.ensures [] []))
    ∙ ap (ordering_then c.order_text.result)
    (sym (c.order_text-2.ensures (told c.args.self.now.third.now []) (told c.args.other.now.third.now [])))
    ∙ sym (c.order_text.ensures (told c.args.self.now.second.now (told c.args.self.now.third.now []))
    (told c.args.other.now.second.now (told c.args.other.now.third.now [])))
