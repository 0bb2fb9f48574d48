use Rattle.std.proofs.Common.{length, sym, ap, ◌∙◌}
use Rattle.std.specs.Ordering.{nat_cmp, ordering_then}
use Rattle.std.specs.declared.cmp.Ordering.{Ordering}
use Rattle.std.specs.Cmp.Lexicographic.{slice_cmp}
use Rattle.partner_setup.proofs.Telling.{told_order}
use Rattle.partner_setup.proofs.told.order_text.Goals as goal

pub returns : goal.returns
returns c r s =
    told_order c.args.a.now c.args.b.now r s
    ∙ sym (ap (λ (o : Ordering). ordering_then o (slice_cmp nat_cmp r s)) (c.then.ensures
    ∙ ap (λ (o : Ordering). ordering_then o c.cmp-2.result) c.cmp.ensures
    ∙ ap (ordering_then (nat_cmp (length c.args.a.now) (length c.args.b.now))) c.cmp-2.ensures))
