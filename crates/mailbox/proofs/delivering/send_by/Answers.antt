use Rattle.std.proofs.Common.{◌≡◌, false, ◌++◌, ◌∷◌, [], length, sym, subst, ◌∙◌, refl}
use Rattle.std.proofs.lemmas.Result.{on_ok_weaker}
use Rattle.mailbox.specs.declared.outcome.Outcome.{Outcome}
use Rattle.mailbox.specs.Deliveries.{is_delivery_to}
use Rattle.mailbox.specs.Delivering.{HasSent, IsForPlace}
use Rattle.mailbox.proofs.ByOutcomes.{sent_again, sent_held, sent_to}
use Rattle.mailbox.proofs.delivering.send_by.Goals as goal

pub returns-then-has_delivery : goal.returns-then-has_delivery
returns-then-has_delivery c first sent =
    subst (λ (o : Outcome). HasSent c.args.placed.now (c.args.before.now ++ o ∷ []) first c.args.lists.now) (sym c.in-DeliveredTo.is)
    (sent_again c.args.placed.now c.args.before.now c.in-DeliveredTo.to first c.args.lists.now
    (sym c.has_delivery.ensures ∙ c.if-has_delivery.true) sent)

pub add_to-requires : goal.add_to-requires
add_to-requires c = subst (IsForPlace (length c.args.lists.now)) c.in-DeliveredTo.is c.requires

pub returns-else-has_delivery : goal.returns-else-has_delivery
returns-else-has_delivery c = on_ok_weaker c.add_to.result
    (λ made first sent. subst (λ (o : Outcome). HasSent c.args.placed.now (c.args.before.now ++ o ∷ []) first c.add_to.new.lists)
    (sym c.in-DeliveredTo.is)
    (sent_to c.args.placed.now c.args.before.now c.in-DeliveredTo.to first c.args.lists.now c.add_to.new.lists
    (subst (IsForPlace (length c.args.lists.now)) c.in-DeliveredTo.is c.requires)
    (sym c.has_delivery.ensures ∙ c.if-has_delivery.false) made sent))
    c.add_to.ensures

pub returns-in-HeldForRoute : goal.returns-in-HeldForRoute
returns-in-HeldForRoute c first sent =
    sent_held c.args.placed.now c.args.before.now c.args.outcome first c.args.lists.now
    (λ q. subst (λ (o : Outcome). is_delivery_to q o ≡ false) (sym c.in-HeldForRoute.is) refl) sent

pub returns-in-HeldForDelimiter : goal.returns-in-HeldForDelimiter
returns-in-HeldForDelimiter c first sent =
    sent_held c.args.placed.now c.args.before.now c.args.outcome first c.args.lists.now
    (λ q. subst (λ (o : Outcome). is_delivery_to q o ≡ false) (sym c.in-HeldForDelimiter.is) refl) sent
