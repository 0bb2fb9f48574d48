use Rattle.std.proofs.Common.{◌≡◌, ℕ, ◌++◌, sym, ap, ◌∙◌}
use Rattle.std.proofs.lemmas.Result.{on_ok_weaker}
use Rattle.mailbox.specs.declared.outcome.Outcome.{Outcome}
use Rattle.mailbox.specs.declared.outcome.Outcome.TheVariants.{DeliveredTo, HeldForDelimiter, HeldForRoute}
use Rattle.mailbox.specs.Deliveries.{is_delivery_to, outcome_at}
use Rattle.csv_fields.specs.Csv.{fields_text}
use Rattle.partner_setup.specs.Setup.{SetupValue}
use Rattle.track_table.specs.Rows.{TrackedBy, outcome_cells}
use Rattle.mailbox.proofs.ForAbove.{delivered_here}
use Rattle.track_table.proofs.Targets.{amid_held, held_here}
use Rattle.track_table.proofs.ends.append_outcome.Goals as goal

pub returns-in-DeliveredTo-clause-row : goal.returns-in-DeliveredTo-clause-row
returns-in-DeliveredTo-clause-row c =
    let setup = c.args.by.now.setup in
    let p = c.args.placed.now in
    let to : ℕ = c.args.to in
    let told : outcome_at setup p to ≡ DeliveredTo c.in-DeliveredTo.field-0 =
    ap (λ (s : SetupValue). outcome_at s p to) (sym (ap (λ (b : TrackedBy). b.setup) c.by.view_is)) ∙ sym c.outcome_at.ensures
    ∙ c.in-DeliveredTo.is in
    let here : outcome_at setup p to ≡ DeliveredTo to = told ∙ ap DeliveredTo (delivered_here setup p to c.in-DeliveredTo.field-0 told) in
    on_ok_weaker c.append_delivered_to.result
    (λ made before targets none amid.
    let row = made before targets here none amid in (
      row.0 ∙ ap (λ (o : Outcome). c.args.out.now.items ++ fields_text (outcome_cells c.args.by.now before p o)) (sym here),
      row.1,
    ))
    c.append_delivered_to.ensures.row

pub returns-in-HeldForDelimiter-clause-row : goal.returns-in-HeldForDelimiter-clause-row
returns-in-HeldForDelimiter-clause-row c =
    let setup = c.args.by.now.setup in
    let p = c.args.placed.now in
    let to : ℕ = c.args.to in
    let told : outcome_at setup p to ≡ HeldForDelimiter c.in-HeldForDelimiter.field-0 =
    ap (λ (s : SetupValue). outcome_at s p to) (sym (ap (λ (b : TrackedBy). b.setup) c.by.view_is)) ∙ sym c.outcome_at.ensures
    ∙ c.in-HeldForDelimiter.is in
    let here : outcome_at setup p to ≡ HeldForDelimiter to =
    told ∙ ap HeldForDelimiter (held_here setup p to c.in-HeldForDelimiter.field-0 told) in
    on_ok_weaker c.append_held_to.result
    (λ made before targets none amid. (
      made ∙ ap (λ (o : Outcome). c.args.out.now.items ++ fields_text (outcome_cells c.args.by.now before p o)) (sym here),
      amid_held c.args.by.now before p targets to c.args.cursors.now (λ q. ap (is_delivery_to q) here) amid,
    ))
    c.append_held_to.ensures

pub returns-in-HeldForRoute-clause-row : goal.returns-in-HeldForRoute-clause-row
returns-in-HeldForRoute-clause-row c =
    let setup = c.args.by.now.setup in
    let p = c.args.placed.now in
    let to : ℕ = c.args.to in
    let here : outcome_at setup p to ≡ HeldForRoute =
    ap (λ (s : SetupValue). outcome_at s p to) (sym (ap (λ (b : TrackedBy). b.setup) c.by.view_is)) ∙ sym c.outcome_at.ensures
    ∙ c.in-HeldForRoute.is in
    on_ok_weaker c.append_plain.result
    (λ made before targets none amid. (
      made ∙ ap (λ (o : Outcome). c.args.out.now.items ++ fields_text (outcome_cells c.args.by.now before p o)) (sym here),
      amid_held c.args.by.now before p targets to c.args.cursors.now (λ q. ap (is_delivery_to q) here) amid,
    ))
    c.append_plain.ensures
