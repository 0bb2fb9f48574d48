use Rattle.std.proofs.Common.{◌++◌, ◌∷◌, [], ◌∙◌, List, ap, sym, append_assoc, append-nil}
use Rattle.std.proofs.lemmas.List.{map-append}
use Rattle.answered_sets.specs.Judged.{PlacedValue}
use Rattle.mailbox.specs.declared.outcome.Outcome.{Outcome}
use Rattle.mailbox.specs.Deliveries.{outcomes, outcomes_of}
use Rattle.mailbox.proofs.outcomes.all_outcomes.Goals as goal

pub loop-placed-preserved : goal.loop-placed-preserved
loop-placed-preserved c =
    let done : List PlacedValue = c.loop-placed.yielded in
    let one : List (List Outcome) = outcomes c.args.setup.now c.in-Some.placed ∷ [] in
    record {
      made = c.in_ok-push.ensures.items
          ∙ ap (λ (all : List (List Outcome)). all ++ c.in_ok-outcomes_of.field-0 ∷ []) c.loop-placed.invariant.made
          ∙ ap (λ (o : List Outcome). outcomes_of c.args.setup.now done ++ o ∷ []) c.in_ok-outcomes_of.ensures
          ∙ sym (map-append (outcomes c.args.setup.now) done (c.in-Some.placed ∷ []));
      left = append_assoc done (c.in-Some.placed ∷ []) c.next.new.self
          ∙ ap (λ (ps : List PlacedValue). done ++ ps) (sym c.in-Some.ensures.steps) ∙ c.loop-placed.invariant.left;
    }

pub returns : goal.returns
returns c =
    let done : List PlacedValue = c.loop-placed.yielded in
    c.loop-placed.invariant.made ∙ ap (outcomes_of c.args.setup.now) (sym (append-nil done)
    ∙ ap (λ (ps : List PlacedValue). done ++ ps) (sym c.in-None.ensures.steps.0) ∙ c.loop-placed.invariant.left)
