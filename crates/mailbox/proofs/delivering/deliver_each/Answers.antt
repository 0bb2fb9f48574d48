use Rattle.std.proofs.Common.{◌++◌, ◌∷◌, [], ◌∙◌, List, ap, sym, subst, append_assoc, append-nil, arith, length, ℕ}
use Rattle.std.specs.List.{All}
use Rattle.std.proofs.lemmas.List.{length-append}
use Rattle.std.proofs.lemmas.Option.{slice_get_within}
use Rattle.answered_sets.specs.Judged.{PlacedValue, all_sets}
use Rattle.mailbox.specs.declared.outcome.Outcome.{Outcome}
use Rattle.mailbox.specs.Deliveries.{outcomes}
use Rattle.mailbox.specs.Delivering.{HasSent, HasTaken, IsForPlace}
use Rattle.mailbox.proofs.ByOutcomes.{all_for, outcomes_there, same_outcomes}
use Rattle.mailbox.proofs.Growing.{taken_more}
use Rattle.mailbox.proofs.delivering.deliver_each.Goals as goal

pub outcomes_at-requires : goal.outcomes_at-requires
outcomes_at-requires c =
    let done : List PlacedValue = c.loop-placed.yielded in
    let there = outcomes_there c.args.setup.now done c.next.new.self c.in-Some.placed (all_sets c.args.interchanges.now) c.args.outcomes.now
    (ap (λ (ps : List PlacedValue). done ++ ps) (sym c.in-Some.ensures.steps) ∙ c.loop-placed.invariant.left) c.requires.outcomes in
    let within = slice_get_within c.args.outcomes.now (length done) (outcomes c.args.setup.now c.in-Some.placed) there in
    omega (arith, within, c.loop-placed.invariant.count)

pub send-requires : goal.send-requires
send-requires c =
    let done : List PlacedValue = c.loop-placed.yielded in
    let same = same_outcomes c.args.setup.now done c.next.new.self c.in-Some.placed (all_sets c.args.interchanges.now) c.args.outcomes.now
    c.loop-placed.n c.outcomes_at.result.now
    (ap (λ (ps : List PlacedValue). done ++ ps) (sym c.in-Some.ensures.steps) ∙ c.loop-placed.invariant.left) c.requires.outcomes
    c.loop-placed.invariant.count c.outcomes_at.ensures in
    subst (λ (n : ℕ). All (IsForPlace n) c.outcomes_at.result.now) (sym (c.loop-placed.auto.lists ∙ c.requires.count))
    (subst (λ (os : List Outcome). All (IsForPlace (length c.args.setup.now.partners)) os) (sym same)
    (all_for c.args.setup.now c.in-Some.placed))

pub loop-placed-preserved : goal.loop-placed-preserved
loop-placed-preserved c =
    let setup = c.args.setup.now in
    let done : List PlacedValue = c.loop-placed.yielded in
    let p : PlacedValue = c.in-Some.placed in
    let same = same_outcomes setup done c.next.new.self p (all_sets c.args.interchanges.now) c.args.outcomes.now
    c.loop-placed.n c.outcomes_at.result.now
    (ap (λ (ps : List PlacedValue). done ++ ps) (sym c.in-Some.ensures.steps) ∙ c.loop-placed.invariant.left) c.requires.outcomes
    c.loop-placed.invariant.count c.outcomes_at.ensures in
    let sent : HasTaken setup (p ∷ []) c.loop-placed.lists c.send.new.lists =
    subst (λ (os : List Outcome). HasSent p os c.loop-placed.lists c.send.new.lists) same c.in_ok-send.ensures in
    record {
      taken = taken_more setup done (p ∷ []) c.args.lists.now c.loop-placed.lists c.send.new.lists c.loop-placed.invariant.taken sent;
      count = omega (arith, c.loop-placed.invariant.count, length-append done (p ∷ []));
      left = append_assoc done (p ∷ []) c.next.new.self
          ∙ ap (λ (ps : List PlacedValue). done ++ ps) (sym c.in-Some.ensures.steps) ∙ c.loop-placed.invariant.left;
    }

pub returns : goal.returns
returns c =
    let done : List PlacedValue = c.loop-placed.yielded in
    subst (λ (ps : List PlacedValue). HasTaken c.args.setup.now ps c.args.lists.now c.loop-placed.lists)
    (sym (append-nil done) ∙ ap (λ (ps : List PlacedValue). done ++ ps) (sym c.in-None.ensures.steps.0) ∙ c.loop-placed.invariant.left)
    c.loop-placed.invariant.taken
