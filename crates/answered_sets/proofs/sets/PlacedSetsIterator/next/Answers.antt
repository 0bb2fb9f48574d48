use Rattle.std.proofs.Common.{◌<◌, ◌+◌, ◌∷◌, ◌∙◌, List, length, ap, sym, subst, arith}
use Rattle.std.specs.Prelude.{get_or}
use Rattle.std.proofs.lemmas.Option.{get_or_from_slice_get, slice_get-get_or}
use Rattle.env_index.specs.Words.{GroupEntry}
use Rattle.answered_sets.specs.Judged.{JudgedValue, PlacedValue}
use Rattle.answered_sets.specs.Placed.{groups_in, no_group, sets_left}
use Rattle.answered_sets.proofs.Lending.{all_left, interchange_on, place_as, set_on}
use Rattle.answered_sets.proofs.sets.PlacedSetsIterator.next.Goals as goal

pub loop-self-preserved : goal.loop-self-preserved
loop-self-preserved c =
    let xs : List JudgedValue = c.loop-self.self-inside.interchanges.now in
    let at = c.loop-self.self-inside.at in
    let x : JudgedValue = get_or xs at c.index-self-self.result in
    sym (interchange_on xs at c.loop-self.self-inside.group c.loop-self.self-inside.set x
    (slice_get-get_or xs at c.index-self-self.result c.loop-self-test.true)
    (c.first_from.ensures.none c.in-None.is))
    ∙ c.loop-self.invariant

pub overflow_add-self-in-Some : goal.overflow_add-self-in-Some
overflow_add-self-in-Some c = omega (arith, c.in-Some.ensures.room)

pub new-requires-clause-set : goal.new-requires-clause-set
new-requires-clause-set c g there =
    let x : JudgedValue = get_or c.loop-self.self-inside.interchanges.now c.loop-self.self-inside.at c.index-self-self.result in
    let same = get_or_from_slice_get (groups_in x) c.in-Some.field-0.group g no_group there in
    subst (λ (h : GroupEntry). c.in-Some.field-0.set < length h.sets) same c.in-Some.ensures.place.1

pub returns-in-Some-clause-steps : goal.returns-in-Some-clause-steps
returns-in-Some-clause-steps c =
    let xs : List JudgedValue = c.loop-self.self-inside.interchanges.now in
    let at = c.loop-self.self-inside.at in
    let x : JudgedValue = get_or xs at c.index-self-self.result in
    let g = c.in-Some.field-0.group in
    let s = c.in-Some.field-0.set in
    sym c.self.view_is ∙ sym c.loop-self.invariant
    ∙ place_as xs at c.loop-self.self-inside.group c.loop-self.self-inside.set g s x
    (slice_get-get_or xs at c.index-self-self.result c.loop-self-test.true)
    (c.in-Some.ensures.left ∙ set_on x g s c.in-Some.ensures.place)
    ∙ ap (λ (p : PlacedValue). p ∷ sets_left xs at g (s + 1)) (sym c.new.ensures.placed)

pub returns-in-Some-clause-goes : goal.returns-in-Some-clause-goes
returns-in-Some-clause-goes c =
    let one = ap (λ (ps : List PlacedValue). length ps) (returns-in-Some-clause-steps c) in
    record { on = λ _. (tt, tt, omega (arith, one)); keeps = tt; rests = λ _. tt }

pub returns-clause-steps : goal.returns-clause-steps
returns-clause-steps c =
    let xs : List JudgedValue = c.loop-self.self-inside.interchanges.now in
    let none = all_left xs c.loop-self.self-inside.at c.loop-self.self-inside.group c.loop-self.self-inside.set c.loop-self-test.false in
    (sym c.self.view_is ∙ sym c.loop-self.invariant ∙ none, none)
