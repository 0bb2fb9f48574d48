use Rattle.std.proofs.Common.{rules, ◌≡◌, ◌<◌, ◌-◌, ◌+◌, ◌≤◌, ⊎_elim, ℕ, Some, arith, ap, ◌∙◌}
use Rattle.std.specs.Prelude.{slice_get}
use Rattle.std.proofs.lemmas.Bool.{cases_lt}
use Rattle.std.proofs.lemmas.Option.{get_or_from_slice_get, slice_get-get_or}
use Rattle.number_register.proofs.FirstKeys.{follows_nearest}
use Rattle.number_register.proofs.book.follows.Goals as goal

pub returns-in-Some : goal.returns-in-Some
returns-in-Some g c is_less rising =
    let there : slice_get c.args.keys.now (c.args.at - 1 - c.loop-step.step) ≡ Some (Some c.in-Some.other) =
    slice_get-get_or c.args.keys.now (c.args.at - 1 - c.loop-step.step) _ (omega (arith, c.requires)) ∙ ap Some c.in-Some.is in
    follows_nearest g.K.Ord.cmp g.met.K.Ord.total c.args.keys.now c.args.at (c.args.at - 1 - c.loop-step.step) c.args.key c.in-Some.other
    there (search rules) (λ i a h low is. c.loop-step.invariant i a low (omega arith) is) rising

pub loop-step-preserved : goal.loop-step-preserved
loop-step-preserved g c i a low high is =
    ⊎_elim
    (λ (near : i + c.loop-step.step < c.args.at). c.in_default.not-Some a
    (get_or_from_slice_get c.args.keys.now (c.args.at - 1 - c.loop-step.step) (Some a) _
    (ap (λ (n : ℕ). slice_get c.args.keys.now n) (let e : c.args.at - 1 - c.loop-step.step ≡ i = omega (arith, near, high) in e) ∙ is)))
    (λ (far : c.args.at ≤ i + c.loop-step.step). c.loop-step.invariant i a low far is) (cases_lt (i + c.loop-step.step) c.args.at)
