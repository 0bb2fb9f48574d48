use Rattle.std.proofs.Common.{◌≡◌, inl, inr, true, get_or, take, subst, ◌∙◌}
use Rattle.std.specs.Prelude.{Contains}
use Rattle.std.proofs.lemmas.List.{take_more}
use Rattle.std.proofs.lemmas.List.Elements.{Contains-push_cases}
use Rattle.work_core.specs.Core.{was_recorded}
use Rattle.number_register.proofs.whole.record_all.Goals as goal

pub loop-place-preserved : goal.loop-place-preserved
loop-place-preserved c =
    let was = c.loop-place.invariant in
    let i = c.loop-place.place-index in
    let place = get_or c.args.places.now i (record { isa = 0; gs = 0; st = 0 }) in
    let more = take_more c.args.places.now i (record { isa = 0; gs = 0; st = 0 }) c.loop-place-test.true in (
      c.record_too.ensures.index ∙ was.0,
      λ p h. elim (Contains-push_cases (take i c.args.places.now) place p (subst (λ ps. Contains ps p) more h)) [
        | inl e ↦ c.record_too.ensures.kept p (was.1 p e)
        | inr e ↦ subst (λ q. was_recorded c.record_too.new.records.recorded q ≡ true) e c.in_ok-record_too.ensures.there
      ],
    )
