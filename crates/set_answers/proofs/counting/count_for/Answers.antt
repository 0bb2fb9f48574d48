use Rattle.std.proofs.Common.{ℕ, Bool, sym, ap, ◌∙◌}
use Rattle.std.specs.Prelude.{if◌then◌else◌, slice_set}
use Rattle.std.proofs.lemmas.Option.{get_or_from_slice_get}
use Rattle.set_answers.specs.CheckedText.{SentValues}
use Rattle.set_answers.specs.Counted.{with_count}
use Rattle.set_answers.proofs.Counts.{counted_here, counted_nowhere}
use Rattle.set_answers.proofs.counting.count_for.Goals as goal

pub returns-in-None : goal.returns-in-None
returns-in-None c setup e to is = counted_nowhere setup c.args.sent.now e (sym to ∙ c.in-None.is)

pub returns-in-Some : goal.returns-in-Some
returns-in-Some c setup e to is =
    let files = c.args.sent.now in
    let place : ℕ = c.in-Some.place in
    counted_here setup files (slice_set files place c.count_one.new.self) e place (c.requires.within place c.in-Some.is)
    (sym to ∙ c.in-Some.is)
    (λ f at_f. ap (λ (v : SentValues). slice_set files place v)
    (c.count_one.ensures
    ∙ ap (λ (v : SentValues). with_count v (if c.args.reports then 1 else 0))
    (get_or_from_slice_get files place f c.index-sent-place.result at_f)
    ∙ ap (λ (b : Bool). with_count f (if b then 1 else 0)) is))
