use Rattle.std.proofs.Common.{◌∙◌, Option, ap}
use Rattle.std.proofs.lemmas.Result.{IfOk-weaker}
use Rattle.night_review.specs.Nights.{after_last}
use Rattle.night_marks.specs.declared.mark.NightMark.{NightMark}
use Rattle.night_review.proofs.nights.with_archive.Goals as goal

pub returns-in-None : goal.returns-in-None
returns-in-None c = ap (λ (last : Option NightMark). after_last last c.args.listed.items) c.in-None.ensures

pub returns-in-Some : goal.returns-in-Some
returns-in-Some c =
    IfOk-weaker c.after_archive.result _ _
    (λ all is. is ∙ ap (λ (last : Option NightMark). after_last last c.args.listed.items) c.in-Some.ensures)
    c.after_archive.ensures
