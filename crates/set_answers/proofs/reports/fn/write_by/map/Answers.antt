use Rattle.std.proofs.Common.{ap, ◌∙◌, ℕ, Option}
use Rattle.std.proofs.lemmas.Option.{get_or_from_slice_get}
use Rattle.std.proofs.lemmas.Result.{IfOk-weaker}
use Rattle.set_answers.specs.declared.answered.AnsweredGroup.{AnsweredGroup}
use Rattle.set_answers.specs.Shares.{report_of}
use Rattle.set_answers.proofs.reports.fn.write_by.map.Goals as goal

pub returns : goal.returns
returns c =
    IfOk-weaker c.write_at.result _ _ (λ v is (n : ℕ) (g : Option AnsweredGroup) at there. is g there
    ∙ ap (λ (m : ℕ). report_of c.captures.delims.now m g) (get_or_from_slice_get c.captures.numbers.now c.args.i n _ at)) c.write_at.ensures
