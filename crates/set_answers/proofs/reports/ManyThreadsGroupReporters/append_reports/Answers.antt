use Rattle.std.proofs.Common.{◌++◌, ℕ, List, ap, ◌∙◌}
use Rattle.x12_write.specs.Group.{texts_in_row}
use Rattle.set_answers.proofs.Sharing.{in_row}
use Rattle.set_answers.proofs.reports.ManyThreadsGroupReporters.append_reports.Goals as goal

pub returns-clause-text : goal.returns-clause-text
returns-clause-text g c =
    c.in_ok-append_texts.ensures.text
    ∙ ap (λ (texts : List (List ℕ)). c.args.out.now.items ++ texts_in_row texts)
    (c.as_slice-2.ensures.value ∙ c.in_ok-texts.ensures)
    ∙ ap (λ (text : List ℕ). c.args.out.now.items ++ text) (in_row c.args.delims.now 1 c.args.groups.now)
