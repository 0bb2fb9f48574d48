use Rattle.std.proofs.Common.{◌≡◌, ◌∙◌, ◌++◌, ap, codes, rules}
use Rattle.std.proofs.lemmas.Result.{IfOk-weaker}
use Rattle.guide_changes.specs.Changes.{guide_said}
use Rattle.guide_changes.proofs.changed.changed_lines.Goals as goal

pub returns : goal.returns
returns c =
    let name = c.args.name.now in
    let report = c.in_ok-report.report in
    let said : c.as_slice-2.result.now ≡ codes " has changed:\n" ++ report.text.items = search rules in
    IfOk-weaker c.guide_said.result _ _ (λ text is. record {
      lines = report.text.items;
      status = report.status;
      compared = c.in_ok-report.ensures.compared;
      text_is = is ∙ ap (guide_said name) said;
    })
    c.guide_said.ensures
