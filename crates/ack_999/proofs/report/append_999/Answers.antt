use Rattle.std.proofs.Common.{◌++◌, List, ℕ, ap, ◌∙◌}
use Rattle.std.proofs.lemmas.Result.{on_ok_weaker}
use Rattle.ack_999.specs.Report.{sets_text}
use Rattle.ack_999.proofs.report.append_999.Goals as goal

pub returns-clause-text : goal.returns-clause-text
returns-clause-text c =
    let sets = c.args.sets.now in
    let written = c.in_ok-append_sets.ensures.text
    ∙ ap (λ (s : List ℕ). s ++ sets_text c.args.delims.now c.args.group.now sets) c.in_ok-append_head.ensures.text in
    on_ok_weaker c.append_tail.result
    (λ whole. whole c.args.out.now.items sets c.totals_of.ensures.value written) c.append_tail.ensures.whole
