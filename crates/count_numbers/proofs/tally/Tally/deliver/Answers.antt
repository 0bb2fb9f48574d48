use Rattle.std.proofs.Common.{◌∙◌}
use Rattle.std.proofs.lemmas.Result.{on_ok_weaker}
use Rattle.count_numbers.specs.Tallying.{set_more}
use Rattle.count_numbers.proofs.tally.Tally.deliver.Goals as goal

pub returns-clause-counted : goal.returns-clause-counted
returns-clause-counted c =
    on_ok_weaker c.push_run.result (λ is es was.
    set_more c.self.inside.acknowledgments c.self.inside.groups c.self.inside.runs.items _ c.single.result c.args.key es c.single.ensures
    (c.self.view_is ∙ was) is) c.push_run.ensures.pushed
