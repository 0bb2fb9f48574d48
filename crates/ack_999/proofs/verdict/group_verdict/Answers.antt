use Rattle.std.proofs.Common.{ap, ◌∙◌}
use Rattle.ack_999.specs.Group.{verdict_by}
use Rattle.ack_999.proofs.Verdicts.{verdict_by-totals_of}
use Rattle.ack_999.proofs.verdict.group_verdict.Goals as goal

pub returns-clause-sets : goal.returns-clause-sets
returns-clause-sets c = λ sets same.
    c.verdict_by.ensures ∙ ap (verdict_by c.args.codes.now) same ∙ verdict_by-totals_of c.args.codes.now sets
