use Rattle.std.proofs.lemmas.Result.{IfOk-weaker}
use Rattle.diff_command.proofs.Reporting.{new_before, reported}
use Rattle.diff_command.proofs.run.report_of.Goals as goal

pub returns-in-Refused-after-clause-before : goal.returns-in-Refused-after-clause-before
returns-in-Refused-after-clause-before g c =
    new_before c.args.paths.now.old.now c.args.paths.now.new.now c.in_ok-before.before c.in_ok-after.after c.in-Refused-after.field-0
    c.in_ok-refusal-in-Refused-after.field-0 c.in-Refused-after.is c.in_ok-before.ensures c.in_ok-after.ensures
    c.in_ok-refusal-in-Refused-after.ensures

pub returns-clause-report : goal.returns-clause-report
returns-clause-report g c =
    IfOk-weaker c.report_with.result _ _
    (λ report compared. reported c.args.paths.now.old.now c.args.paths.now.new.now c.in_ok-before.before c.in_ok-after.after c.in-Taken.was
    c.in-Taken-after.is'
    report.text.items report.status c.in-Taken.is c.in-Taken-after.is c.in_ok-before.ensures c.in_ok-after.ensures compared)
    c.report_with.ensures.compared
