use Rattle.mailbox.proofs.Tallied.{groups_are_counted, groups_are_laid_out, groups_are_runs}
use Rattle.mailbox.proofs.laws.groups_are_runs.Goals as goal

pub returns-clause-runs : goal.returns-clause-runs
returns-clause-runs c = groups_are_runs

pub returns-clause-layout : goal.returns-clause-layout
returns-clause-layout c = groups_are_laid_out

pub returns-clause-count : goal.returns-clause-count
returns-clause-count c = groups_are_counted
