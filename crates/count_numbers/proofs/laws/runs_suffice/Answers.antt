use Rattle.count_numbers.proofs.Expanding.{runs_suffice, sets_counted}
use Rattle.count_numbers.proofs.Grouping.{groups_counted}
use Rattle.count_numbers.proofs.laws.runs_suffice.Goals as goal

pub returns-clause-layout : goal.returns-clause-layout
returns-clause-layout c = runs_suffice

pub returns-clause-groups : goal.returns-clause-groups
returns-clause-groups c = groups_counted

pub returns-clause-sets : goal.returns-clause-sets
returns-clause-sets c = sets_counted
