use Rattle.night_equal_faults.proofs.Faults.{faults}
use Rattle.night_equal_faults.proofs.laws.faults_are_one.Goals as goal

pub returns : goal.returns
returns c =
    faults c.structures_are_one.ensures c.errors_are_one.ensures c.rule_faults_are_one.ensures c.orders_are_one.ensures
    c.firsts_stand.ensures c.faults_rise.ensures
