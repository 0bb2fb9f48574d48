use Rattle.layers_exist.proofs.Faults.{set_faults}
use Rattle.layers_exist.proofs.laws.each_set_has_its_faults.Goals as goal

pub returns : goal.returns
returns c = set_faults c.errors_are_one.ensures c.rule_faults_are_one.ensures
