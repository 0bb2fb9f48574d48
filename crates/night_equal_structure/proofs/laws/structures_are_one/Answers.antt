use Rattle.night_equal_structure.proofs.Structures.{structures_are}
use Rattle.night_equal_structure.proofs.laws.structures_are_one.Goals as goal

pub returns : goal.returns
returns c = structures_are c.use_faults_are_one.ensures c.strays_are_one.ensures
