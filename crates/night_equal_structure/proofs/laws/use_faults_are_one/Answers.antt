use Rattle.night_equal_structure.proofs.Structures.{use_faults_are}
use Rattle.night_equal_structure.proofs.laws.use_faults_are_one.Goals as goal

pub returns : goal.returns
returns c = use_faults_are c.placings_are_one.ensures c.placing_is_grammar.ensures.counted
