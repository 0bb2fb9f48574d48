use Rattle.widening_law.proofs.EachSet.{each_set}
use Rattle.widening_law.proofs.law.wider_guides_take_each_set.Goals as goal

pub returns : goal.returns
returns c =
    each_set c.derivations_are_one.ensures c.element_faults_are_one.ensures c.hierarchies_are_one.ensures c.targets_are_one.ensures
