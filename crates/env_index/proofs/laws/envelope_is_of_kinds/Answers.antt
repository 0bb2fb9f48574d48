use Rattle.env_index.proofs.EndingTrees.{derived_ends}
use Rattle.env_index.proofs.OneTree.{tree_is_one}
use Rattle.env_index.proofs.Trees.{a_tree}
use Rattle.env_index.proofs.laws.envelope_is_of_kinds.Goals as goal

pub returns-clause-one : goal.returns-clause-one
returns-clause-one g c = λ kind segs a b p q. tree_is_one kind segs a b p q

pub returns-clause-there : goal.returns-clause-there
returns-clause-there g c = λ kind segs ends. a_tree kind segs ends

pub returns-clause-ends : goal.returns-clause-ends
returns-clause-ends g c = λ kind segs tree derives. derived_ends kind segs tree derives
