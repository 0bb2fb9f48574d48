use Rattle.unmet_law.proofs.Nodes.{nodes_fault}
use Rattle.unmet_law.proofs.laws.unmet_is_faulty.Goals as goal

pub returns : goal.returns
returns c = λ nodes some delims slots derived. nodes_fault c.values_are_one.ensures delims nodes some slots derived
