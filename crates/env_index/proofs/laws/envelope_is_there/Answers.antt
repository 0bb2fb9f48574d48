use Rattle.x12_segs.specs.Words.{kind_of}
use Rattle.env_index.specs.Extents.{reach_at}
use Rattle.env_index.proofs.Trees.{a_tree}
use Rattle.env_index.proofs.Walking.{only_last}
use Rattle.env_index.proofs.laws.envelope_is_there.Goals as goal

pub returns : goal.returns
returns c = λ text start. a_tree kind_of (reach_at text start).segs (only_last text _ _)
