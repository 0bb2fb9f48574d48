use Rattle.guide_tree.specs.Words.{guide_of}
use Rattle.widening_law.proofs.Itself.{as_wide}
use Rattle.widening_law.proofs.law.each_guide_is_as_wide.Goals as goal

pub returns : goal.returns
returns c guide accepted = as_wide (guide_of guide) accepted.well_formed
