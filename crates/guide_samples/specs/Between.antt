-- own: a set that shows a difference of two guides: the old guide takes it, and the new one reports one fault, which the difference makes.
use Rattle.std.specs.Prelude.{ℕ, List, IsTrue}
use Rattle.guide_tree.specs.Words.{GuideTree}
use Rattle.guide_widening.specs.declared.difference.Difference.{Difference}
use Rattle.difference_faults.specs.Parts.{IsPart}
use Rattle.difference_faults.specs.Shows.{shows}
use Rattle.difference_faults.specs.declared.part.Part.{Part}
use Rattle.guide_samples.specs.Samples.{HasOneFault, IsSample}

-- a text has one set, which meets the old guide; by the new guide it has one fault, which the difference makes in this part of the guides;
-- and these are the lines of the 999
pub record Shows (old new : GuideTree) (part : Part) (d : Difference) (text lines : List ℕ) : Type 0 where
  pub taken : IsSample old text
  pub reported : HasOneFault new (λ f. IsTrue (shows part d f)) text lines

-- such a text shows the difference, which is of that part
pub record ShowsDifference (old new : GuideTree) (d : Difference) (text lines : List ℕ) : Type 0 where
  pub part : Part
  pub is_of : IsPart old new d part
  pub shown : Shows old new part d text lines
