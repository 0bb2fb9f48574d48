use Rattle.std.proofs.Common.{[]}
use Rattle.elem_rules.proofs.Marks.{none_set}
use Rattle.elem_rules.proofs.flat_condition.mask_of.Goals as goal

pub returns : goal.returns
returns c = c.marked_all.ensures [] none_set
