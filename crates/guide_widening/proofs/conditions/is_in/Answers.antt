use Rattle.std.proofs.Common.{◌∙◌, ap}
use Rattle.guide_tree.specs.Codes.{has}
use Rattle.guide_widening.proofs.Found.{condition_found}
use Rattle.guide_widening.proofs.conditions.is_in.Goals as goal

pub returns : goal.returns
returns c =
    c.has_key.ensures ∙ ap (has c.args.known.now) (c.as_slice.ensures.value ∙ c.in_ok-key.ensures)
    ∙ condition_found c.args.known.now c.args.conditions.now c.args.condition.now c.requires
