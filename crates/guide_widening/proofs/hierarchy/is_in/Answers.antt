use Rattle.std.proofs.Common.{◌∙◌, ap}
use Rattle.guide_tree.specs.Codes.{has}
use Rattle.guide_widening.proofs.Found.{pair_found}
use Rattle.guide_widening.proofs.hierarchy.is_in.Goals as goal

pub returns : goal.returns
returns c =
    c.has_key.ensures ∙ ap (has c.args.known.now) (c.as_slice.ensures.value ∙ c.in_ok-key.ensures)
    ∙ pair_found c.args.known.now c.args.pairs.now c.args.pair.now c.requires
