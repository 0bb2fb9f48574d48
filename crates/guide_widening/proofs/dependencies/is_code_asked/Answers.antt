use Rattle.std.proofs.Common.{◌∙◌, ap}
use Rattle.guide_tree.specs.Codes.{has}
use Rattle.guide_widening.proofs.Found.{code_found}
use Rattle.guide_widening.proofs.dependencies.is_code_asked.Goals as goal

pub returns : goal.returns
returns c =
    c.has_key.ensures ∙ ap (has c.args.known.now) (c.as_slice.ensures.value ∙ c.in_ok-key.ensures)
    ∙ code_found c.args.known.now c.args.depends.now c.args.depend.now c.args.code.now c.requires
