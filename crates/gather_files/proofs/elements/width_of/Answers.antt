use Rattle.std.proofs.Common.{◌∙◌}
use Rattle.gather_files.proofs.Widths.{same_width}
use Rattle.gather_files.proofs.elements.width_of.Goals as goal

pub returns-clause-value : goal.returns-clause-value
returns-clause-value c = c.width_of.ensures.value ∙ same_width c.args.k c.requires.to
