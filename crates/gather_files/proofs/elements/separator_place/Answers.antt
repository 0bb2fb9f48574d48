use Rattle.std.proofs.Common.{◌∙◌}
use Rattle.gather_files.proofs.Widths.{same_place}
use Rattle.gather_files.proofs.elements.separator_place.Goals as goal

pub returns-clause-value : goal.returns-clause-value
returns-clause-value c = c.separator_place.ensures.value ∙ same_place c.args.k c.requires.to
