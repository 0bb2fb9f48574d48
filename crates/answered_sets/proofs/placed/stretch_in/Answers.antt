use Rattle.std.proofs.Common.{ap, sym, ◌∙◌}
use Rattle.std.specs.List.{list_any}
use Rattle.answered_sets.proofs.Stretch.{none_in_span}
use Rattle.answered_sets.proofs.placed.stretch_in.Goals as goal

pub returns : goal.returns
returns c test h = none_in_span c.args.text.now c.args.span.now test (ap (list_any test) (sym c.stretch_of.ensures) ∙ h)
