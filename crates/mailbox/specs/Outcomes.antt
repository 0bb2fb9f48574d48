-- Private. How the outcomes of a set are kept.
use Rattle.std.specs.Prelude.{List, [], ◌∷◌}
use Rattle.mailbox.specs.declared.outcome.Outcome.{Outcome}
use Rattle.mailbox.specs.declared.outcomes.Kept.{Kept}
use Rattle.mailbox.specs.declared.outcomes.Kept.TheVariants as kept

abbrev pub listed : Kept → List Outcome
listed kept.Nothing = []
listed (kept.One outcome) = outcome ∷ []
listed (kept.More outcomes) = outcomes
