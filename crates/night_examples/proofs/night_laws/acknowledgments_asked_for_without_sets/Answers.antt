use Rattle.std.specs.Prelude.{refl}
use Rattle.std.specs.Fmt.{digits}
use Rattle.night_examples.proofs.night_laws.acknowledgments_asked_for_without_sets.Goals as goal

pub returns : goal.returns
unfolding digits
returns c = refl
