use Rattle.std.specs.Prelude.{refl}
use Rattle.std.specs.Fmt.{digits}
use Rattle.night_examples.proofs.night_laws.date_of_no_digits_not_answered.Goals as goal

pub returns : goal.returns
unfolding digits
returns c = refl
