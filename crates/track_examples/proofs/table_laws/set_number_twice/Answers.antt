use Rattle.std.specs.Prelude.{refl}
use Rattle.std.specs.Fmt.{digits}
use Rattle.track_examples.proofs.table_laws.set_number_twice.Goals as goal

pub returns : goal.returns
unfolding digits
returns c = refl
