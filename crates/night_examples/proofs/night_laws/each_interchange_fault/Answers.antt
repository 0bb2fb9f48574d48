use Rattle.std.specs.Prelude.{refl}
use Rattle.std.specs.Fmt.{digits}
use Rattle.night_examples.proofs.night_laws.each_interchange_fault.Goals as goal

pub returns : goal.returns
unfolding digits
returns c = refl
