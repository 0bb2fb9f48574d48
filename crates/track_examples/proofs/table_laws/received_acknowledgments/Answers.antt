use Rattle.std.specs.Prelude.{refl}
use Rattle.std.specs.Fmt.{digits}
use Rattle.track_examples.proofs.table_laws.received_acknowledgments.Goals as goal

pub returns : goal.returns
unfolding digits
returns c = refl
