use Rattle.std.specs.Prelude.{refl}
use Rattle.std.specs.Fmt.{digits}
use Rattle.night_examples.proofs.reading_laws.one_order_is_read.Goals as goal

pub returns : goal.returns
unfolding digits
returns c = record { responses = refl; answered = refl; ta1s = refl; box = refl }
