use Rattle.std.specs.Prelude.{refl}
use Rattle.night_examples.proofs.night_laws.files_of_one_order.Goals as goal

pub returns : goal.returns
returns c = record { guide_1 = refl; guide_2 = refl; made = refl }
