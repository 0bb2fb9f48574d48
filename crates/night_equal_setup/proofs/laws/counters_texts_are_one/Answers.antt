use Rattle.night_equal_setup.proofs.Texts.{counters_texts_are_one}
use Rattle.night_equal_setup.proofs.laws.counters_texts_are_one.Goals as goal

pub returns : goal.returns
returns c = counters_texts_are_one
