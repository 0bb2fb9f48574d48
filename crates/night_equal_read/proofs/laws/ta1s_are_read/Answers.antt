use Rattle.night_equal_read.proofs.Nights.{ta1s}
use Rattle.night_equal_read.proofs.laws.ta1s_are_read.Goals as goal

pub returns : goal.returns
returns c = ta1s c.known_texts_are_one.ensures c.answers_are_one.ensures c.codes_are_one.ensures c.plain_references_are_quoted.ensures
