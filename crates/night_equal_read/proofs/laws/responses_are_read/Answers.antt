use Rattle.night_equal_read.proofs.Nights.{responses}
use Rattle.night_equal_read.proofs.laws.responses_are_read.Goals as goal

pub returns : goal.returns
returns c =
    responses c.known_texts_are_one.ensures c.answers_are_one.ensures c.codes_are_one.ensures c.plain_references_are_quoted.ensures
