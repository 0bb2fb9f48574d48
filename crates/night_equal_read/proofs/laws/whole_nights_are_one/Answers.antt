use Rattle.night_equal_read.proofs.Nights.{whole}
use Rattle.night_equal_read.proofs.laws.whole_nights_are_one.Goals as goal

pub returns : goal.returns
returns c =
    whole c.nights_are_one.ensures c.verdicts_are_true.ensures c.responses_are_read.ensures c.ta1s_are_read.ensures
    c.boxes_are_read.ensures
