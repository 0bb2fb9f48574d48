use Rattle.night_equal_read.proofs.Boxes.{boxes}
use Rattle.night_equal_read.proofs.laws.boxes_are_read.Goals as goal

pub returns : goal.returns
returns c = boxes c.known_texts_are_one.ensures c.deliveries_are_one.ensures c.texts_are_one.ensures
