use Rattle.whole_interchanges.proofs.Scouts.{enters_next, enters_none}
use Rattle.whole_interchanges.proofs.scout.enter.Goals as goal

pub returns-in-Header : goal.returns-in-Header
returns-in-Header c = enters_next c.args.read.now c.args.scout.at c.in-Header.start c.fresh.result c.in-Header.ensures c.fresh.ensures

pub returns-in-Wait : goal.returns-in-Wait
returns-in-Wait c = enters_none c.args.read.now c.args.scout.at c.in-Wait.at c.in-Wait.ensures
