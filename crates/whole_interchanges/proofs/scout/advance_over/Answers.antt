use Rattle.std.proofs.Common.{◌<◌, ◌≤◌, length, arith}
use Rattle.whole_interchanges.proofs.Scouts.{comes_first, comes_further, comes_on, stops_inside, stops_outside}
use Rattle.whole_interchanges.proofs.scout.advance_over.Goals as goal

pub returns-in-Wait : goal.returns-in-Wait
returns-in-Wait c =
    stops_outside c.args.read.now c.args.scout.at c.loop-next.at c.in-Wait.next c.loop-next.inside c.loop-next.count
    c.loop-next.invariant.comes c.in-Wait.ensures

pub loop-next-smaller : goal.loop-next-smaller
loop-next-smaller c =
    let further : c.loop-next.at < c.in-End.end =
    comes_further c.args.read.now c.args.scout.at c.loop-next.at c.in-Open.start c.in-End.end c.in-Open.open
    c.in-Open.ensures c.in-End.ensures.0 c.in-Open.ensures.gap in
    let within : c.in-End.end ≤ length c.args.read.now =
    (comes_on c.args.read.now c.args.scout.at c.loop-next.at c.in-Open.start c.in-End.end
    c.loop-next.inside c.loop-next.count c.in-Open.open c.loop-next.invariant.comes c.in-Open.ensures c.in-End.ensures.0).stands in
    omega arith

pub loop-next-preserved : goal.loop-next-preserved
loop-next-preserved c = record {
  comes = comes_on c.args.read.now c.args.scout.at c.loop-next.at c.in-Open.start c.in-End.end c.loop-next.inside c.loop-next.count
      c.in-Open.open c.loop-next.invariant.comes c.in-Open.ensures c.in-End.ensures.0;
  searched = c.in-End.ensures.1;
}

pub returns-in-Wait-walk : goal.returns-in-Wait-walk
returns-in-Wait-walk c =
    stops_inside c.args.read.now c.args.scout.at c.loop-next.at c.in-Open.start c.loop-next.inside c.loop-next.count c.in-Open.open
    c.in-Wait-walk.part c.loop-next.invariant.comes c.in-Open.ensures c.in-Wait-walk.ensures

pub loop-next-init : goal.loop-next-init
loop-next-init c = record {
  comes = comes_first c.args.read.now c.args.scout.at c.args.scout.inside c.requires.stands;
  searched = c.not_searched-searched.ensures c.args.read.now;
}
