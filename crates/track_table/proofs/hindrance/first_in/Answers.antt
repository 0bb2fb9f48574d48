use Rattle.std.proofs.Common.{ap, ◌∙◌, arith}
use Rattle.track_table.specs.Hindrance.{byte_in_the_way}
use Rattle.track_table.proofs.Hindering.{next_segment}
use Rattle.track_table.proofs.hindrance.first_in.Goals as goal

pub loop-count-preserved : goal.loop-count-preserved
loop-count-preserved c = record {
  found = next_segment c.args.from.now c.args.to.now c.loop-count.count c.args.most c.loop-count.left c.next.new.self c.in-Some.segment
      c.byte_in_the_way.result c.loop-count-test.true c.in-Some.ensures.steps
      (c.byte_in_the_way.ensures ∙ ap (byte_in_the_way c.args.from.now c.args.to.now) c.bytes.ensures) c.in_default.is _
      c.loop-count.invariant.found;
  few = omega (arith, c.loop-count-test.true);
}
