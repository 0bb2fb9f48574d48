use Rattle.std.proofs.Common.{◌<◌, length}
use Rattle.mailbox.proofs.BoxTexts.{bound_kept, box_end, box_on, count_step, none_left, some_left, written_kept}
use Rattle.mailbox.proofs.assembling.append_interchanges.Goals as goal

pub loop-rest-preserved : goal.loop-rest-preserved
loop-rest-preserved c =
    let some : 0 < length c.loop-rest.rest.now = some_left _ c.loop-rest-test.ensures in
    record {
      text = λ end ends later. c.loop-rest.invariant.text end ends
          (box_on c.args.setup.now c.args.partner.now c.args.at.now c.args.acknowledgments c.args.groups c.loop-rest.written
          c.loop-rest.count c.min-end.result c.num-number.result c.num-control.result c.in_ok-more.more
          c.loop-rest.rest.now c.behind-rest.result.now c.num-first.result c.num-first_control.result c.loop-rest.out.items
          c.append_delivered.new.out.items c.loop-rest.cuts.items c.append_delivered.new.cuts.items c.min-end.ensures c.requires.cap.0
          some c.num-first.ensures.value c.num-number.ensures.value c.num-first_control.ensures.value c.num-control.ensures.value
          c.in_ok-more.ensures.text c.in_ok-more.ensures.count c.behind-rest.ensures end ends later);
      count = count_step c.loop-rest.count c.min-end.result c.args.partner.now.cap c.in_ok-more.more _
          c.loop-rest.rest.now c.behind-rest.result.now c.min-end.ensures c.requires.cap.0 some c.in_ok-more.ensures.count
          c.behind-rest.ensures c.loop-rest.invariant.count;
      bound = bound_kept c.loop-rest.count c.in_ok-more.more c.min-end.result c.args.partner.now.cap _ c.loop-rest.rest.now
          c.behind-rest.result.now c.min-end.ensures c.behind-rest.ensures c.in_ok-more.ensures.bound c.loop-rest.invariant.bound;
      written = written_kept c.loop-rest.written c.min-end.result c.args.partner.now.cap _ c.loop-rest.rest.now
          c.behind-rest.result.now c.min-end.ensures c.requires.cap.0 some c.behind-rest.ensures c.loop-rest.invariant.written;
    }

pub returns-clause-text : goal.returns-clause-text
returns-clause-text c = c.loop-rest.invariant.text c.loop-rest.out.items c.loop-rest.cuts.items
    (box_end c.args.setup.now c.args.partner.now c.args.at.now _ _ c.loop-rest.rest.now
    c.loop-rest.out.items c.loop-rest.cuts.items (none_left _ c.loop-rest-test.ensures))
