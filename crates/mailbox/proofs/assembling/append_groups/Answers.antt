use Rattle.mailbox.proofs.BoxTexts.{group_bound, group_counted, group_on, groups_end, none_left}
use Rattle.mailbox.proofs.assembling.append_groups.Goals as goal

pub loop-rest-preserved : goal.loop-rest-preserved
loop-rest-preserved c = record {
  text = λ end ends later. c.loop-rest.invariant.text end ends
      (group_on c.args.setup.now c.args.partner.now c.args.at.now c.args.first c.loop-rest.count c.num-control.result
      c.first_group-end.result c.loop-rest.rest.now c.behind-rest.result.now c.loop-rest.out.items c.append_group.new.out.items
      c.loop-rest.cuts.items c.append_group.new.cuts.items c.first_group-end.ensures.first c.num-control.ensures.value
      c.behind-rest.ensures c.in_ok-append_group.ensures end ends later);
  count = group_counted c.loop-rest.count c.first_group-end.result _ c.loop-rest.rest.now c.behind-rest.result.now
      c.first_group-end.ensures.first c.behind-rest.ensures c.loop-rest.invariant.count;
  bound = group_bound c.loop-rest.count c.first_group-end.result _ c.loop-rest.rest.now c.behind-rest.result.now
      c.first_group-end.ensures.some c.first_group-end.ensures.bound c.behind-rest.ensures c.loop-rest.invariant.bound;
}

pub returns-clause-text : goal.returns-clause-text
returns-clause-text c = c.loop-rest.invariant.text c.loop-rest.out.items c.loop-rest.cuts.items
    (groups_end c.args.setup.now c.args.partner.now c.args.at.now c.args.first c.loop-rest.count c.loop-rest.rest.now
    c.loop-rest.out.items c.loop-rest.cuts.items (none_left _ c.loop-rest-test.ensures))
