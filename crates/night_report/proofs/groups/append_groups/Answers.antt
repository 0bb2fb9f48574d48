use Rattle.std.proofs.Common.{◌<◌, ◌∙◌, length, ap, sym, subst, arith}
use Rattle.env_index.specs.Words.{InterchangeEntry}
use Rattle.answered_sets.specs.Judged.{sets_from, standing_at}
use Rattle.answered_sets.specs.Placed.{groups_in, no_group}
use Rattle.mailbox.specs.Deliveries.{outcomes_of}
use Rattle.env_index.specs.Words.{GroupEntry}
use Rattle.night_report.specs.Room.{HasRoom}
use Rattle.night_report.specs.declared.totals.Totals.{Totals}
use Rattle.night_report.proofs.Outcomes.{group_lines_on, group_parts, group_totals_on}
use Rattle.night_report.proofs.Room.{room_goes_on}
use Rattle.night_report.proofs.groups.append_groups.Goals as goal

pub split_at-requires : goal.split_at-requires
split_at-requires c =
    let x = c.args.interchange.now in
    let groups = ap (λ (i : InterchangeEntry). length i.content.groups) c.interchange.ensures.value in
    let within : c.loop-n.n < length (groups_in x) = omega (arith, c.loop-n-test.true, c.group_count-n-end.ensures, groups) in
    (group_parts x c.loop-n.n no_group c.group_at.result c.args.setup.now c.loop-n.left.now c.set_count.result within c.group_at.ensures
    c.loop-n.invariant.left c.set_count.ensures).0

pub append_group-requires-clause-outcomes : goal.append_group-requires-clause-outcomes
append_group-requires-clause-outcomes c =
    let x = c.args.interchange.now in
    let groups = ap (λ (i : InterchangeEntry). length i.content.groups) c.interchange.ensures.value in
    let within : c.loop-n.n < length (groups_in x) = omega (arith, c.loop-n-test.true, c.group_count-n-end.ensures, groups) in
    let parts = group_parts x c.loop-n.n no_group c.group_at.result c.args.setup.now c.loop-n.left.now c.set_count.result within
    c.group_at.ensures c.loop-n.invariant.left c.set_count.ensures in
    c.split_at.ensures.front ∙ parts.1
    ∙ ap (λ (g : GroupEntry). outcomes_of c.args.setup.now (sets_from x g (standing_at x.standings c.loop-n.n) 0 g.sets)) c.group_at.ensures

pub loop-n-preserved : goal.loop-n-preserved
loop-n-preserved c =
    let x = c.args.interchange.now in
    let setup = c.args.setup.now in
    let groups = ap (λ (i : InterchangeEntry). length i.content.groups) c.interchange.ensures.value in
    let within : c.loop-n.n < length (groups_in x) = omega (arith, c.loop-n-test.true, c.group_count-n-end.ensures, groups) in
    let parts = group_parts x c.loop-n.n no_group c.group_at.result setup c.loop-n.left.now c.set_count.result within
    c.group_at.ensures c.loop-n.invariant.left c.set_count.ensures in
    record {
      text = group_lines_on setup x c.loop-n.n c.loop-n.out.items c.append_group.new.out.items _ within c.in_ok-append_group.ensures.text
          c.loop-n.invariant.text;
      room = subst (λ (t : Totals). HasRoom t (length c.args.out.now.items) (length c.append_group.new.out.items))
          (sym c.with-totals.ensures)
          (room_goes_on c.loop-n.totals c.in_ok-append_group.field-0 (length c.args.out.now.items) (length c.loop-n.out.items)
          (length c.append_group.new.out.items) c.loop-n.invariant.room c.in_ok-append_group.ensures.room);
      of_one = (
        omega (
          arith,
          ap (λ (t : Totals). t.interchanges) c.with-totals.ensures,
          c.loop-n.invariant.of_one.0,
          c.in_ok-append_group.ensures.of_none.0,
        ),
        omega (
          arith,
          ap (λ (t : Totals). t.refused) c.with-totals.ensures,
          c.loop-n.invariant.of_one.1,
          c.in_ok-append_group.ensures.of_none.1,
        ),
      );
      totals = group_totals_on setup x c.loop-n.n c.loop-n.totals c.in_ok-append_group.field-0 c.with-totals.result _ within
          c.in_ok-append_group.ensures.totals c.with-totals.ensures c.loop-n.invariant.totals;
      left = c.split_at.ensures.back ∙ parts.2;
    }
