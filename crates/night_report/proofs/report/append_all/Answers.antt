use Rattle.std.proofs.Common.{◌≡◌, ◌+◌, ◌≤◌, ◌++◌, ℕ, drop, length, ap, sym, subst, ◌∙◌, arith}
use Rattle.std.proofs.lemmas.List.{drop_all}
use Rattle.night_report.specs.Adding.{added, interchange_totals}
use Rattle.night_report.specs.Report.{all_lines}
use Rattle.night_report.specs.Room.{HasRoom}
use Rattle.night_report.specs.declared.totals.Totals.{Totals}
use Rattle.night_report.proofs.Counting.{totals_are_added}
use Rattle.night_report.proofs.Outcomes.{interchange_parts, sets_within}
use Rattle.night_report.proofs.Room.{room_goes_on}
use Rattle.night_report.proofs.Walking.{lines_on, added_on}
use Rattle.night_report.proofs.report.append_all.Goals as goal

pub set_count-requires : goal.set_count-requires
set_count-requires c =
    let x = c.index-interchanges-i.result in
    let within = sets_within c.args.setup.now c.loop-i.i c.args.interchanges.now x x c.loop-i.left.now c.loop-i-test.true
    c.index-interchanges-i.is c.loop-i.invariant.left in
    within

pub split_at-requires : goal.split_at-requires
split_at-requires c =
    let x = c.index-interchanges-i.result in
    (interchange_parts c.args.setup.now c.loop-i.i c.args.interchanges.now x x c.loop-i.left.now c.set_count.result c.loop-i-test.true
    c.index-interchanges-i.is c.loop-i.invariant.left c.set_count.ensures).0

pub append_interchange-requires : goal.append_interchange-requires
append_interchange-requires c =
    let x = c.index-interchanges-i.result in
    let parts = interchange_parts c.args.setup.now c.loop-i.i c.args.interchanges.now x x c.loop-i.left.now c.set_count.result
    c.loop-i-test.true c.index-interchanges-i.is c.loop-i.invariant.left c.set_count.ensures in
    c.split_at.ensures.front ∙ parts.1

pub loop-i-preserved : goal.loop-i-preserved
loop-i-preserved c =
    let xs = c.args.interchanges.now in
    let x = c.index-interchanges-i.result in
    let n : ℕ = c.args.before + c.loop-i.i + 1 in
    let parts = interchange_parts c.args.setup.now c.loop-i.i xs x x c.loop-i.left.now c.set_count.result
    c.loop-i-test.true c.index-interchanges-i.is c.loop-i.invariant.left c.set_count.ensures in
    let next : c.args.before + (c.loop-i.i + 1) + 1 ≡ n + 1 = omega arith in
    record {
      text =
          ap (λ (m : ℕ). c.append_interchange.new.out.items ++ all_lines c.args.setup.now c.args.base m (drop (c.loop-i.i + 1) xs)) next
          ∙ lines_on c.args.setup.now c.args.base n xs c.loop-i.i x c.loop-i.out.items c.append_interchange.new.out.items _
          c.loop-i-test.true
          c.index-interchanges-i.is c.in_ok-counted.ensures.text c.loop-i.invariant.text;
      totals =
          added_on (interchange_totals c.args.setup.now) xs c.loop-i.i x c.loop-i.totals c.in_ok-counted.counted c.with-totals.result _
          c.loop-i-test.true c.index-interchanges-i.is c.in_ok-counted.ensures.totals c.with-totals.ensures c.loop-i.invariant.totals;
      room =
          subst (λ (t : Totals). HasRoom t (length c.args.out.now.items) (length c.append_interchange.new.out.items))
          (sym c.with-totals.ensures)
          (room_goes_on c.loop-i.totals c.in_ok-counted.counted (length c.args.out.now.items) (length c.loop-i.out.items)
          (length c.append_interchange.new.out.items) c.loop-i.invariant.room c.in_ok-counted.ensures.room);
      of_those = (
        omega (
          arith,
          ap (λ (t : Totals). t.interchanges) c.with-totals.ensures,
          c.loop-i.invariant.of_those.0,
          c.in_ok-counted.ensures.of_one.0,
        ),
        omega (
          arith,
          ap (λ (t : Totals). t.refused) c.with-totals.ensures,
          c.loop-i.invariant.of_those.1,
          c.in_ok-counted.ensures.of_one.1,
        ),
      );
      left = c.split_at.ensures.back ∙ parts.2;
    }

pub returns-clause-totals : goal.returns-clause-totals
returns-clause-totals c =
    let xs = c.args.interchanges.now in
    let past : length xs ≤ c.loop-i.i = omega arith in
    ap (added (interchange_totals c.args.setup.now) c.loop-i.totals) (sym (drop_all c.loop-i.i xs past))
    ∙ c.loop-i.invariant.totals ∙ totals_are_added c.args.setup.now xs
