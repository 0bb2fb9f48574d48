use Rattle.std.proofs.Common.{◌≡◌, ◌<◌, List, length, take, refl, ap, ◌∙◌, arith}
use Rattle.std.proofs.lemmas.List.{take_all}
use Rattle.env_index.specs.Words.{InterchangeEntry, GroupEntry}
use Rattle.answered_sets.specs.Judged.{sets_of_groups_from}
use Rattle.mailbox.proofs.ForAbove.{there_is}
use Rattle.csv_fields.specs.Csv.{table_text}
use Rattle.track_table.specs.Rows.{groups_rows}
use Rattle.track_table.proofs.Walks.{group_rows_more, rows_as, rows_none}
use Rattle.track_table.proofs.rows.append_groups.Goals as goal

pub loop-k-init : goal.loop-k-init
loop-k-init c = record {
  count = refl;
  rows = rows_none c.args.by.now c.args.out.now.items c.args.cursors.now;
}

pub append_noted_group-requires-clause-count : goal.append_noted_group-requires-clause-count
append_noted_group-requires-clause-count c = c.loop-k.invariant.count ∙ c.requires

pub loop-k-preserved : goal.loop-k-preserved
loop-k-preserved c =
    let groups : List GroupEntry = c.args.judged.now.interchange.content.groups in
    let count : length c.interchange.result.now.content.groups ≡ length groups =
    ap (λ (i : InterchangeEntry). length i.content.groups) c.interchange.ensures.value in
    let within : c.loop-k.k < length groups = omega (arith, c.loop-k-test.true, c.group_count-k-end.ensures, count) in
    let group = there_is groups c.loop-k.k within in
    record {
      count = c.in_ok-append_noted_group.ensures.count ∙ c.loop-k.invariant.count;
      rows = group_rows_more c.args.by.now c.args.n c.args.judged.now c.args.notes.now c.loop-k.k group.0 _ _ _ _ _ _ group.1
          c.loop-k.invariant.rows (c.in_ok-append_noted_group.ensures.rows group.0 group.1);
    }

pub returns-clause-rows : goal.returns-clause-rows
returns-clause-rows c =
    let x = c.args.judged.now in
    let groups : List GroupEntry = x.interchange.content.groups in
    let count : length c.interchange.result.now.content.groups ≡ length groups =
    ap (λ (i : InterchangeEntry). length i.content.groups) c.interchange.ensures.value in
    let all : take c.loop-k.k groups ≡ groups =
    take_all c.loop-k.k groups (omega (arith, c.loop-k-test.false, c.group_count-k-end.ensures, count)) in
    rows_as c.args.by.now _ _ _ _ _ _ _ _
    (λ before. ap (λ (gs : List GroupEntry). table_text (groups_rows c.args.by.now c.args.n before x c.args.notes.now 0 gs)) all)
    (ap (sets_of_groups_from x 0) all) c.loop-k.invariant.rows
