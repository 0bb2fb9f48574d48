use Rattle.std.proofs.Common.{◌∙◌, ap, List, ℕ, Option, ◌++◌, arith, map}
use Rattle.std.specs.List.{list_all}
use Rattle.std.specs.Option.{option_to_list}
use Rattle.night_entries.specs.Keys.{row_key}
use Rattle.night_entries.specs.Named.{found_in}
use Rattle.csv.specs.Records.{fields_of}
use Rattle.night_entries.specs.ReadFault.{IsTrackFault}
use Rattle.night_entries.specs.Good.{is_row}
use Rattle.night_entries.proofs.BadRows.{row_fails, rows_good}
use Rattle.night_entries.proofs.Reading.{same_fault}
use Rattle.night_entries.proofs.Same.{keys_more}
use Rattle.night_entries.proofs.key.keys_by.Goals as goal

pub loop-i-preserved : goal.loop-i-preserved
loop-i-preserved c =
    record {
      keys = keys_more (row_key c.args.input.now (found_in c.args.receivers.now)) c.args.table.now c.loop-i.i c.index-table-i.result
          (omega (arith)) c.index-table-i.is c.loop-i.found.items c.push_key.new.found.items c.loop-i.invariant.keys
          (c.in_ok-push_key.ensures ∙ ap (λ (o : Option (List ℕ)). c.loop-i.found.items ++ option_to_list o) c.in_ok-row_key.ensures.key);
      good = rows_good (is_row c.args.input.now (found_in c.args.receivers.now)) c.args.table.now c.loop-i.i c.index-table-i.result
          (omega (arith)) c.index-table-i.is c.loop-i.invariant.good c.in_ok-row_key.ensures.good;
    }

pub returns-in_err-row_key-clause-refused : goal.returns-in_err-row_key-clause-refused
returns-in_err-row_key-clause-refused c =
    let good = is_row c.args.input.now (found_in c.args.receivers.now) in
    same_fault c.from_residual.result c.in_err-row_key.field-0.0 (IsTrackFault (list_all good (map fields_of c.args.table.now)))
    c.from_residual.ensures.1
    (row_fails good c.args.table.now c.loop-i.i c.index-table-i.result (omega (arith)) c.index-table-i.is c.in_err-row_key.field-0.0
    c.in_err-row_key.ensures.refused)
