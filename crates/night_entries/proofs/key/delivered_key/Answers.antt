use Rattle.std.proofs.Common.{◌≡◌, ◌∙◌, sym, subst, Some}
use Rattle.std.proofs.lemmas.Result.{IfErr-weaker, IfOk-weaker}
use Rattle.csv_fields.specs.declared.columns.TheConstants as column
use Rattle.csv.specs.Records.{fields_of}
use Rattle.night_entries.specs.Good.{has_key}
use Rattle.night_entries.specs.Keys.{cell}
use Rattle.night_entries.specs.Named.{found_in}
use Rattle.night_entries.specs.ReadFault.{IsTrackFault}
use Rattle.night_entries.proofs.Reading.{same_fault}
use Rattle.night_entries.proofs.RowKey.{key_same, offset_fails, receiver_found, texts_decide}
use Rattle.night_entries.proofs.key.delivered_key.Goals as goal

pub returns-in_err-header-clause-refused : goal.returns-in_err-header-clause-refused
returns-in_err-header-clause-refused c =
    let receiver = found_in c.args.receivers.now in
    let row = fields_of c.args.row.now in
    same_fault c.from_residual.result c.in_err-header.field-0.0 (IsTrackFault (has_key c.args.input.now receiver row))
    c.from_residual.ensures.1
    (offset_fails c.args.input.now receiver row c.cell-2.result.now c.cell-2.ensures c.in_err-header.field-0.0
    c.in_err-header.ensures.refused)

pub returns-clause-key : goal.returns-clause-key
returns-clause-key c =
    let receiver = found_in c.args.receivers.now in
    let row = fields_of c.args.row.now in
    let found : Some c.in-Some.receiver.now ≡ receiver (cell row column.RECEIVER) =
    receiver_found receiver c.cell.result.now (cell row column.RECEIVER) c.find.result c.in-Some.receiver c.in-Some.is
    c.find.ensures c.cell.ensures in
    IfOk-weaker c.set_key.result _ _
    (λ key is. is ∙ key_same c.args.input.now receiver row c.in-Some.receiver.now c.in_ok-header.header c.cell-2.result.now
    c.cell-3.result.now c.cell-4.result.now found c.in_ok-header.ensures.header c.cell-2.ensures c.cell-3.ensures c.cell-4.ensures)
    c.set_key.ensures.key

pub returns-clause-good : goal.returns-clause-good
returns-clause-good c =
    let receiver = found_in c.args.receivers.now in
    let row = fields_of c.args.row.now in
    let found : Some c.in-Some.receiver.now ≡ receiver (cell row column.RECEIVER) =
    receiver_found receiver c.cell.result.now (cell row column.RECEIVER) c.find.result c.in-Some.receiver c.in-Some.is
    c.find.ensures c.cell.ensures in
    IfOk-weaker c.set_key.result _ _
    (λ key good. texts_decide c.args.input.now receiver row c.in-Some.receiver.now c.cell-2.result.now c.cell-3.result.now
    c.cell-4.result.now found c.cell-2.ensures c.in_ok-header.ensures.good c.cell-3.ensures c.cell-4.ensures ∙ good)
    c.set_key.ensures.good

pub returns-clause-refused : goal.returns-clause-refused
returns-clause-refused c =
    let receiver = found_in c.args.receivers.now in
    let row = fields_of c.args.row.now in
    let found : Some c.in-Some.receiver.now ≡ receiver (cell row column.RECEIVER) =
    receiver_found receiver c.cell.result.now (cell row column.RECEIVER) c.find.result c.in-Some.receiver c.in-Some.is
    c.find.ensures c.cell.ensures in
    IfErr-weaker c.set_key.result _ _
    (λ e bad. subst (λ b. IsTrackFault b e)
    (sym (texts_decide c.args.input.now receiver row c.in-Some.receiver.now c.cell-2.result.now c.cell-3.result.now
    c.cell-4.result.now found c.cell-2.ensures c.in_ok-header.ensures.good c.cell-3.ensures c.cell-4.ensures)) bad)
    c.set_key.ensures.refused
