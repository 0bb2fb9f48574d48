use Rattle.std.proofs.Common.{◌+◌, drop, refl, arith}
use Rattle.toml.specs.View.{view, items_view}
use Rattle.toml_keys.specs.Answers.{meaning_of}
use Rattle.partner_setup.specs.SetupFile.{rows_in}
use Rattle.toml_keys.proofs.ForAbove.{row_added, row_fails, next_row}
use Rattle.partner_setup.proofs.row.rows_in.Goals as goal

pub returns-in-Err : goal.returns-in-Err
returns-in-Err g c =
    let v = c.value-item.result in
    let vs = c.args.values.now in
    let i = c.loop-value.value-index in
    let read = g.R.RowReading.reading c.args.reading.now in
    row_fails c.loop-value.rows.items (meaning_of c.in-Err.fault) (read (view v))
    (rows_in read (items_view (drop (i + 1) vs))) (rows_in read (items_view vs)) c.in-Err.ensures
    (next_row read (rows_in read) (λ d ds. refl) vs i v (omega arith) c.value-item.is c.loop-value.rows.items
    (rows_in read (items_view vs)) c.loop-value.invariant)

pub loop-value-preserved : goal.loop-value-preserved
loop-value-preserved g c =
    let v = c.value-item.result in
    let vs = c.args.values.now in
    let i = c.loop-value.value-index in
    let read = g.R.RowReading.reading c.args.reading.now in
    row_added c.loop-value.rows.items c.push_row.new.rows.items c.in-Ok.row (read (view v))
    (rows_in read (items_view (drop (i + 1) vs))) (rows_in read (items_view vs)) c.in_ok-push_row-in-Ok.ensures.ok
    c.in-Ok.ensures
    (next_row read (rows_in read) (λ d ds. refl) vs i v (omega arith) c.value-item.is c.loop-value.rows.items
    (rows_in read (items_view vs)) c.loop-value.invariant)
