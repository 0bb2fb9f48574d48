use Rattle.std.proofs.Common.{◌≡◌, ℕ, ◌+◌, ◌<◌, List, [], ◌++◌, Some, length, take, refl, sym, ap, ◌∙◌, arith, append-nil}
use Rattle.std.specs.Prelude.{slice_get}
use Rattle.std.proofs.lemmas.List.{take_all}
use Rattle.std.proofs.lemmas.Option.{slice_get_read}
use Rattle.answered_sets.specs.Judged.{JudgedValue}
use Rattle.csv_fields.specs.Csv.{table_text}
use Rattle.track_table.specs.declared.notes.Notes.{Notes}
use Rattle.track_table.specs.Rows.{TrackedBy, interchange_rows, rows_from}
use Rattle.track_table.proofs.Walks.{interchange_rows_more, rows_as}
use Rattle.track_table.proofs.rows.append_all.Goals as goal

pub loop-i-init : goal.loop-i-init
loop-i-init c = record { behind = c.requires.behind; rows = sym (append-nil c.args.out.now.items) }

pub append_rows-requires : goal.append_rows-requires
append_rows-requires c = c.loop-i.invariant.behind.count

pub loop-i-preserved : goal.loop-i-preserved
loop-i-preserved c =
    let xs = c.args.interchanges.now in
    let ms = c.args.by.now.night in
    let i : ℕ = c.loop-i.i in
    let at_x : slice_get xs i ≡ Some c.index-interchanges-i.result =
    slice_get_read xs _ i c.index-interchanges-i.result refl c.loop-i-test.true c.index-interchanges-i.is in
    let night : List Notes = c.by.inside.night.now in
    let same : night ≡ ms = ap (λ (b : TrackedBy). b.night) c.by.view_is in
    let counts = ap (λ (ns : List Notes). length ns) same in
    let within : i < length night = omega (arith, c.loop-i-test.true, c.requires.notes, counts) in
    let at_night : slice_get night i ≡ Some c.index-by-i.result =
    slice_get_read night _ i c.index-by-i.result refl within c.index-by-i.is in
    let at_m : slice_get ms i ≡ Some c.index-by-i.result = sym (ap (λ (ns : List Notes). slice_get ns i) same) ∙ at_night in
    let x = c.index-interchanges-i.result in
    let told = rows_as c.args.by.now _ _ _ _ _ _ _ _
    (λ before. ap (λ (m : Notes). table_text (interchange_rows c.args.by.now (i + 1) before x m)) (sym c.index-by-i.is))
    refl c.in_ok-append_rows.ensures.rows in
    let next = interchange_rows_more c.args.by.now xs ms i (i + 1) c.index-interchanges-i.result c.index-by-i.result
    c.args.out.now.items c.loop-i.out.items c.append_rows.new.out.items c.loop-i.cursors c.append_rows.new.cursors at_x at_m refl
    c.loop-i.invariant.rows c.loop-i.invariant.behind told in
    record { behind = next.1; rows = next.0 }

pub returns : goal.returns
returns c =
    let xs = c.args.interchanges.now in
    let ms = c.args.by.now.night in
    let all : take c.loop-i.i xs ≡ xs = take_all c.loop-i.i xs (omega (arith, c.loop-i-test.false)) in
    let whole : take c.loop-i.i ms ≡ ms = take_all c.loop-i.i ms (omega (arith, c.loop-i-test.false, c.requires.notes)) in
    c.loop-i.invariant.rows
    ∙ ap (λ (ys : List JudgedValue). c.args.out.now.items ++ table_text (rows_from c.args.by.now 1 [] ys (take c.loop-i.i ms))) all
    ∙ ap (λ (ns : List Notes). c.args.out.now.items ++ table_text (rows_from c.args.by.now 1 [] xs ns)) whole
