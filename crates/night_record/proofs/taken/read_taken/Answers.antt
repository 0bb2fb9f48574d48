use Rattle.std.proofs.Common.{◌≡◌, ◌∙◌, ◌++◌, List, ℕ, ap, map, sym}
use Rattle.std.proofs.lemmas.List.{append_cancel_left}
use Rattle.csv.specs.Records.{fields_of}
use Rattle.csv.specs.declared.record.ByteRecord.{ByteRecord}
use Rattle.csv_fields.specs.Csv.{table_text}
use Rattle.night_record.specs.Rows.{HasRows}
use Rattle.night_record.specs.Tables.{taken_columns, taken_in, taken_row, taken_text}
use Rattle.night_record.specs.declared.taken.TakenInterchange.{TakenInterchange}
use Rattle.night_record.proofs.Tabled.{taken_rows_back, taken_wide}
use Rattle.night_record.proofs.taken.read_taken.Goals as goal

-- what comes after the columns
rest_is : (bytes columns text : List ℕ) (list : List TakenInterchange) → bytes ≡ columns ++ text → columns ≡ taken_columns
    → bytes ≡ taken_text list → text ≡ table_text (map taken_row list)
rest_is bytes columns text list is named same =
    append_cancel_left taken_columns text (table_text (map taken_row list)) (ap (λ (c : List ℕ). c ++ text) (sym named) ∙ sym is ∙ same)

pub returns-in_default-clause-refused : goal.returns-in_default-clause-refused
returns-in_default-clause-refused c rest same =
    c.in_default.ensures rest (same ∙ ap (λ (l : List ℕ). l ++ rest) (sym c.taken_columns.ensures))

pub returns-in_default-2-clause-refused : goal.returns-in_default-2-clause-refused
returns-in_default-2-clause-refused c = (
  (c.in-Some.text.now, c.in-Some.ensures ∙ ap (λ (l : List ℕ). l ++ c.in-Some.text.now) c.taken_columns.ensures),
  λ list same. c.in_ok-rows.ensures.none c.in_default-2.is (map taken_row list) (record {
    records = rest_is c.args.bytes.now c.taken_columns.result.now c.in-Some.text.now list c.in-Some.ensures c.taken_columns.ensures same;
    width = taken_wide list;
  }),
)

pub returns-clause-list : goal.returns-clause-list
returns-clause-list c =
    let rows : List (List (List ℕ)) = map fields_of c.in-Some-2.rows.items in
    let has : HasRows c.in-Some.text.now rows = rw c.in-Some-2.is at c.in_ok-rows.ensures.some in
    let list : List TakenInterchange = c.in_ok-each_taken.field-0.items in
    let lent : map fields_of c.as_slice.result.now ≡ rows = ap (λ (l : List ByteRecord). map fields_of l) c.as_slice.ensures.value in
    let read : list ≡ map taken_in rows = c.in_ok-each_taken.ensures ∙ ap (λ (l : List (List (List ℕ))). map taken_in l) lent in
    let back : map taken_row list ≡ rows = ap (λ (l : List TakenInterchange). map taken_row l) read ∙ taken_rows_back rows has.width in
    c.in-Some.ensures ∙ ap (λ (l : List ℕ). l ++ c.in-Some.text.now) c.taken_columns.ensures
    ∙ ap (λ (t : List ℕ). taken_columns ++ t) (has.records ∙ ap (λ (l : List (List (List ℕ))). table_text l) (sym back))
