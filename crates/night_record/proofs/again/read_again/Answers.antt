use Rattle.std.proofs.Common.{◌≡◌, ◌∙◌, ◌++◌, ◌∷◌, [], List, ℕ, ap, map, rules, sym}
use Rattle.csv.specs.Records.{fields_of}
use Rattle.csv.specs.declared.record.ByteRecord.{ByteRecord}
use Rattle.csv_fields.specs.Csv.{table_text}
use Rattle.night_record.specs.Again.{again_columns, again_in, again_row}
use Rattle.night_record.specs.Rows.{HasRows}
use Rattle.night_record.specs.declared.again.AgainSet.{AgainSet}
use Rattle.night_record.proofs.AgainRows.{again_rows_back, again_wide, filled, rows_are}
use Rattle.night_record.proofs.again.read_again.Goals as goal

-- some rows are some sets
some_rows : (rows : List ByteRecord) (list : List AgainSet) → (rows ≡ [] → ⊥) → list ≡ map again_in (map fields_of rows) → list ≡ [] → ⊥
some_rows [] list some is none = some (cc)
some_rows (r ∷ rs) list some is none = cc

pub returns-in_default-clause-refused : goal.returns-in_default-clause-refused
returns-in_default-clause-refused c = (
  search rules,
  λ rest same. c.in_default.ensures rest (same ∙ ap (λ (l : List ℕ). l ++ rest) (sym c.again_columns.ensures)),
)

pub returns-in_default-2-clause-refused : goal.returns-in_default-2-clause-refused
returns-in_default-2-clause-refused c =
    let text : List ℕ = c.in-Some.text.now in
    let columns : c.args.bytes.now ≡ again_columns ++ text =
    c.in-Some.ensures ∙ ap (λ (l : List ℕ). l ++ text) c.again_columns.ensures in (
      (text, columns),
      λ list same. c.in_ok-rows.ensures.none c.in_default-2.is (map again_row list) (record {
        records = rows_are text list (sym columns ∙ same);
        width = again_wide list;
      }),
    )

pub returns-clause-list : goal.returns-clause-list
returns-clause-list c =
    let rows : List (List (List ℕ)) = map fields_of c.in-Some-2.rows.items in
    let has : HasRows c.in-Some.text.now rows = rw c.in-Some-2.is at c.in_ok-rows.ensures.some in
    let list : List AgainSet = c.in_ok-each_again.field-0.items in
    let lent : map fields_of c.as_slice.result.now ≡ rows = ap (λ (l : List ByteRecord). map fields_of l) c.as_slice.ensures.value in
    let read : list ≡ map again_in rows = c.in_ok-each_again.ensures ∙ ap (λ (l : List (List (List ℕ))). map again_in l) lent in
    let back : map again_row list ≡ rows = ap (λ (l : List AgainSet). map again_row l) read ∙ again_rows_back rows has.width in
    let some : c.in-Some-2.rows.items ≡ [] → ⊥ = search rules in
    c.in-Some.ensures ∙ ap (λ (l : List ℕ). l ++ c.in-Some.text.now) c.again_columns.ensures
    ∙ ap (λ (t : List ℕ). again_columns ++ t) (has.records ∙ ap (λ (l : List (List (List ℕ))). table_text l) (sym back))
    ∙ sym (filled list (some_rows c.in-Some-2.rows.items list some read))
