use Rattle.std.proofs.Common.{◌≡◌, ◌∙◌, ◌++◌, List, ℕ, ap, map, sym}
use Rattle.std.proofs.lemmas.List.{append_cancel_left}
use Rattle.csv.specs.Records.{fields_of}
use Rattle.csv.specs.declared.record.ByteRecord.{ByteRecord}
use Rattle.csv_fields.specs.Csv.{table_text}
use Rattle.night_record.specs.Rows.{HasRows}
use Rattle.night_record.specs.Tables.{address_columns, address_row, addresses_text}
use Rattle.night_record.specs.declared.addresses.AddressNext.{AddressNext}
use Rattle.night_record.proofs.Tabled.{address_wide, table_once}
use Rattle.night_record.proofs.addresses.read_addresses.Goals as goal

-- what comes after the columns
rest_is : (bytes columns text : List ℕ) (list : List AddressNext) → bytes ≡ columns ++ text → columns ≡ address_columns
    → bytes ≡ addresses_text list → text ≡ table_text (map address_row list)
rest_is bytes columns text list is named same =
    append_cancel_left address_columns text (table_text (map address_row list))
    (ap (λ (c : List ℕ). c ++ text) (sym named) ∙ sym is ∙ same)

pub returns-in_default-clause-refused : goal.returns-in_default-clause-refused
returns-in_default-clause-refused c rest same =
    c.in_default.ensures rest (same ∙ ap (λ (l : List ℕ). l ++ rest) (sym c.address_columns.ensures))

pub returns-in_default-2-clause-refused : goal.returns-in_default-2-clause-refused
returns-in_default-2-clause-refused c = (
  (c.in-Some.text.now, c.in-Some.ensures ∙ ap (λ (l : List ℕ). l ++ c.in-Some.text.now) c.address_columns.ensures),
  λ list can same. c.in_ok-rows.ensures.none c.in_default-2.is (map address_row list) (record {
    records = rest_is c.args.bytes.now c.address_columns.result.now c.in-Some.text.now list c.in-Some.ensures
        c.address_columns.ensures same;
    width = address_wide list;
  }),
)

pub returns-in_default-3-clause-refused : goal.returns-in_default-3-clause-refused
returns-in_default-3-clause-refused c = (
  (c.in-Some.text.now, c.in-Some.ensures ∙ ap (λ (l : List ℕ). l ++ c.in-Some.text.now) c.address_columns.ensures),
  λ list can same. (
      let rows : List (List (List ℕ)) = map fields_of c.in-Some-2.rows.items in
      let has : HasRows c.in-Some.text.now rows = rw c.in-Some-2.is at c.in_ok-rows.ensures.some in
      let text = rest_is c.args.bytes.now c.address_columns.result.now c.in-Some.text.now list c.in-Some.ensures
      c.address_columns.ensures same in
      let one = table_once rows (map address_row list) has.width (address_wide list) (sym has.records ∙ text) in
      let none = rw c.in_default-3.is at c.in_ok-list.ensures in
      none list can (ap (λ (l : List ByteRecord). map fields_of l) c.as_slice.ensures.value ∙ one)
      ),
)
