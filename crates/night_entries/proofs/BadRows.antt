-- A row that isn't one of a night.
use Rattle.std.proofs.Common.{◌≡◌, ℕ, ◌<◌, ◌==◌, ◌&&◌, ◌||◌, Bool, true, false, zero, suc, not, List, [], ◌∷◌, Option, length}
use Rattle.std.proofs.Common.{map, get_or, sym, ap, subst, refl, ◌∙◌, arith, take, ◌+◌, ◌++◌}
use Rattle.std.proofs.lemmas.List.{map-append, take_more}
use Rattle.std.proofs.lemmas.List.Folds.{list_all-append}
use Rattle.std.specs.Prelude.{is_some}
use Rattle.std.specs.List.{list_all}
use Rattle.csv_fields.specs.declared.columns.TheConstants as column
use Rattle.csv.specs.Reading.{AreRecords, default_config, strip_bom}
use Rattle.csv.specs.Records.{fields_of}
use Rattle.csv.specs.declared.parser.State.TheVariants as st
use Rattle.csv.specs.declared.record.ByteRecord.{ByteRecord}
use Rattle.hub_ledger.specs.declared.entry.AddressNumbers.{AddressNumbers}
use Rattle.partner_setup.specs.declared.rows.CounterRow.{CounterRow}
use Rattle.partner_setup.specs.declared.rows.SetupRows.{SetupRows}
use Rattle.night_entries.specs.Entry.{AreCounters, IsSetup}
use Rattle.night_entries.specs.Keys.{cell, is_delivered, receiver_named}
use Rattle.night_entries.specs.ReadFault.{IsTrackFault}
use Rattle.night_entries.specs.Good.{has_byte, is_offset, is_row}
use Rattle.night_entries.specs.Refused.{IsEntryFault, IsRefused}
use Rattle.night_entries.specs.Rows.{address_rows}
use Rattle.night_entries.specs.declared.entry.Papers.{Papers}
use Rattle.night_entries.specs.declared.fault.EntryFault.{EntryFault}
use Rattle.night_entries.specs.declared.fault.EntryFault.TheVariants as fault

-- one row is enough
all_fails : (p : List (List ℕ) → Bool) (rows : List ByteRecord) (i : ℕ) (row : ByteRecord) → i < length rows → row ≡ get_or rows i row
    → p (fields_of row) ≡ false → list_all p (map fields_of rows) ≡ false
all_fails p [] i row low is bad = let far : i < 0 = low in absurd (omega (arith, far))
all_fails p (x ∷ xs) zero row low is bad =
    ap (λ (b : Bool). b && list_all p (map fields_of xs)) (ap (λ (r : ByteRecord). p (fields_of r)) (sym is) ∙ bad)
all_fails p (x ∷ xs) (suc i) row low is bad =
    ap (λ (b : Bool). p (fields_of x) && b) (all_fails p xs i row (omega (arith, low)) is bad) ∙ never (p (fields_of x))
  where
    never : (b : Bool) → (b && false) ≡ false
    never true = refl
    never false = refl

pub row_fails : (p : List (List ℕ) → Bool) (rows : List ByteRecord) (i : ℕ) (row : ByteRecord) → i < length rows → row ≡ get_or rows i row
    → (e : EntryFault) → IsTrackFault (p (fields_of row)) e → IsTrackFault (list_all p (map fields_of rows)) e
row_fails p rows i row low is fault.Memory bad = tt
row_fails p rows i row low is (fault.Unreadable other) bad = (bad.0, all_fails p rows i row low is bad.1)

-- rows that were looked at, and one more
pub rows_good : (p : List (List ℕ) → Bool) (rows : List ByteRecord) (i : ℕ) (row : ByteRecord) → i < length rows → row ≡ get_or rows i row
    → list_all p (map fields_of (take i rows)) ≡ true → p (fields_of row) ≡ true
    → list_all p (map fields_of (take (i + 1) rows)) ≡ true
rows_good p rows i row low is so_far good =
    ap (λ (l : List ByteRecord). list_all p (map fields_of l))
    (take_more rows i row low ∙ ap (λ (r : ByteRecord). take i rows ++ r ∷ []) (sym is))
    ∙ ap (list_all p) (map-append fields_of (take i rows) (row ∷ []))
    ∙ list_all-append p (map fields_of (take i rows)) (fields_of row ∷ [])
    ∙ ap (λ (b : Bool). b && (p (fields_of row) && true)) so_far ∙ ap (λ (b : Bool). b && true) good

-- receivers that are found alike
row_same : (input : List ℕ) (f g : List ℕ → Option AddressNumbers) → ((q : List ℕ) → f q ≡ g q) → (row : List (List ℕ))
    → is_row input f row ≡ is_row input g row
row_same input f g same row =
    ap (λ (o : Option AddressNumbers). (length row == column.COLUMNS) && (not (is_delivered row) || (is_some o
    && (is_offset input (cell row column.OFFSET)
    && (not (has_byte 0 (cell row column.GS06)) && not (has_byte 0 (cell row column.ST02))))))) (same (cell row column.RECEIVER))

all_same : (p q : List (List ℕ) → Bool) → ((row : List (List ℕ)) → p row ≡ q row) → (table : List (List (List ℕ)))
    → list_all p table ≡ list_all q table
all_same p q same [] = refl
all_same p q same (row ∷ rows) =
    ap (λ (b : Bool). b && list_all p rows) (same row) ∙ ap (λ (b : Bool). q row && b) (all_same p q same rows)

pub all_good : (input : List ℕ) (f g : List ℕ → Option AddressNumbers) (table : List (List (List ℕ))) → ((q : List ℕ) → f q ≡ g q)
    → list_all (is_row input f) table ≡ true → list_all (is_row input g) table ≡ true
all_good input f g table same good = sym (all_same (is_row input f) (is_row input g) (row_same input f g same) table) ∙ good

pub rows_same : (input : List ℕ) (f g : List ℕ → Option AddressNumbers) (table : List (List (List ℕ))) → ((q : List ℕ) → f q ≡ g q)
    → (e : EntryFault) → IsTrackFault (list_all (is_row input f) table) e → IsTrackFault (list_all (is_row input g) table) e
rows_same input f g table same e =
    subst (λ (b : Bool). IsTrackFault b e) (all_same (is_row input f) (is_row input g) (row_same input f g same) table)

-- nothing is kept of a night with such a row
pub track_fails : (papers : Papers) (setup : SetupRows) (begun left : List CounterRow) (table : List (List (List ℕ)))
    → IsSetup papers.setup.now setup → AreCounters papers.counters.now begun → AreCounters papers.next_counters.now left
    → AreRecords default_config st.StartRecord (strip_bom papers.track.now) table → (e : EntryFault)
    → IsTrackFault (list_all (is_row papers.input.now (receiver_named (address_rows begun left setup.partners))) table) e
    → IsEntryFault papers e
track_fails papers setup begun left table setup_is begun_is left_is table_is fault.Memory bad = tt
track_fails papers setup begun left table setup_is begun_is left_is table_is (fault.Unreadable other) bad =
    subst (IsRefused papers) (sym bad.0) (record {
      setup = setup;
      begun = begun;
      left = left;
      table = table;
      setup_is = setup_is;
      begun_is = begun_is;
      left_is = left_is;
      table_is = table_is;
      bad = bad.1;
    })
