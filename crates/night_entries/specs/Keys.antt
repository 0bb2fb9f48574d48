-- The keys of delivered sets (own): ISA05 to ISA08 and ISA13 of the interchange (X12.5), GS06 and ST02 (X12.6), and the receiver's address.
use Rattle.std.specs.Prelude.{ℕ, Bool, List, [], ◌∷◌, ◌++◌, Option, Some, None, codes, if◌then◌else◌}
use Rattle.std.specs.List.{filter_map}
use Rattle.std.specs.Option.{unwrap_or}
use Rattle.std.specs.Str.{bytes_eq}
use Rattle.csv_fields.specs.declared.columns.TheConstants as column
use Rattle.csv.specs.Records.{field_at}
use Rattle.night_definition.specs.Header.{field, header_at}
use Rattle.hub_kinds.specs.Numbers.{value_of}
use Rattle.hub_ledger.specs.declared.entry.AddressNumbers.{AddressNumbers}
use Rattle.night_entries.specs.Named.{named}

-- field n of a row, counted from 0
abbrev pub cell : (row : List (List ℕ)) → ℕ → List ℕ
cell row n = unwrap_or (field_at row n) []

-- the fields of the table of a night (docs/OPERATIONS.md): where the interchange begins, GS06, ST02, the outcome, the receiver
abbrev pub is_delivered : List (List ℕ) → Bool
is_delivered row = bytes_eq (cell row column.OUTCOME) (codes "delivered")

abbrev pub interchange_key : (header : List ℕ) → List ℕ
interchange_key header =
    field 5 header ++ (field 6 header ++ (field 7 header ++ (field 8 header ++ field 13 header)))

abbrev pub address_or_none : Option AddressNumbers → List ℕ
address_or_none None = []
address_or_none (Some row) = row.address

-- GS06 and ST02 end with a byte that neither has
abbrev pub set_key : (header group set : List ℕ) → (receiver : Option AddressNumbers) → List ℕ
set_key header group set receiver = interchange_key header ++ (group ++ (0 ∷ []) ++ (set ++ (0 ∷ []) ++ address_or_none receiver))

abbrev pub row_key : (input : List ℕ) → (receiver : List ℕ → Option AddressNumbers) → List (List ℕ) → Option (List ℕ)
row_key input receiver row =
    if is_delivered row then
    Some (set_key (header_at input (value_of (cell row column.OFFSET))) (cell row column.GS06) (cell row column.ST02)
    (receiver (cell row column.RECEIVER)))
    else None

abbrev pub receiver_named : List AddressNumbers → (name : List ℕ) → Option AddressNumbers
receiver_named rows name = named (λ (row : AddressNumbers). row.partner) name rows

abbrev pub delivered_keys : (input : List ℕ) → List AddressNumbers → (table : List (List (List ℕ))) → List (List ℕ)
delivered_keys input rows table = filter_map (row_key input (receiver_named rows)) table
