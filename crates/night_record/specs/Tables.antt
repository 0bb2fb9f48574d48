-- The two tables of a night (RFC 4180, comma-separated values; X12.5, ISA05 to ISA08 and ISA13; X12.6, GS06 and ST02; own): the
-- interchanges that it took, and the numbers that come next for each address that was ever sent to.
use Rattle.std.specs.Prelude.{◌≡◌, ◌≢◌, ⊤, ◌&&◌, ℕ, Bool, true, false, List, [], ◌∷◌, ◌++◌, codes, decimal, map}
use Rattle.std.specs.List.{list_all}
use Rattle.hub_kinds.specs.declared.counters.Counters.{Counters}
use Rattle.csv_fields.specs.Csv.{table_text}
use Rattle.night_record.specs.Rows.{field}
use Rattle.night_record.specs.Values.{are_rising, is_count}
use Rattle.night_record.specs.declared.addresses.AddressNext.{AddressNext}
use Rattle.night_record.specs.declared.fault.TableFault.{TableFault}
use Rattle.night_record.specs.declared.fault.TableFault.TheVariants as fault
use Rattle.night_record.specs.declared.taken.TakenInterchange.{TakenInterchange}

abbrev pub taken_columns : List ℕ
taken_columns = codes "isa05,isa06,isa07,isa08,isa13\r\n"

-- the row of an interchange
abbrev pub taken_row : TakenInterchange → List (List ℕ)
taken_row taken = taken.isa05 ∷ taken.isa06 ∷ taken.isa07 ∷ taken.isa08 ∷ taken.isa13 ∷ []

-- the names of the columns, and a row for each interchange
abbrev pub taken_text : List TakenInterchange → List ℕ
taken_text list = taken_columns ++ table_text (map taken_row list)

-- the interchange of a row
abbrev pub taken_in : (row : List (List ℕ)) → TakenInterchange
taken_in row = record {
  isa05 = field row 0;
  isa06 = field row 1;
  isa07 = field row 2;
  isa08 = field row 3;
  isa13 = field row 4;
}

abbrev pub address_columns : List ℕ
address_columns = codes "qualifier,id,interchange,group,set\r\n"

abbrev pub count_fields : Counters → List (List ℕ)
count_fields next = decimal next.interchange ∷ decimal next.group ∷ decimal next.set ∷ []

-- the row of an address
abbrev pub address_row : AddressNext → List (List ℕ)
address_row next = next.qualifier ∷ next.id ∷ count_fields next.next

-- the names of the columns, and a row for each address
abbrev pub addresses_text : List AddressNext → List ℕ
addresses_text list = address_columns ++ table_text (map address_row list)

-- numbers from 1 to 999,999,999
abbrev pub are_counts : Counters → Bool
are_counts next = is_count next.interchange && (is_count next.group && is_count next.set)

abbrev pub can_count : AddressNext → Bool
can_count next = are_counts next.next

-- the qualifier and the id of an address, with a space between them
abbrev pub address_of : AddressNext → List ℕ
address_of next = next.qualifier ++ 32 ∷ next.id

-- addresses in the order of bytes, each once
abbrev pub are_in_order : List AddressNext → Bool
are_in_order list = are_rising (map address_of list)

-- addresses that can be in a table
abbrev pub are_addresses : List AddressNext → Bool
are_addresses list = list_all can_count list && are_in_order list

-- why a text isn't a table: its first line isn't the names of the columns; the rest isn't rows of this table; the rows aren't in order
abbrev pub HasNoColumns : (columns bytes : List ℕ) → Type 0
HasNoColumns columns bytes = (rest : List ℕ) → bytes ≢ columns ++ rest

abbrev pub IsTakenFault : (bytes : List ℕ) → TableFault → Type 0
IsTakenFault bytes fault.Memory = ⊤
IsTakenFault bytes fault.Columns = HasNoColumns taken_columns bytes
IsTakenFault bytes fault.Rows =
    ((rest : List ℕ) × (bytes ≡ taken_columns ++ rest)) × ((list : List TakenInterchange) → bytes ≢ taken_text list)
IsTakenFault bytes fault.Order = ⊥

pub record IsOutOfOrder (bytes : List ℕ) : Type 0 where
  pub list : List AddressNext
  pub text : bytes ≡ addresses_text list
  pub can_count_each : list_all can_count list ≡ true
  pub order : are_in_order list ≡ false

abbrev pub IsAddressesFault : (bytes : List ℕ) → TableFault → Type 0
IsAddressesFault bytes fault.Memory = ⊤
IsAddressesFault bytes fault.Columns = HasNoColumns address_columns bytes
IsAddressesFault bytes fault.Rows =
    ((rest : List ℕ) × (bytes ≡ address_columns ++ rest))
    × ((list : List AddressNext) → list_all can_count list ≡ true → bytes ≢ addresses_text list)
IsAddressesFault bytes fault.Order = IsOutOfOrder bytes

-- why addresses aren't written
abbrev pub IsAppendFault : List AddressNext → TableFault → Type 0
IsAppendFault list fault.Memory = ⊤
IsAppendFault list fault.Columns = ⊥
IsAppendFault list fault.Rows = list_all can_count list ≡ false
IsAppendFault list fault.Order = are_in_order list ≡ false
