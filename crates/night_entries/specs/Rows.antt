-- The numbers of partners in a night (own; X12.5, ISA13; X12.6, GS06 and ST02).
use Rattle.std.specs.Prelude.{ℕ, List, ◌∷◌, ◌++◌, Option, Some, None, map}
use Rattle.hub_kinds.specs.declared.counters.Counters.{Counters}
use Rattle.partner_setup.specs.declared.rows.CounterRow.{CounterRow}
use Rattle.partner_setup.specs.declared.rows.PartnerRow.{PartnerRow}
use Rattle.hub_ledger.specs.declared.entry.AddressNumbers.{AddressNumbers}
use Rattle.night_entries.specs.Named.{named}

abbrev pub numbers_or : Option CounterRow → Counters → Counters
numbers_or None other = other
numbers_or (Some row) other = row.counters

-- a partner without counters begins at 1, 1 and 1
abbrev pub first_numbers : Counters
first_numbers = record { interchange = 1; group = 1; set = 1 }

abbrev pub address_of : PartnerRow → List ℕ
address_of partner = partner.qualifier ++ 32 ∷ partner.id

-- a partner's row, by what its name finds in the counters that the night begins with, and in those that it leaves
abbrev pub row_by : (begun left : List ℕ → Option CounterRow) → PartnerRow → AddressNumbers
row_by begun left partner = record {
  partner = partner.name;
  address = address_of partner;
  begun = numbers_or (begun partner.name) first_numbers;
  left = numbers_or (left partner.name) (numbers_or (begun partner.name) first_numbers);
}

abbrev pub counters_named : List CounterRow → (name : List ℕ) → Option CounterRow
counters_named rows name = named (λ (row : CounterRow). row.partner) name rows

abbrev pub address_rows : (begun left : List CounterRow) → List PartnerRow → List AddressNumbers
address_rows begun left partners = map (row_by (counters_named begun) (counters_named left)) partners
