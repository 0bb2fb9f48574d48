-- The counters that a night begins with (own; X12.5, ISA13; X12.6, GS06 and ST02). They go by address: a partner that is renamed continues.
use Rattle.std.specs.Prelude.{ℕ, List, Option, option_map, unwrap_or}
use Rattle.std.specs.Option.{option_or}
use Rattle.hub_kinds.specs.declared.counters.Counters.{Counters}
use Rattle.hub_ledger.specs.Entries.{last_known}
use Rattle.hub_ledger.specs.declared.entry.NightEntry.{NightEntry}
use Rattle.night_entries.specs.Rows.{address_of, counters_named, first_numbers}
use Rattle.partner_setup.specs.declared.rows.CounterRow.{CounterRow}
use Rattle.partner_setup.specs.declared.rows.PartnerRow.{PartnerRow}

-- the numbers that the newest night that knows an address left it with
abbrev pub numbers_left : List NightEntry → (address : List ℕ) → Option Counters
numbers_left older address = option_map (λ known. known.row.left) (last_known address older)

-- the numbers that a first counters file has under a name
abbrev pub numbers_first : List CounterRow → (name : List ℕ) → Option Counters
numbers_first first name = option_map (λ (row : CounterRow). row.counters) (counters_named first name)

-- A partner's row: its address continues where it was left. An address of no older night begins with the first numbers of the partner's
-- name, or else with 1, 1 and 1.
abbrev pub begun_row : (older : List NightEntry) → (first : List CounterRow) → PartnerRow → CounterRow
begun_row older first partner = record {
  partner = partner.name;
  counters = unwrap_or (option_or (numbers_left older (address_of partner)) (numbers_first first partner.name)) first_numbers;
}
