-- Private. The numbers that ordered maps have, of an address or of a name.
use Rattle.std.specs.Prelude.{ℕ, List, Option, unwrap_or}
use Rattle.std.specs.BTreeMap.{BTreeMap, get_by}
use Rattle.std.specs.Cmp.Lexicographic.{slice_cmp}
use Rattle.std.specs.Option.{option_or}
use Rattle.std.specs.Ordering.{nat_cmp}
use Rattle.hub_kinds.specs.declared.counters.Counters.{Counters}
use Rattle.night_entries.specs.Rows.{address_of, first_numbers}
use Rattle.partner_setup.specs.declared.rows.CounterRow.{CounterRow}
use Rattle.partner_setup.specs.declared.rows.PartnerRow.{PartnerRow}
use denote.Ref.{Bor}

abbrev pub numbers_in : BTreeMap (Bor (List ℕ)) Counters → (key : List ℕ) → Option Counters
numbers_in map key = get_by (λ k. slice_cmp nat_cmp key k.now) map

-- a partner's row, by the numbers that its address was left with and those that its name begins with
abbrev pub row_by : (left first : List ℕ → Option Counters) → PartnerRow → CounterRow
row_by left first partner = record {
  partner = partner.name;
  counters = unwrap_or (option_or (left (address_of partner)) (first partner.name)) first_numbers;
}
