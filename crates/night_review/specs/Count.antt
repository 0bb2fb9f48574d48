-- How many addresses nights have (own): each counts once, whatever its partner is called.
use Rattle.std.specs.Prelude.{ℕ, ◌+◌, List, [], ◌∷◌, map, if◌then◌else◌}
use Rattle.std.specs.List.{flat_map}
use Rattle.hub_kinds.specs.Words.{contains_text}
use Rattle.hub_ledger.specs.declared.entry.AddressNumbers.{AddressNumbers}
use Rattle.hub_ledger.specs.declared.entry.NightEntry.{NightEntry}

abbrev pub addresses_in : List AddressNumbers → List (List ℕ)
addresses_in rows = map (λ (row : AddressNumbers). row.address) rows

-- the addresses of all nights, in their order
abbrev pub addresses_of : List NightEntry → List (List ℕ)
addresses_of nights = flat_map (λ (night : NightEntry). addresses_in night.addresses) nights

-- how many different texts there are, beside those that were seen
abbrev pub different : (seen : List (List ℕ)) → List (List ℕ) → ℕ
different seen [] = 0
different seen (text ∷ texts) = (if contains_text seen text then 0 else 1) + different (text ∷ seen) texts
