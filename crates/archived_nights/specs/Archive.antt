-- Nights that are archived as one (own): the sets that they delivered, and where they left each address.
use Rattle.std.specs.Prelude.{◌≡◌, ℕ, List, [], ◌∷◌, map, option_map, reverse}
use Rattle.hub_kinds.specs.declared.counters.Counters.{Counters}
use Rattle.hub_kinds.specs.Words.{contains_text}
use Rattle.archived_nights.specs.Archived.{left_of}
use Rattle.hub_ledger.specs.Entries.{keys_of, last_known}
use Rattle.hub_ledger.specs.declared.entry.AddressNumbers.{AddressNumbers}
use Rattle.hub_ledger.specs.declared.entry.NightEntry.{NightEntry}
use Rattle.kept_files.specs.Addresses.{next_of}
use Rattle.night_entries.specs.Again.{key_of}
use Rattle.night_record.specs.Tables.{address_of}
use Rattle.night_record.specs.declared.addresses.AddressNext.{AddressNext}
use Rattle.night_record.specs.declared.again.AgainSet.{AgainSet}
use Rattle.archived_nights.specs.declared.archive.Archive.{Archive}

-- nights of which the oldest comes first, the other way round
abbrev pub newest_first : List NightEntry → List NightEntry
newest_first nights = reverse nights

-- the row of an address that is sent nothing, under its address as its partner's name
abbrev pub row_of : AddressNext → AddressNumbers
row_of next = record { partner = address_of next; address = address_of next; begun = next.next; left = next.next }

abbrev pub rows_of : List AddressNext → List AddressNumbers
rows_of list = map row_of list

-- what is kept of these nights together
abbrev pub entry_of : Archive → NightEntry
entry_of archive = record {
  name = archive.name;
  moment = archive.moment;
  delivered = map key_of archive.sets;
  again = [];
  addresses = rows_of archive.next;
  files = [];
}

-- private: the name and the moment of the last of these nights
abbrev pub last_name : List NightEntry → List ℕ
last_name [] = []
last_name (night ∷ []) = night.name
last_name (night ∷ next ∷ nights) = last_name (next ∷ nights)

abbrev pub last_moment : List NightEntry → List ℕ
last_moment [] = []
last_moment (night ∷ []) = night.moment
last_moment (night ∷ next ∷ nights) = last_moment (next ∷ nights)

-- private: a row's parts
abbrev pub address_in : AddressNumbers → List ℕ
address_in row = row.address

abbrev pub left_by : AddressNumbers → Counters
left_by row = row.left

abbrev pub next_in : AddressNext → Counters
next_in next = next.next

-- private: a list says of each address what the last of these nights that knows it left
abbrev pub AreLeft : (nights : List NightEntry) → List AddressNext → Type 0
AreLeft nights list = (address : List ℕ) → option_map next_in (next_of address list) ≡ left_of (last_known address nights)

-- private: these are the sets that nights delivered
abbrev pub AreDelivered : (nights : List NightEntry) → List AgainSet → Type 0
AreDelivered nights sets = (key : List ℕ) → contains_text (map key_of sets) key ≡ contains_text (keys_of nights) key
