-- Rows with their addresses (own; no public clause cites these).
use Rattle.std.specs.Prelude.{◌≡◌, ℕ, List, map}
use Rattle.std.specs.List.{All}
use Rattle.hub_kinds.specs.Rising.{IsRisingBy}
use Rattle.night_record.specs.Tables.{address_of}
use Rattle.night_record.specs.declared.addresses.AddressNext.{AddressNext}
use Rattle.kept_files.specs.Addresses.{next_of}
use Rattle.kept_files.specs.declared.addresses.Addressed.{Addressed}

abbrev pub entry_of : AddressNext → Addressed
entry_of row = record { address = address_of row; row = row }

abbrev pub address_in : Addressed → List ℕ
address_in entry = entry.address

abbrev pub row_in : Addressed → AddressNext
row_in entry = entry.row

-- an entry has the address of its row
abbrev pub HasOwnAddress : Addressed → Type 0
HasOwnAddress entry = entry.address ≡ address_of entry.row

-- entries in the order of their addresses, which say of each address what the rows say
pub record AreNewest (rows : List AddressNext) (entries : List Addressed) : Type 0 where
  pub rising : IsRisingBy address_in entries
  pub own : All HasOwnAddress entries
  pub each : (address : List ℕ) → next_of address (map row_in entries) ≡ next_of address rows
