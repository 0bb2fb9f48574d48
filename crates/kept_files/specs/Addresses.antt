-- The numbers that come next for each address, after a night (X12.5, ISA13; X12.6, GS06 and ST02; own).
use Rattle.std.specs.Prelude.{◌≡◌, ⊤, ℕ, true, false, List, [], ◌∷◌, Option, Some, None, if◌then◌else◌}
use Rattle.std.specs.Option.{option_or}
use Rattle.std.specs.Str.{bytes_eq}
use Rattle.night_record.specs.Tables.{address_of, are_addresses, can_count}
use Rattle.night_record.specs.declared.addresses.AddressNext.{AddressNext}
use Rattle.night_record.specs.declared.fault.TableFault.{TableFault}
use Rattle.night_record.specs.declared.fault.TableFault.TheVariants as fault

-- what a list says of an address; the last row counts, and no table has two
abbrev pub next_of : (address : List ℕ) → List AddressNext → Option AddressNext
next_of address [] = None
next_of address (row ∷ rows) = option_or (next_of address rows) (if bytes_eq (address_of row) address then Some row else None)

-- what is known of an address after tonight
abbrev pub known_of : (address : List ℕ) → (older tonight : List AddressNext) → Option AddressNext
known_of address older tonight = option_or (next_of address tonight) (next_of address older)

-- a list is a table, and says of each address what is known of it
pub record IsNextOf (older tonight list : List AddressNext) : Type 0 where
  pub table : are_addresses list ≡ true
  pub each : (address : List ℕ) → next_of address list ≡ known_of address older tonight

-- what is known of some address has a number that can't be
pub record HasBadNumbers (older tonight : List AddressNext) : Type 0 where
  pub address : List ℕ
  pub row : AddressNext
  pub known : known_of address older tonight ≡ Some row
  pub numbers : can_count row ≡ false

-- why there isn't such a table
abbrev pub IsNextFault : (older tonight : List AddressNext) → TableFault → Type 0
IsNextFault older tonight fault.Memory = ⊤
IsNextFault older tonight fault.Columns = ⊥
IsNextFault older tonight fault.Rows = HasBadNumbers older tonight
IsNextFault older tonight fault.Order = ⊥
