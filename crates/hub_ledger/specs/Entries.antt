-- What a hub keeps of its nights, and when a night continues from those before it (own). The newest night comes first.
use Rattle.std.specs.Prelude.{◌≡◌, ℕ, true, false, not, List, [], ◌∷◌, Option, Some, None, IfSome, filter, if◌then◌else◌}
use Rattle.std.specs.List.{AllByRecursion, flat_map}
use Rattle.std.specs.Option.{option_or}
use Rattle.std.specs.Str.{bytes_eq}
use Rattle.hub_kinds.specs.Words.{contains_text}
use Rattle.hub_ledger.specs.declared.entry.AddressNumbers.{AddressNumbers}
use Rattle.hub_ledger.specs.declared.entry.NightEntry.{NightEntry}

-- the keys of the sets that nights delivered
abbrev pub keys_of : List NightEntry → List (List ℕ)
keys_of nights = flat_map (λ (night : NightEntry). night.delivered) nights

-- the row of an address; no setup has two
abbrev pub row_of : (address : List ℕ) → List AddressNumbers → Option AddressNumbers
row_of address [] = None
row_of address (row ∷ rows) = option_or (row_of address rows) (if bytes_eq row.address address then Some row else None)

-- a row with its night
pub record KnownRow : Type 0 where
  pub night : NightEntry
  pub row : AddressNumbers

abbrev pub known_row : NightEntry → Option AddressNumbers → Option KnownRow
known_row night None = None
known_row night (Some row) = Some (record { night = night; row = row })

-- what the newest night that knows an address has of it
abbrev pub last_known : (address : List ℕ) → List NightEntry → Option KnownRow
last_known address [] = None
last_known address (night ∷ older) = option_or (known_row night (row_of address night.addresses)) (last_known address older)

-- the numbers of an address begin where the last night that knows it left them, whatever its partner was called then
abbrev pub BeginsWhereLeft : List NightEntry → AddressNumbers → Type 0
BeginsWhereLeft older row = IfSome (last_known row.address older) (λ known. row.begun ≡ known.row.left)

-- the keys of the sets that a night delivered, without those that it was asked for again
abbrev pub fresh_keys : NightEntry → List (List ℕ)
fresh_keys night = filter (λ key. not (contains_text night.again key)) night.delivered

-- a night delivers no set that older ones delivered, but those that it was asked for again
abbrev pub IsApart : List NightEntry → NightEntry → Type 0
IsApart older night = (key : List ℕ) → contains_text (fresh_keys night) key ≡ true → contains_text (keys_of older) key ≡ false

-- a night continues from older ones
pub record GoesOn (older : List NightEntry) (night : NightEntry) : Type 0 where
  -- no set goes to a receiver that had it, but one that was asked for again
  pub keys : IsApart older night
  -- each address is numbered from where it was
  pub numbers : AllByRecursion (BeginsWhereLeft older) night.addresses

-- each night continues from those before it
abbrev pub GoOn : List NightEntry → Type 0
GoOn [] = Unit {0}
GoOn (night ∷ older) = GoesOn older night × GoOn older

-- no key is delivered on two nights, but one that the later night was asked for again
abbrev pub AreApart : List NightEntry → Type 0
AreApart [] = Unit {0}
AreApart (night ∷ older) = IsApart older night × AreApart older

-- no key is delivered on two nights
abbrev pub IsNew : List NightEntry → NightEntry → Type 0
IsNew older night = (key : List ℕ) → contains_text night.delivered key ≡ true → contains_text (keys_of older) key ≡ false

abbrev pub AreNew : List NightEntry → Type 0
AreNew [] = Unit {0}
AreNew (night ∷ older) = IsNew older night × AreNew older
