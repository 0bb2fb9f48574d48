-- Nights that are archived are kept as one entry (own): what it says of them is what a later night asks. The newest night comes first.
use Rattle.std.specs.Prelude.{◌≡◌, ◌↔◌, ⊤, ℕ, List, [], ◌∷◌, ◌++◌, Option, option_map}
use Rattle.std.specs.List.{AllByRecursion}
use Rattle.hub_kinds.specs.declared.counters.Counters.{Counters}
use Rattle.hub_kinds.specs.Words.{contains_text}
use Rattle.hub_ledger.specs.declared.entry.AddressNumbers.{AddressNumbers}
use Rattle.hub_ledger.specs.declared.entry.NightEntry.{NightEntry}
use Rattle.hub_ledger.specs.Entries.{GoOn, KnownRow, keys_of, last_known, row_of}

-- the numbers that the last night which knows an address left it
abbrev pub left_of : Option KnownRow → Option Counters
left_of known = option_map (λ (k : KnownRow). k.row.left) known

-- the numbers that a row leaves
abbrev pub left_in : Option AddressNumbers → Option Counters
left_in row = option_map (λ (r : AddressNumbers). r.left) row

-- a row of an address that is sent nothing
abbrev pub IsIdle : AddressNumbers → Type 0
IsIdle row = row.begun ≡ row.left

-- an entry has the name and the moment of the newest night
abbrev pub IsNamedAsNewest : List NightEntry → NightEntry → Type 0
IsNamedAsNewest [] entry = ⊤
IsNamedAsNewest (night ∷ older) entry = (entry.name ≡ night.name) × (entry.moment ≡ night.moment)

-- the entry of nights that are archived: it has each set that they delivered, and where each address was left; it asks for no set again,
-- sends nothing, and has no files
pub record IsArchiveOf (nights : List NightEntry) (entry : NightEntry) : Type 0 where
  pub named : IsNamedAsNewest nights entry
  pub delivered : (key : List ℕ) → contains_text entry.delivered key ≡ contains_text (keys_of nights) key
  pub left : (address : List ℕ) → left_in (row_of address entry.addresses) ≡ left_of (last_known address nights)
  pub idle : AllByRecursion IsIdle entry.addresses
  pub again : entry.again ≡ []
  pub files : entry.files ≡ []

-- nights after those that are archived continue exactly if they continue after the entry of these: nothing is forgotten, nothing is added
abbrev pub ArchiveGoesOn : Type 0
ArchiveGoesOn = (newer nights : List NightEntry) (entry : NightEntry) → IsArchiveOf nights entry → GoOn nights
    → GoOn (newer ++ nights) ↔ GoOn (newer ++ entry ∷ [])
