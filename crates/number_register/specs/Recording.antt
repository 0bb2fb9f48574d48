-- X12.5, interchange control number (ISA13), and X12.6, group and set control numbers (GS06, ST02): which places of a settled index were
-- recorded, and the first use of a place's number (own).
use Rattle.std.specs.Prelude.{◌≡◌, ℕ, Bool, true, false, List, Option, Contains, MatchOption, if◌then◌else◌}
use Rattle.hub_kinds.specs.declared.place.Place.{Place}
use Rattle.work_core.specs.Core.{was_recorded}
use Rattle.number_register.specs.declared.fault.RecordFault.{RecordFault}
use Rattle.number_register.specs.declared.fault.RecordFault.TheVariants.{NoMemory, Already}
use Rattle.env_index.specs.Words.{IndexValue, Numbered, IsFirstUse, places_behind, places_of}

-- a settled index, and the places recorded, in the order of recording
pub record Recording : Type 0 where
  pub index : IndexValue
  pub recorded : List Place

-- each place of the index is recorded
abbrev pub IsFull : Recording → Type 0
IsFull r = (p : Place) → Contains (places_of r.index) p → was_recorded r.recorded p ≡ true

-- some place of the index isn't
abbrev pub IsShort : Recording → Type 0
IsShort r = (p : Place) × Contains (places_of r.index) p × (was_recorded r.recorded p ≡ false)

-- the places of the index with their numbers
abbrev pub numbered_in : IndexValue → List Numbered
numbered_in index = places_behind 1 index.entries

-- the first use of a place's number, where that is an earlier place
abbrev pub IsEarlierIn : IndexValue → Place → Option Place → Type 0
IsEarlierIn index p result =
    MatchOption result ((q : Place) → IsFirstUse (numbered_in index) p q → ⊥) (λ q. IsFirstUse (numbered_in index) p q)

-- a place is refused as recorded already exactly where it is
abbrev pub IsRefused : RecordFault → List Place → Place → Type 0
IsRefused NoMemory recorded p = was_recorded recorded p ≡ false
IsRefused Already recorded p = was_recorded recorded p ≡ true

-- a place, and whether it wasn't recorded before
pub record Note : Type 0 where
  pub place : Place
  pub fresh : Bool

-- what a record adds to a share
abbrev pub one_if : Bool → ℕ
one_if fresh = if fresh then 1 else 0
