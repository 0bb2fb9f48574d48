-- X12.5, interchange control number, and X12.6, group and set control numbers: whether an earlier place has a place's number (own).
use Rattle.std.specs.Prelude.{◌≡◌, ◌↔◌, ◌≤◌, ◌-◌, ℕ, Bool, true, false, List, Option, Some, None, is_some, slice_get}
use Rattle.hub_kinds.specs.declared.interchange.InterchangeFault.{InterchangeFault}
use Rattle.hub_kinds.specs.declared.place.Place.{Place}
use Rattle.env_index.specs.Words.{IndexValue, IsFirstUse}
use Rattle.number_register.specs.Recording.{numbered_in}

-- reported exactly where the first use of the place's number is an earlier place of the index
abbrev pub IsTold : IndexValue → Place → Bool → Type 0
IsTold index place earlier = (earlier ≡ true) ↔ ((q : Place) × IsFirstUse (numbered_in index) place q)

abbrev pub has_some : Option (Option InterchangeFault) → Bool
has_some None = false
has_some (Some fault) = is_some fault

-- an interchange, counted from 1, has a fault
abbrev pub has_fault : List (Option InterchangeFault) → (isa : ℕ) → Bool
has_fault faults isa = has_some (slice_get faults (isa - 1))

-- at the place of an interchange it is answered by the fault 9, at that of a group or a set by the first use of the number
pub record IsToldBy (index : IndexValue) (faults : List (Option InterchangeFault)) (place : Place) (earlier : Bool) : Type 0 where
  pub interchange : place.gs ≡ 0 → earlier ≡ has_fault faults place.isa
  pub within : 1 ≤ place.gs → IsTold index place earlier
