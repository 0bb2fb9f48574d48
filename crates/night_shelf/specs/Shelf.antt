-- A folder of nights (own): which nights have their names, what lies in the folder of tonight, and what a stop leaves. A stop is the end of
-- the program, or of the host, at any moment.
use Rattle.std.specs.Prelude.{◌≡◌, ◌⊎◌, ⊤, ℕ, Bool, Contains, List, [], ◌∷◌, ◌++◌, Option, Some, None, IsTrue}
use Rattle.night_shelf.specs.declared.night.KeptNight.{KeptNight}
use Rattle.night_shelf.specs.declared.night.NightFile.{NightFile}

-- a place for nights
pub record Place : Type 0 where
  -- the nights that have their names, the oldest first
  pub named : List KeptNight
  -- the files that were put into the folder of tonight, in their order
  pub tonight : List NightFile
  -- whether all of that folder is on the disk
  pub is_on_disk : Bool
  -- the nights of which one is left by a stop at this moment
  pub left : List (List KeptNight)

-- what a call does to a place, if the place is known
abbrev pub Changes : (Place → Place → Type 0) → (old new : Option Place) → Type 0
Changes change None new = ⊤
Changes change (Some old) None = ⊥
Changes change (Some old) (Some new) = change old new

-- a stop leaves nothing that it wouldn't have left before
abbrev pub LeavesNoMore : Place → Place → Type 0
LeavesNoMore old new = (nights : List KeptNight) → Contains new.left nights → Contains old.left nights

-- the nights are as they were
pub record KeepsNights (old new : Place) : Type 0 where
  pub named : new.named ≡ old.named
  pub left : LeavesNoMore old new

-- the folder of tonight is there, and empty
pub record IsMade (old new : Place) : Type 0 where
  pub nights : KeepsNights old new
  pub tonight : new.tonight ≡ []

-- a file is in it, after those that were there
pub record IsPut (file : NightFile) (old new : Place) : Type 0 where
  pub nights : KeepsNights old new
  pub tonight : new.tonight ≡ old.tonight ++ file ∷ []

-- all of it is on the disk
pub record IsSynced (old new : Place) : Type 0 where
  pub nights : KeepsNights old new
  pub tonight : new.tonight ≡ old.tonight
  pub on_disk : IsTrue new.is_on_disk

-- the night that tonight becomes
abbrev pub night_of : (name : List ℕ) → Place → KeptNight
night_of name place = record { name = name; files = place.tonight }

-- A stop leaves what it would have left before, or the nights with this one. Of a folder that isn't on the disk nothing is said: a stop may
-- leave it under its new name without its files.
abbrev pub MayLeave : (night : KeptNight) → Place → Place → Type 0
MayLeave night old new =
    (nights : List KeptNight) → Contains new.left nights → Contains old.left nights ⊎ (nights ≡ old.named ++ night ∷ [])

abbrev pub MayName : (name : List ℕ) → Place → Place → Type 0
MayName name old new = IsTrue old.is_on_disk → MayLeave (night_of name old) old new

-- tonight has its name
pub record IsNamed (name : List ℕ) (old new : Place) : Type 0 where
  pub named : new.named ≡ old.named ++ night_of name old ∷ []
  pub left : MayName name old new

-- a stop leaves the nights that have their names, and no others
pub record IsSettled (old new : Place) : Type 0 where
  pub named : new.named ≡ old.named
  pub left : (nights : List KeptNight) → Contains new.left nights → nights ≡ old.named

-- the night is kept: it has its name, and whatever stops from then on, the nights before it and it are left, each whole
pub record IsKept (night : KeptNight) (old new : Place) : Type 0 where
  pub named : new.named ≡ old.named ++ night ∷ []
  pub left : (nights : List KeptNight) → Contains new.left nights → nights ≡ old.named ++ night ∷ []

-- files are in the folder of tonight, after those that were there
pub record ArePut (files : List NightFile) (old new : Place) : Type 0 where
  pub nights : KeepsNights old new
  pub tonight : new.tonight ≡ old.tonight ++ files

-- the folder of tonight has just these files, and all of it is on the disk
pub record IsLaid (files : List NightFile) (old new : Place) : Type 0 where
  pub nights : KeepsNights old new
  pub tonight : new.tonight ≡ files
  pub on_disk : IsTrue new.is_on_disk

-- tonight has its name, and a stop leaves it under this name
pub record IsNamedOnDisk (name : List ℕ) (old new : Place) : Type 0 where
  pub named : new.named ≡ old.named ++ night_of name old ∷ []
  pub left : (nights : List KeptNight) → Contains new.left nights → nights ≡ old.named ++ night_of name old ∷ []
