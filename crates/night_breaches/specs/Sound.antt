-- Nights that are sound (own): each continues from those before it, and its files and its moment are what they must be.
use Rattle.std.specs.Prelude.{◌≡◌, ◌≢◌, ℕ, true, false, List, [], ◌∷◌, IfSome, reverse}
use Rattle.std.specs.List.{AllByRecursion}
use Rattle.hub_ledger.specs.declared.entry.FileSum.{FileSum}
use Rattle.hub_ledger.specs.declared.entry.NightEntry.{NightEntry}
use Rattle.hub_ledger.specs.Entries.{GoOn, GoesOn}
use Rattle.night_breaches.specs.Breaches.{is_before, newest}

-- a file that the night gives, that is listed, and that has the sum that is listed
pub record IsAsListed (file : FileSum) : Type 0 where
  pub given : file.is_given ≡ true
  pub listed : file.listed ≢ []
  pub same : file.listed ≡ file.sum

-- a night after older ones, the newest of which comes first
pub record IsSound (limit : List ℕ) (older : List NightEntry) (night : NightEntry) : Type 0 where
  pub goes_on : GoesOn older night
  pub files : AllByRecursion IsAsListed night.files
  pub not_back : IfSome (newest older) (λ before. is_before night.moment before.moment ≡ false)
  pub not_late : is_before limit night.moment ≡ false

-- nights one after another, after older ones
abbrev pub AreSound : (limit : List ℕ) → (older : List NightEntry) → List NightEntry → Type 0
AreSound limit older [] = Unit {0}
AreSound limit older (night ∷ nights) = IsSound limit older night × AreSound limit (night ∷ older) nights

-- sound nights continue
abbrev pub SoundNightsGoOn : Type 0
SoundNightsGoOn = (limit : List ℕ) (nights : List NightEntry) → AreSound limit [] nights → GoOn (reverse nights)
