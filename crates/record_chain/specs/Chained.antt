-- Nights that are chained (own): each has the next number, names the record before it, and has the files that its record lists.
use Rattle.std.specs.Prelude.{◌≡◌, ◌⊎◌, ⊤, ◌+◌, List, [], ◌∷◌, Option, Some, IsSome, true}
use Rattle.std.specs.List.{AllByRecursion}
use Rattle.hub_kinds.specs.Words.{contains_text}
use Rattle.night_record.specs.declared.record.SummedFile.{SummedFile}
use Rattle.record_chain.specs.Breaks.{beside, file_named, listed, number_of, sum_of}
use Rattle.record_chain.specs.declared.night.ReadNight.{ReadNight}

-- a file that is listed was found, and has the sum that is listed
pub record IsThere (found : List SummedFile) (file : SummedFile) : Type 0 where
  pub same : SummedFile
  pub found_is : file_named found file.name ≡ Some same
  pub sum : file.sum ≡ same.sum

-- a file that was found is listed, or says again what the record says
abbrev pub IsListed : (files : List SummedFile) → (file : SummedFile) → Type 0
IsListed files file = IsSome (file_named files file.name) ⊎ (contains_text beside file.name ≡ true)

-- a night after the one before it
pub record IsChained (before : Option ReadNight) (night : ReadNight) : Type 0 where
  pub number : night.record.number ≡ number_of before + 1
  pub before_is : night.record.before ≡ sum_of before
  pub there : AllByRecursion (IsThere night.found) (listed night.record)
  pub listed_each : AllByRecursion (IsListed (listed night.record)) night.found

abbrev pub AreChained : (before : Option ReadNight) → List ReadNight → Type 0
AreChained before [] = ⊤
AreChained before (night ∷ nights) = IsChained before night × AreChained (Some night) nights
