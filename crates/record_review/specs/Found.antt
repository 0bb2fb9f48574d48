-- The files that are found in a night's folder (own): their names there, and the sums of their bytes (FIPS 180-4, SHA-256).
use Rattle.std.specs.Prelude.{◌≡◌, ℕ, not, List, [], ◌∷◌, ◌++◌, Option, Some, None, codes, filter, map}
use Rattle.std.specs.List.{AllZip}
use Rattle.hub_kinds.specs.Words.{contains_text}
use Rattle.system_io.specs.Outbox.{path_in}
use Rattle.night_folder.specs.Files.{FileValue, FolderValue}
use Rattle.night_folder.specs.Nights.{sum_or_none}
use Rattle.night_record.specs.declared.record.SummedFile.{SummedFile}

-- the folders in a night's folder
abbrev pub folders : List (List ℕ)
folders = codes "from" ∷ codes "from/guides" ∷ codes "from/files" ∷ codes "out" ∷ []

-- the path of such a folder; the night's own is empty
abbrev pub folder_path : (night folder : List ℕ) → List ℕ
folder_path night [] = night
folder_path night (b ∷ bs) = path_in night (b ∷ bs)

-- a name in a folder, as it is in the night's folder
abbrev pub name_in : (folder name : List ℕ) → List ℕ
name_in [] name = name
name_in (b ∷ bs) name = path_in (b ∷ bs) name

-- the names of files among the names in a folder
abbrev pub file_names : (folder : List ℕ) → (names : List (List ℕ)) → List (List ℕ)
file_names folder names = filter (λ name. not (contains_text folders name)) (map (name_in folder) names)

abbrev pub names_or_none : Option (List (List ℕ)) → List (List ℕ)
names_or_none None = []
names_or_none (Some names) = names

-- the files in a folder, as it was listed; in a folder that can't be listed none is found
pub record AreNamesIn (night folder : List ℕ) (names : List (List ℕ)) : Type 0 where
  pub listing : FolderValue
  pub path_is : listing.path ≡ folder_path night folder
  pub names_are : names ≡ file_names folder (names_or_none listing.names)

-- the files in a night's folder, and in those in it
pub record AreNames (night : List ℕ) (names : List (List ℕ)) : Type 0 where
  pub beside : List (List ℕ)
  pub beside_are : AreNamesIn night [] beside
  pub from : List (List ℕ)
  pub from_are : AreNamesIn night (codes "from") from
  pub guides : List (List ℕ)
  pub guides_are : AreNamesIn night (codes "from/guides") guides
  pub given : List (List ℕ)
  pub given_are : AreNamesIn night (codes "from/files") given
  pub out : List (List ℕ)
  pub out_are : AreNamesIn night (codes "out") out
  pub names_are : names ≡ beside ++ (from ++ (guides ++ (given ++ out)))

-- the sum of such a file; one that can't be read has none
pub record IsSumOf (night name : List ℕ) (sum : SummedFile) : Type 0 where
  pub file : FileValue
  pub path_is : file.path ≡ path_in night name
  pub name_is : sum.name ≡ name
  pub sum_is : sum.sum ≡ sum_or_none file.bytes

-- the files that were found, with their sums
pub record AreFound (night : List ℕ) (found : List SummedFile) : Type 0 where
  pub names : List (List ℕ)
  pub names_are : AreNames night names
  pub sums : AllZip (IsSumOf night) names found
