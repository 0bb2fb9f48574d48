-- What a night gave (own): the files of its folder out/ and its total, by name and bytes.
use Rattle.std.specs.Prelude.{◌≡◌, ◌&&◌, ◌||◌, ℕ, Bool, eqb, List, [], ◌∷◌, ◌++◌, Some, codes, filter}
use Rattle.std.specs.List.{AllZip, starts_with}
use Rattle.std.specs.Str.{bytes_eq}
use Rattle.system_io.specs.Outbox.{path_in}
use Rattle.night_folder.specs.Files.{FileValue, FolderValue}
use Rattle.night_shelf.specs.declared.night.NightFile.{NightFile}

-- a file that was read under this name in a night's folder
pub record IsFileIn (folder name : List ℕ) (file : NightFile) : Type 0 where
  pub read : FileValue
  pub path_is : read.path ≡ path_in folder name
  pub name_is : file.name ≡ name
  pub bytes_are : read.bytes ≡ Some file.bytes

-- a file of the folder out/, which the night calls by this folder and its name
abbrev pub IsOutFile : (folder name : List ℕ) → NightFile → Type 0
IsOutFile folder name file = IsFileIn folder (codes "out/" ++ name) file

-- the folder out/ was listed, and these are its files, and the total after them
pub record AreGivenIn (folder : List ℕ) (files : List NightFile) : Type 0 where
  pub out : FolderValue
  pub out_at : out.path ≡ path_in folder (codes "out")
  pub names : List (List ℕ)
  pub listed : out.names ≡ Some names
  pub outs : List NightFile
  pub outs_are : AllZip (IsOutFile folder) names outs
  pub total : NightFile
  pub total_is : IsFileIn folder (codes "total") total
  pub files_are : files ≡ outs ++ total ∷ []

-- a night gives the files of out/, and the total
abbrev pub is_given : NightFile → Bool
is_given file = starts_with eqb file.name (codes "out/") || bytes_eq file.name (codes "total")

-- those of the files of a night's folder that it gives
abbrev pub given_in : List NightFile → List NightFile
given_in files = filter is_given files

-- private: two files have one name and the same bytes
abbrev pub is_same : NightFile → NightFile → Bool
is_same a b = bytes_eq a.name b.name && bytes_eq a.bytes b.bytes
