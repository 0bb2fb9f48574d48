-- The files of a hub (own), by their paths in its folder: the setup, the guides, and the first counters, which may be absent.
use Rattle.std.specs.Prelude.{◌≡◌, ℕ, Bool, not, ◌&&◌, ⊤, List, Option, Some, None, codes, eqb, filter}
use Rattle.std.specs.List.{AllZip, ends_with}
use Rattle.system_io.specs.Outbox.{path_in}
use Rattle.night_folder.specs.Files.{FileValue, FolderValue}
use Rattle.night_folder.specs.Marks.{IsAbsent, is_hidden}
use Rattle.night_shelf.specs.declared.night.NightFile.{NightFile}
use Rattle.hub_folder.specs.declared.papers.HubPapers.{HubPapers}

-- a file of guides/ is a guide by its name
abbrev pub is_guide : (name : List ℕ) → Bool
is_guide name = ends_with eqb name (codes ".toml") && not (is_hidden name)

-- a guide that was read, of the folder of guides
pub record IsGuideAt (guides name : List ℕ) (guide : NightFile) : Type 0 where
  pub file : FileValue
  pub path_is : file.path ≡ path_in guides name
  pub name_is : guide.name ≡ name
  pub bytes_are : file.bytes ≡ Some guide.bytes

-- the folder of guides was listed, and these are its guides
pub record AreGuidesAt (guides : List ℕ) (files : List NightFile) : Type 0 where
  pub folder : FolderValue
  pub path_is : folder.path ≡ guides
  pub names : List (List ℕ)
  pub listed : folder.names ≡ Some names
  pub read_by : AllZip (IsGuideAt guides) (filter is_guide names) files

-- a file that was read, or the system said that nothing is there
abbrev pub IsReadOrAbsent : (path : List ℕ) → Option (List ℕ) → Type 0
IsReadOrAbsent path None = IsAbsent path
IsReadOrAbsent path (Some bytes) = ⊤

-- a file that was read
abbrev pub IsReadFile : Option (List ℕ) → Type 0
IsReadFile None = ⊥
IsReadFile (Some bytes) = ⊤

-- the files of the hub in a folder
pub record ArePapersAt (hub : List ℕ) (papers : HubPapers) : Type 0 where
  pub setup_at : papers.setup.path ≡ path_in hub (codes "setup.toml")
  pub setup_read : IsReadFile papers.setup.bytes
  pub guides : AreGuidesAt (path_in hub (codes "guides")) papers.guides
  pub first_at : papers.first.path ≡ path_in hub (codes "counters.toml")
  pub first_read : IsReadOrAbsent papers.first.path papers.first.bytes
