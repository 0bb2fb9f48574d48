-- How the guides of a hub differ from those of a night (own): what is said of each guide that is new, gone or changed.
use Rattle.std.specs.Prelude.{◌≡◌, ◌⊎◌, ℕ, List, [], ◌∷◌, ◌++◌, Option, None, Some, codes}
use Rattle.check_command.specs.SetupFiles.{IsGuideRefused}
use Rattle.check_command.specs.declared.judged.Judged.{Judged}
use Rattle.check_command.specs.declared.judged.Judged.TheVariants as judged
use Rattle.diff_report.specs.Compared.{IsCompared}
use Rattle.file_names.specs.Shown.{shown}
use Rattle.guide_toml.specs.FileBytes.{IsGuideOf}
use Rattle.guide_tree.specs.declared.rows.GuideRows.{GuideRows}
use Rattle.system_io.specs.Outbox.{path_in}
use Rattle.night_folder.specs.Files.{FileValue, FolderValue}
use Rattle.night_shelf.specs.declared.night.NightFile.{NightFile}

-- a guide, by the name of its file
abbrev pub guide_said : (name said : List ℕ) → List ℕ
guide_said name said = codes "guide " ++ (shown name ++ said)

abbrev pub new_line : (name : List ℕ) → List ℕ
new_line name = guide_said name (codes " is new\n")

abbrev pub gone_line : (name : List ℕ) → List ℕ
gone_line name = guide_said name (codes " is gone\n")

abbrev pub changed_lines : (name lines : List ℕ) → List ℕ
changed_lines name lines = guide_said name (codes " has changed:\n" ++ lines)

abbrev pub unread_line : (name words : List ℕ) → List ℕ
unread_line name words = guide_said name (codes " has changed, and can't be compared: " ++ (shown words ++ codes "\n"))

-- what two guides whose files have one name say otherwise
pub record IsComparedAs (name : List ℕ) (old new : GuideRows) (text : List ℕ) : Type 0 where
  pub lines : List ℕ
  pub status : ℕ
  pub compared : IsCompared old new lines status
  pub text_is : text ≡ changed_lines name lines

-- what bytes are judged as (private)
abbrev pub IsJudgedAs : (bytes : List ℕ) → Judged GuideRows → Type 0
IsJudgedAs bytes (judged.Taken guide) = IsGuideOf (Some bytes) guide
IsJudgedAs bytes (judged.Refused words) = IsGuideRefused (Some bytes) words

-- A file had these bytes and has others. If both are guides, the lines say how they differ.
pub data HasChanged (name was now text : List ℕ) : Type 0 where
  Same : was ≡ now → text ≡ [] → HasChanged name was now text
  Compared : (old new : GuideRows) → IsGuideOf (Some was) old → IsGuideOf (Some now) new → IsComparedAs name old new text
      → HasChanged name was now text
  Unread : (words : List ℕ) → IsGuideRefused (Some was) words ⊎ IsGuideRefused (Some now) words → text ≡ unread_line name words
      → HasChanged name was now text

-- a guide of the hub, of which the night had a file, or none that can be read
abbrev pub IsChange : (name : List ℕ) → (was : Option (List ℕ)) → (now text : List ℕ) → Type 0
IsChange name None now text = text ≡ new_line name
IsChange name (Some was) now text = HasChanged name was now text

-- a guide of the hub, against the file of its name in the night's folder of guides
pub record IsChangeAt (before : List ℕ) (guide : NightFile) (text : List ℕ) : Type 0 where
  pub file : FileValue
  pub path_is : file.path ≡ path_in before guide.name
  pub change : IsChange guide.name file.bytes guide.bytes text

-- the guides of the hub, each in its turn
abbrev pub AreChangesOf : (before : List ℕ) → List NightFile → (text : List ℕ) → Type 0
AreChangesOf before [] text = text ≡ []
AreChangesOf before (f ∷ fs) text =
    (first : List ℕ) × (rest : List ℕ) × IsChangeAt before f first × AreChangesOf before fs rest × (text ≡ first ++ rest)

-- a guide of the night: it is gone if the hub has none of its name that can be read
abbrev pub gone_text : (name : List ℕ) → Option (List ℕ) → List ℕ
gone_text name None = gone_line name
gone_text name (Some bytes) = []

pub record IsGoneAt (guides name text : List ℕ) : Type 0 where
  pub file : FileValue
  pub path_is : file.path ≡ path_in guides name
  pub text_is : text ≡ gone_text name file.bytes

-- the guides of the night, each in its turn
abbrev pub AreGoneOf : (guides : List ℕ) → (names : List (List ℕ)) → (text : List ℕ) → Type 0
AreGoneOf guides [] text = text ≡ []
AreGoneOf guides (n ∷ ns) text =
    (first : List ℕ) × (rest : List ℕ) × IsGoneAt guides n first × AreGoneOf guides ns rest × (text ≡ first ++ rest)

-- the names in a folder; none if it can't be listed
abbrev pub names_or_none : Option (List (List ℕ)) → List (List ℕ)
names_or_none None = []
names_or_none (Some names) = names

-- what is said of the guides of a hub, in the folder `guides`, against those of a night, in the folder `before`
pub record AreChanges (before guides : List ℕ) (files : List NightFile) (text : List ℕ) : Type 0 where
  pub changed : List ℕ
  pub changed_are : AreChangesOf before files changed
  pub folder : FolderValue
  pub folder_is : folder.path ≡ before
  pub gone : List ℕ
  pub gone_are : AreGoneOf guides (names_or_none folder.names) gone
  pub text_is : text ≡ changed ++ gone
