-- The program's results for `archive` (own): what is printed, and the status.
use Rattle.std.specs.Prelude.{◌≡◌, ◌⊎◌, ◌==◌, ◌||◌, ℕ, Bool, IsTrue, List, Option, Some, Result, Ok, Err}
use Rattle.std.specs.Io.KnownBytes.{Appends}
use Rattle.clap.specs.Words.{Text}
use Rattle.night_shelf.specs.Shelf.{Place}
use Rattle.program_frame.specs.Matching.{AsksForText}
use Rattle.hub_folder.specs.declared.told.Told.{Told}
use Rattle.hub_folder.specs.Intact.{AreIntactAt}
use Rattle.hub_archive.specs.Archive.{IsDone}
use Rattle.hub_archive.specs.CommandLine.{Request, archive_app, request_in}
use Rattle.hub_archive.specs.Lines.{archived_text, none_text}
use Rattle.hub_archive.specs.declared.archiving.Archiving.{Archiving}
use Rattle.hub_archive.specs.declared.refusal.Refusal.{Refusal}

-- the statuses of the program
abbrev pub IsStatus : ℕ → Type 0
IsStatus n = IsTrue (n == 0 || (n == 2 || (n == 3 || (n == 4 || (n == 5 || (n == 6 || (n == 75 || n == 78)))))))

-- what is to be archived
pub record IsArchivingOf (request : Request) (archiving : Archiving) : Type 0 where
  pub hub_is : archiving.hub.now ≡ request.hub
  pub keep_is : archiving.keep ≡ request.keep

-- what is printed: that nights are archived, or that there are no more than are kept
abbrev pub IsToldOf : Request → Told → Type 0
IsToldOf request told =
    ((count : ℕ) × (told.text.items ≡ archived_text request.hub count)) ⊎ (told.text.items ≡ none_text request.hub request.keep)

-- the archive that is asked for is kept, or the hub has no more nights than are left
pub record AreKept (request : Request) (is_kept : Bool) : Type 0 where
  pub archiving : Archiving
  pub archiving_is : IsArchivingOf request archiving
  pub old : Option Place
  pub new : Option Place
  pub done : IsDone archiving old new is_kept

-- the nights are archived that are asked for, and the line says so
pub record AreArchived (request : Request) (told : Told) : Type 0 where
  pub is_kept : Bool
  pub kept : AreKept request is_kept
  pub told_is : IsToldOf request told

-- what is asked for was done to a hub whose nights were intact
pub record IsArchivedHub (request : Request) (told : Told) : Type 0 where
  pub intact : AreIntactAt request.hub
  pub archived : AreArchived request told

-- what the arguments ask for was done, and its line is printed
pub record IsDoneAndTold (words : List Text) (was is : Option (List ℕ)) : Type 0 where
  pub request : Request
  pub asked : request_in words ≡ Some request
  pub told : Told
  pub done : IsArchivedHub request told
  pub printed : Appends was is told.text.items

-- a text was shown that the arguments ask for
pub record IsShownText (words : List Text) (was is : Option (List ℕ)) : Type 0 where
  pub asked : AsksForText archive_app words
  pub text : List ℕ
  pub printed : Appends was is text

-- what the arguments ask for was done and printed
abbrev pub IsRun : (words : List Text) → (was is : Option (List ℕ)) → Type 0
IsRun words was is = IsDoneAndTold words was is ⊎ IsShownText words was is

-- Private. The line is printed.
abbrev pub IsTold : Result Told Refusal → (was is : Option (List ℕ)) → Type 0
IsTold (Ok told) was is = Appends was is told.text.items
IsTold (Err refusal) was is = ⊥
