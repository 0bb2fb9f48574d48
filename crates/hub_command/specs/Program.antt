-- The program's results (own): what is printed, and the status.
use Rattle.std.specs.Prelude.{◌≡◌, ◌⊎◌, ◌==◌, ◌||◌, ℕ, Bool, true, false, IsTrue, List, Option, Some, None, Result, Ok, Err, map, unwrap_or}
use Rattle.std.specs.Io.KnownBytes.{Appends}
use Rattle.clap.specs.Words.{Text}
use Rattle.program_frame.specs.Matching.{AsksForText}
use Rattle.hub_command.specs.Asked.{text_of}
use Rattle.hub_command.specs.CommandLine.{Request, RunRequest, give_up, hub_app, init, request_in, run}
use Rattle.hub_folder.specs.Intact.{AreIntactAt}
use Rattle.hub_command.specs.Lines.{cleared_text, given_up_text, init_text}
use Rattle.hub_folder.specs.Programs.{IsProgramLine}
use Rattle.hub_command.specs.Run.{IsMadeAt, IsThere, IsToldAgain, IsToldOf}
use Rattle.hub_command.specs.declared.command.Options.{Options}
use Rattle.hub_folder.specs.declared.failure.Failure.{Failure}
use Rattle.hub_night.specs.declared.night.Made.{Made}
use Rattle.hub_night.specs.declared.setting.Setting.{Setting}
use Rattle.hub_command.specs.declared.there.There.{There}
use Rattle.hub_folder.specs.declared.told.Told.{Told}

-- the statuses of the program
abbrev pub IsStatus : ℕ → Type 0
IsStatus n = IsTrue (n == 0 || (n == 1 || (n == 2 || (n == 3 || (n == 4 || (n == 5 || (n == 6 || (n == 75 || n == 78))))))))

-- what a night is called: its moment, if the arguments don't say it
abbrev pub name_of : Options → List ℕ
name_of options = unwrap_or (text_of options.name) options.at

abbrev pub called : RunRequest → List ℕ
called request = unwrap_or request.name request.at

-- the night of a hub that is asked for
pub record IsSettingOf (hub : Text) (request : RunRequest) (setting : Setting) : Type 0 where
  pub hub_is : setting.hub.now ≡ hub
  pub files_are : map (λ f. f.now) setting.files.now ≡ request.files
  pub again_are : map (λ f. f.now) setting.again.now ≡ request.again
  pub at_is : setting.at ≡ request.at
  pub name_is : setting.name.now ≡ called request
  pub workers_are : setting.sharing.workers ≡ request.workers
  pub piece_is : setting.sharing.piece ≡ request.piece
  pub program_is : IsProgramLine setting.program.now

-- it was made and kept, and all nights with it continue; or it was there
abbrev pub IsMadeOrThere : Setting → Told → Type 0
IsMadeOrThere setting told =
    ((made : Made) × IsMadeAt setting made × IsToldOf setting made told)
    ⊎ ((there : There) × IsThere setting there × IsToldAgain setting there told)

pub record IsNightRun (hub : Text) (request : RunRequest) (told : Told) : Type 0 where
  pub setting : Setting
  pub setting_is : IsSettingOf hub request setting
  pub intact : AreIntactAt hub
  pub done : IsMadeOrThere setting told

-- what was under way is removed; with `--not-sent` the last night is moved aside
abbrev pub IsGivenUp : (hub : Text) → (not_sent : Bool) → Told → Type 0
IsGivenUp hub false told = told.text.items ≡ cleared_text hub
IsGivenUp hub true told = (name : List ℕ) × (told.text.items ≡ given_up_text hub name)

-- what was done
abbrev pub IsDone : Request → Told → Type 0
IsDone (init hub) told = told.text.items ≡ init_text hub
IsDone (run hub request) told = IsNightRun hub request told
IsDone (give_up hub not_sent) told = IsGivenUp hub not_sent told

-- the lines are printed, and the status is theirs
pub record IsPrinted (told : Told) (status : ℕ) (was is : Option (List ℕ)) : Type 0 where
  pub printed : Appends was is told.text.items
  pub own_status : status ≡ told.status

abbrev pub IsTold : Result Told Failure → (status : ℕ) → (was is : Option (List ℕ)) → Type 0
IsTold (Ok told) status was is = IsPrinted told status was is
IsTold (Err failure) status was is = ⊥

-- a text was shown that the arguments ask for
pub record IsShownText (words : List Text) (status : ℕ) (was is : Option (List ℕ)) : Type 0 where
  pub asked : AsksForText hub_app words
  pub text : List ℕ
  pub printed : Appends was is text
  pub own_status : status ≡ 0

-- what the arguments ask for was done, and its lines are printed
pub record IsDoneAndTold (words : List Text) (status : ℕ) (was is : Option (List ℕ)) : Type 0 where
  pub request : Request
  pub asked : request_in words ≡ Some request
  pub told : Told
  pub done : IsDone request told
  pub printed : IsPrinted told status was is

abbrev pub IsRun : (words : List Text) → (status : ℕ) → (was is : Option (List ℕ)) → Type 0
IsRun words status was is = IsDoneAndTold words status was is ⊎ IsShownText words status was is
