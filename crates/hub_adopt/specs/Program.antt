-- The program's results for `adopt` (own): what is printed, and the status.
use Rattle.std.specs.Prelude.{◌≡◌, ◌⊎◌, ◌==◌, ◌||◌, ℕ, IsTrue, List, Option, Some, Result, Ok, Err}
use Rattle.std.specs.Io.KnownBytes.{Appends}
use Rattle.clap.specs.Words.{Text}
use Rattle.night_shelf.specs.Shelf.{Place}
use Rattle.program_frame.specs.Matching.{AsksForText}
use Rattle.hub_folder.specs.Intact.{AreIntactAt}
use Rattle.hub_folder.specs.Programs.{IsProgramLine}
use Rattle.hub_folder.specs.declared.told.Told.{Told}
use Rattle.hub_adopt.specs.Adopt.{IsDone}
use Rattle.hub_adopt.specs.CommandLine.{Request, adopt_app, request_in}
use Rattle.hub_adopt.specs.declared.adoption.Adoption.{Adoption}
use Rattle.hub_adopt.specs.declared.refusal.Refusal.{Refusal}

-- the statuses of the program
abbrev pub IsStatus : ℕ → Type 0
IsStatus n = IsTrue (n == 0 || (n == 2 || (n == 3 || (n == 4 || (n == 5 || (n == 6 || (n == 75 || n == 78)))))))

-- the adoption that is asked for
pub record IsAdoptionOf (request : Request) (adoption : Adoption) : Type 0 where
  pub hub_is : adoption.hub.now ≡ request.hub
  pub nights_are : adoption.nights.now ≡ request.nights
  pub workers_are : adoption.sharing.workers ≡ request.workers
  pub piece_is : adoption.sharing.piece ≡ request.piece
  pub program_is : IsProgramLine adoption.program.now

-- each old night is made a night of the hub
pub record AreMadeNights (request : Request) (told : Told) : Type 0 where
  pub adoption : Adoption
  pub adoption_is : IsAdoptionOf request adoption
  pub old : Option Place
  pub new : Option Place
  pub done : IsDone adoption old new told

-- each old night is a night of the hub, whose own nights were intact
pub record AreNightsOfHub (request : Request) (told : Told) : Type 0 where
  pub intact : AreIntactAt request.hub
  pub made : AreMadeNights request told

-- the old nights that the arguments ask for are nights of the hub, and their lines are printed
pub record IsDoneAndTold (words : List Text) (was is : Option (List ℕ)) : Type 0 where
  pub request : Request
  pub asked : request_in words ≡ Some request
  pub told : Told
  pub done : AreNightsOfHub request told
  pub printed : Appends was is told.text.items

-- a text was shown that the arguments ask for
pub record IsShownText (words : List Text) (was is : Option (List ℕ)) : Type 0 where
  pub asked : AsksForText adopt_app words
  pub text : List ℕ
  pub printed : Appends was is text

-- what the arguments ask for was done and printed
abbrev pub IsRun : (words : List Text) → (was is : Option (List ℕ)) → Type 0
IsRun words was is = IsDoneAndTold words was is ⊎ IsShownText words was is

-- Private. The lines are printed.
abbrev pub IsTold : Result Told Refusal → (was is : Option (List ℕ)) → Type 0
IsTold (Ok told) was is = Appends was is told.text.items
IsTold (Err refusal) was is = ⊥
