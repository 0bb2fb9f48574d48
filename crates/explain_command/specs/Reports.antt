-- The program's results (own): what is printed of the files that the arguments name, and the status.
use Rattle.std.specs.Prelude.{ℕ, ◌≡◌, ◌≢◌, ◌⊎◌, ◌==◌, ⊤, Bool, true, List, [], ◌∷◌, ◌++◌, codes, length, map, nat_lt}
use Rattle.std.specs.Prelude.{Option, None, Some, Result, Ok, Err, IsErr}
use Rattle.std.specs.Prelude.{is_none, option_map, if◌then◌else◌}
use Rattle.std.specs.List.{list_all}
use Rattle.std.specs.Io.KnownBytes.{Appends}
use Rattle.clap.specs.Words.{Text}
use Rattle.guide_names.specs.Names.{Words}
use Rattle.names_given.specs.Files.{AreRefused, AreWords}
use Rattle.program_frame.specs.Matching.{AsksForText}
use Rattle.explain_command.specs.CommandLine.{NamesFiles, explain_app, names_given}
use Rattle.file_names.specs.Shown.{shown}
use Rattle.explain_command.specs.Failure.{IsOfInput, line_in, line_of}
use Rattle.explain_command.specs.Outcome.{IsExplanationOf}
use Rattle.explain_command.specs.declared.explain.Account.{Account}
use Rattle.explain_command.specs.declared.failure.Failure.{Failure}
use Rattle.explain_command.specs.declared.failure.Failure.TheVariants as failure
use Rattle.explain_command.specs.declared.files.FileTold.{FileTold}
use Rattle.explain_command.specs.declared.files.Told.{Told}
use Rattle.explain_command.specs.declared.files.Told.TheVariants as told

-- a file that declared these bytes of itself, or none, is explained, or is refused for what it holds, or since it can't be read
abbrev pub IsTold : Words → (declared : Option (List ℕ)) → Told → Type 0
IsTold words declared (told.Explained a) = IsExplanationOf words declared a.lines.items a.cut
IsTold words declared (told.Refused f) = IsOfInput declared f × (f ≢ failure.Memory)

-- what explaining a file gave is what is reported of it; out of memory says nothing of the file
abbrev pub IsReported : {E : Type 0} → Result Account Failure → Result Told E → Type 0
IsReported (Ok a) result = result ≡ Ok (told.Explained a)
IsReported (Err f) result = (f ≡ failure.Memory → IsErr result) × (f ≢ failure.Memory → result ≡ Ok (told.Refused f))

abbrev pub AreTold : Words → List FileTold → Type 0
AreTold words [] = ⊤
AreTold words (f ∷ fs) = IsTold words None f.told × AreTold words fs

abbrev pub paths_of : List FileTold → List (List ℕ)
paths_of fs = map (λ (f : FileTold). f.path.now) fs

-- the lines on a file; one that is refused has none
abbrev pub own_lines : Told → List ℕ
own_lines (told.Explained a) = a.lines.items
own_lines (told.Refused f) = []

-- lines, each with a name in front; begins: a line begins here
abbrev pub named_lines : (name : List ℕ) → (begins : Bool) → (lines : List ℕ) → List ℕ
named_lines name begins [] = []
named_lines name begins (b ∷ bs) = (if begins then name ++ (b ∷ []) else b ∷ []) ++ named_lines name (b == 10) bs

-- a path, before what is said of its file
abbrev pub path_words : (path : List ℕ) → List ℕ
path_words path = shown path ++ codes ": "

-- of several files each line has its file's path in front
abbrev pub file_lines : (several : Bool) → FileTold → List ℕ
file_lines several f = if several then named_lines (path_words f.path.now) true (own_lines f.told) else own_lines f.told

abbrev pub lines_of : (several : Bool) → List FileTold → List ℕ
lines_of several [] = []
lines_of several (f ∷ fs) = file_lines several f ++ lines_of several fs

-- what a line on standard error says of a file: where it is cut off, or why it is refused
abbrev pub failure_of : Told → Option Failure
failure_of (told.Explained a) = option_map failure.CutOff a.cut
failure_of (told.Refused f) = Some f

-- the line of standard error on a file that is cut off or refused, of several files with its path
abbrev pub failure_line : (several : Bool) → (path : List ℕ) → Option Failure → List ℕ
failure_line several path None = []
failure_line several path (Some f) = if several then line_in path f else line_of f

abbrev pub file_failure : (several : Bool) → FileTold → List ℕ
file_failure several f = failure_line several f.path.now (failure_of f.told)

abbrev pub failure_lines : (several : Bool) → List FileTold → List ℕ
failure_lines several [] = []
failure_lines several (f ∷ fs) = file_failure several f ++ failure_lines several fs

-- 0 where each file is explained, and whole, else 4
abbrev pub are_whole : List FileTold → Bool
are_whole fs = list_all (λ f. is_none (failure_of f.told)) fs

abbrev pub status_of : List FileTold → ℕ
status_of fs = if are_whole fs then 0 else 4

abbrev pub are_several : {A : Type 0} → List A → Bool
are_several paths = nat_lt 1 (length paths)

-- a text is the lines on the files at these paths, another those on the files that are cut off or refused, and this is their status
pub record IsReport (words : Words) (paths : List (List ℕ)) (text failures : List ℕ) (status : ℕ) : Type 0 where
  pub told : List FileTold
  pub files : paths_of told ≡ paths
  pub is : AreTold words told
  pub lines : text ≡ lines_of (are_several paths) told
  pub refusals : failures ≡ failure_lines (are_several paths) told
  pub own_status : status ≡ status_of told

-- such a text is what was printed
pub record IsExplained (words : Words) (paths : List (List ℕ)) (status : ℕ) (was is : Option (List ℕ)) : Type 0 where
  pub text : List ℕ
  pub failures : List ℕ
  pub report : IsReport words paths text failures status
  pub printed : Appends was is text

-- a text was shown that the arguments ask for
pub record IsShownText (words : List Text) (status : ℕ) (was is : Option (List ℕ)) : Type 0 where
  pub asked : AsksForText explain_app words
  pub text : List ℕ
  pub printed : Appends was is text
  pub own_status : status ≡ 0

-- the files at these paths were explained, with the words of the names file at a path, if there is one
pub record IsNamedRun (names : Option (List ℕ)) (paths : List (List ℕ)) (status : ℕ) (was is : Option (List ℕ)) : Type 0 where
  pub words : Words
  pub are : AreWords names words
  pub explained : IsExplained words paths status was is

-- the files that the arguments name were explained, or such a text was shown
abbrev pub IsRun : (words : List Text) → (status : ℕ) → (was is : Option (List ℕ)) → Type 0
IsRun words status was is =
    ((paths : List (List ℕ)) × NamesFiles words paths × IsNamedRun (names_given words) paths status was is)
    ⊎ IsShownText words status was is

-- there is a names file, and it is refused
abbrev pub IsNamesRefusal : (names : Option (List ℕ)) → Type 0
IsNamesRefusal None = ⊥
IsNamesRefusal (Some path) = (text : List ℕ) × AreRefused path text
