-- The check (own): the lines that are printed of each file, and the status.
use Rattle.std.specs.Prelude.{ℕ, Bool, true, false, List, [], ◌∷◌, ◌++◌, ◌&&◌, ◌+◌, codes, decimal}
use Rattle.std.specs.Prelude.{slice_get, Option, None, Some, if◌then◌else◌}
use Rattle.std.specs.List.{list_all}
use Rattle.std.specs.Option.{option_map_or}
use Rattle.std.specs.Str.{bytes_eq}
use Rattle.file_names.specs.Shown.{shown}
use Rattle.check_command.specs.declared.told.FileTold.{FileTold}
use Rattle.check_command.specs.declared.told.Listed.{Listed}
use Rattle.check_command.specs.declared.told.Listed.TheVariants as listed
use Rattle.check_command.specs.declared.told.Told.{Told}
use Rattle.check_command.specs.declared.told.Told.TheVariants as told

abbrev pub noun_of : Listed → List ℕ
noun_of listed.Slots = codes " segments and loops"
noun_of listed.Partners = codes " partners"
noun_of listed.Counters = codes " counters"

abbrev pub taken_text : (count : ℕ) → Listed → List ℕ
taken_text count what = codes "ok, " ++ (decimal count ++ noun_of what)

abbrev pub told_text : Told → List ℕ
told_text (told.Taken count what warnings) = taken_text count what
told_text told.Open = codes "read, and not judged, since another file is refused"
told_text (told.Refused text) = shown text

-- `F: ` and what is reported of it; bytes that control a terminal are escaped in each path and text
abbrev pub line_of : FileTold → List ℕ
line_of f = shown f.path.now ++ (codes ": " ++ (told_text f.told ++ codes "\n"))

-- `F: warning: ` and what it says
abbrev pub warning_line : (path text : List ℕ) → List ℕ
warning_line path text = shown path ++ (codes ": warning: " ++ (shown text ++ codes "\n"))

abbrev pub warning_lines : (path : List ℕ) → List (List ℕ) → List ℕ
warning_lines path [] = []
warning_lines path (text ∷ texts) = warning_line path text ++ warning_lines path texts

-- only a file that is taken has warnings
abbrev pub warnings_in : Told → List (List ℕ)
warnings_in (told.Taken count what warnings) = warnings
warnings_in told.Open = []
warnings_in (told.Refused text) = []

abbrev pub file_lines : FileTold → List ℕ
file_lines f = line_of f ++ warning_lines f.path.now (warnings_in f.told)

abbrev pub lines_of : List FileTold → List ℕ
lines_of [] = []
lines_of (f ∷ fs) = file_lines f ++ lines_of fs

abbrev pub is_taken : Told → Bool
is_taken (told.Taken count what warnings) = true
is_taken told.Open = false
is_taken (told.Refused text) = false

-- 0 where each file is taken, else 3
abbrev pub status_of : List FileTold → ℕ
status_of fs = if list_all (λ f. is_taken f.told) fs then 0 else 3

abbrev pub is_empty : List (List ℕ) → Bool
is_empty [] = true
is_empty (s ∷ ss) = false

-- where all is asked for: a line for each thing that is said
abbrev pub said_line : (path text : List ℕ) → List ℕ
said_line path text = shown path ++ (codes ": " ++ (shown text ++ codes "\n"))

abbrev pub said_lines : (path : List ℕ) → List (List ℕ) → List ℕ
said_lines path [] = []
said_lines path (text ∷ texts) = said_line path text ++ said_lines path texts

-- but for what the file's own line says
abbrev pub other_line : (path own text : List ℕ) → List ℕ
other_line path own text = if bytes_eq text own then [] else said_line path text

abbrev pub other_lines : (path own : List ℕ) → List (List ℕ) → List ℕ
other_lines path own [] = []
other_lines path own (text ∷ texts) = other_line path own text ++ other_lines path own texts

abbrev pub refusal : Told → List ℕ
refusal (told.Taken count what warnings) = []
refusal told.Open = []
refusal (told.Refused text) = text

-- a file that is taken has its own lines where nothing is said, else these in their place
abbrev pub taken_lines : FileTold → List (List ℕ) → List ℕ
taken_lines f [] = file_lines f
taken_lines f (s ∷ ss) = said_lines f.path.now (s ∷ ss)

-- another has its own line, and then these
abbrev pub file_lines_all : FileTold → List (List ℕ) → List ℕ
file_lines_all f said =
    if is_taken f.told then taken_lines f said else line_of f ++ other_lines f.path.now (refusal f.told) said

-- what is said of the file at a place
abbrev pub said_at : List (List (List ℕ)) → (place : ℕ) → List (List ℕ)
said_at all place = option_map_or (λ said. said) (slice_get all place) []

abbrev pub lines_from : (place : ℕ) → List FileTold → List (List (List ℕ)) → List ℕ
lines_from place [] all = []
lines_from place (f ∷ fs) all = file_lines_all f (said_at all place) ++ lines_from (place + 1) fs all

abbrev pub all_lines : List FileTold → List (List (List ℕ)) → List ℕ
all_lines fs all = lines_from 0 fs all

-- 0 where each file is taken, and nothing is said of any, else 3
abbrev pub all_status : List FileTold → List (List (List ℕ)) → ℕ
all_status fs all = if list_all (λ f. is_taken f.told) fs && list_all is_empty all then 0 else 3

-- what is printed where all is asked for, and what is said is there, or where it isn't
abbrev pub text_of : List FileTold → Option (List (List (List ℕ))) → List ℕ
text_of fs None = lines_of fs
text_of fs (Some all) = all_lines fs all

abbrev pub status_with : List FileTold → Option (List (List (List ℕ))) → ℕ
status_with fs None = status_of fs
status_with fs (Some all) = all_status fs all
