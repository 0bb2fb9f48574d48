-- What was gathered (own): each file, what became of it, what was read of it, and what of it goes in.
use Rattle.std.specs.Prelude.{ℕ, ◌≡◌, ◌+◌, false, List, [], ◌∷◌, ◌++◌, length, map, Option, Some, None, IfSome, codes}
use Rattle.std.specs.Prelude.{decimal}
use Rattle.std.specs.List.{All}
use Rattle.std.specs.Io.KnownBytes.{Appends}
use Rattle.night_definition.specs.Header.{is_head}
use Rattle.night_definition.specs.Interchanges.{text_of}
use Rattle.gather_files.specs.Apart.{text_of_files}
use Rattle.gather_files.specs.Causes.{cause_of}
use Rattle.gather_files.specs.Gathering.{GoesIn}
use Rattle.gather_files.specs.Lead.{led}
use Rattle.gather_files.specs.declared.gather.End.{End}
use Rattle.gather_files.specs.declared.gather.End.TheVariants as end
use Rattle.gather_files.specs.declared.gather.Gathered.{Gathered}
use Rattle.gather_files.specs.declared.gather.Gathered.TheVariants as gathered
use Rattle.gather_files.specs.declared.gather.Taken.{Taken}
use Rattle.gather_command.specs.Lines.{line_of_file}
use Rattle.gather_command.specs.declared.outcome.Outcome.{Outcome}
use Rattle.gather_command.specs.declared.outcome.Outcome.TheVariants as outcome
use Rattle.gather_command.specs.declared.total.Total.{Total}

-- a file that was named: its path, what became of it, what was read of it, and what of it goes in
pub record Member : Type 0 where
  pub path : List ℕ
  pub outcome : Outcome
  pub file : List ℕ
  pub closed : List ℕ

-- a file that is taken goes in as `GoesIn` says; one in which no header begins after its blanks is set aside, for the cause that its
-- first bytes name, and nothing of it goes in
abbrev pub IsRead : Gathered → (file closed : List ℕ) → Type 0
IsRead (gathered.Taken taken) file closed = GoesIn (Some file) closed taken
IsRead (gathered.SetAside cause) file closed = (is_head (led file) 0 ≡ false) × (cause ≡ cause_of (led file)) × (closed ≡ [])

-- nothing goes in of a file that changed while it was read, or whose name isn't UTF-8
abbrev pub IsOutcome : Outcome → (file closed : List ℕ) → Type 0
IsOutcome (outcome.Read g) file closed = IsRead g file closed
IsOutcome outcome.Changed file closed = closed ≡ []
IsOutcome outcome.NameNotUtf8 file closed = closed ≡ []

abbrev pub IsMember : Member → Type 0
IsMember m = IsOutcome m.outcome m.file m.closed

-- all that goes in
abbrev pub bytes_of : List Member → List ℕ
bytes_of [] = []
bytes_of (m ∷ ms) = m.closed ++ bytes_of ms

-- the lines, after this many bytes
abbrev pub lines_of : (before : ℕ) → List Member → List ℕ
lines_of before [] = []
lines_of before (m ∷ ms) = line_of_file m.path m.outcome before ++ lines_of (before + length m.closed) ms

-- how many are taken, set aside, and cut off: one counts as cut off, too, whose IEA is written with another separator than its ISA names
abbrev pub is_cut : End → ℕ
is_cut end.Whole = 0
is_cut end.Mended = 0
is_cut end.CutOff = 1
is_cut (end.OtherSeparator separators) = 1
is_cut end.CutInHeader = 1

-- how a file goes in, if it is taken
abbrev pub taken_of : Outcome → Option Taken
taken_of (outcome.Read (gathered.Taken taken)) = Some taken
taken_of (outcome.Read (gathered.SetAside cause)) = None
taken_of outcome.Changed = None
taken_of outcome.NameNotUtf8 = None

abbrev pub total_by : Option Taken → Total → Total
total_by (Some taken) t =
    record { taken = t.taken + 1; cut_off = t.cut_off + is_cut taken.end; set_aside = t.set_aside; bytes = t.bytes + taken.len }
total_by None t = record { taken = t.taken; cut_off = t.cut_off; set_aside = t.set_aside + 1; bytes = t.bytes }

abbrev pub total_with : Outcome → Total → Total
total_with o t = total_by (taken_of o) t

abbrev pub total_from : Total → List Member → Total
total_from t [] = t
total_from t (m ∷ ms) = total_from (total_with m.outcome t) ms

-- of a file that is taken
abbrev pub IfTaken : Outcome → (Taken → Type 0) → Type 0
IfTaken o P = IfSome (taken_of o) P

abbrev pub no_total : Total
no_total = record { taken = 0; cut_off = 0; set_aside = 0; bytes = 0 }

-- what a file that was read adds to what is written, which declared these bytes of itself, or none
pub record PutsFile (declared was is : Option (List ℕ)) (g : Gathered) : Type 0 where
  pub file : List ℕ
  pub all : IfSome declared (λ xs. xs ≡ file)
  pub closed : List ℕ
  pub read : IsRead g file closed
  pub written : Appends was is closed

-- what a file that was named adds to what is written
pub record AddsFile (declared was is : Option (List ℕ)) (o : Outcome) : Type 0 where
  pub file : List ℕ
  pub all : IfSome declared (λ xs. xs ≡ file)
  pub closed : List ℕ
  pub outcome : IsOutcome o file closed
  pub written : Appends was is closed

-- the files at these paths were gathered: what was written, and what is said of it; a night reads what was written as it reads each
-- file alone, one after another
pub record AreGathered (paths : List (List ℕ)) (was is : Option (List ℕ)) (lines : List ℕ) (total : Total) : Type 0 where
  pub members : List Member
  pub named : map (λ m. m.path) members ≡ paths
  pub each : All IsMember members
  pub written : Appends was is (bytes_of members)
  pub read : text_of (bytes_of members) ≡ text_of_files (map (λ m. m.closed) members)
  pub lines_are : lines ≡ lines_of 0 members
  pub total_is : total ≡ total_from no_total members
  pub bytes : total.bytes ≡ length (bytes_of members)

-- the last line
abbrev pub counted : (word : List ℕ) → ℕ → List ℕ
counted word n = word ++ decimal n

abbrev pub not_whole : Total → List ℕ
not_whole t = counted (codes " truncated ") t.cut_off ++ counted (codes " set aside ") t.set_aside

abbrev pub files_line : Total → List ℕ
files_line t = counted (codes "total taken ") t.taken ++ not_whole t

abbrev pub total_line : Total → List ℕ
total_line t = files_line t ++ (counted (codes " bytes ") t.bytes ++ codes "\n")
