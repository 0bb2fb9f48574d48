-- The check (own): what a file is judged as, and what is reported beside others (no public clause cites these).
use Rattle.std.specs.Prelude.{◌≡◌, ◌⊎◌, ℕ, List, [], ◌∷◌, ◌++◌, length, Option, None, Some, Result}
use Rattle.toml.specs.Data.{Members}
use Rattle.guide_tree.specs.declared.rows.GuideRows.{GuideRows}
use Rattle.partner_setup.specs.CountersFile.{counters_of_table}
use Rattle.partner_setup.specs.SetupFile.{setup_of_table}
use Rattle.partner_setup.specs.declared.rows.CounterRow.{CounterRow}
use Rattle.partner_setup.specs.declared.rows.SetupRows.{SetupRows}
use Rattle.toml_keys.specs.Refusals.{Refusal}
use Rattle.key_errors.specs.KeyWords.{counters_key_words, setup_key_words}
use Rattle.check_command.specs.Files.{path_of}
use Rattle.check_command.specs.Judged.{counters_told, setup_told}
use Rattle.guide_toml.specs.FileBytes.{IsFileOf, IsGuideOf}
use Rattle.check_command.specs.SetupFiles.{AreCountersOf, AreCountersRefused, AreGuidesOf, IsFileRefused}
use Rattle.check_command.specs.SetupFiles.{IsGuideRefused, Words}
use Rattle.check_command.specs.SetupFiles.{IsSomeRefused}
use Rattle.check_command.specs.declared.files.Given.{Given}
use Rattle.check_command.specs.declared.judged.Judged.{Judged}
use Rattle.check_command.specs.declared.judged.Judged.TheVariants as judged
use Rattle.check_command.specs.declared.told.FileTold.{FileTold}
use Rattle.check_command.specs.declared.told.Listed.TheVariants as listed
use Rattle.check_command.specs.declared.told.Told.{Told}
use Rattle.check_command.specs.declared.told.Told.TheVariants as told

abbrev pub IsGuideJudged : Option (List ℕ) → Judged GuideRows → Type 0
IsGuideJudged bytes (judged.Taken guide) = IsGuideOf bytes guide
IsGuideJudged bytes (judged.Refused text) = IsGuideRefused bytes text

abbrev pub IsFileJudged : {A : Type 0} → (Members → Result A Refusal) → Words → Option (List ℕ) → Judged A → Type 0
IsFileJudged read words bytes (judged.Taken rows) = IsFileOf read bytes rows
IsFileJudged read words bytes (judged.Refused text) = IsFileRefused read words bytes text

-- the guide of a file, where it is taken
abbrev pub IsGuideFound : Option (List ℕ) → Option GuideRows → Type 0
IsGuideFound bytes (Some guide) = IsGuideOf bytes guide
IsGuideFound bytes None = (text : List ℕ) × IsGuideRefused bytes text

-- the guides, where none is refused
abbrev pub AreGuidesFound : List Given → Option (List GuideRows) → Type 0
AreGuidesFound fs (Some guides) = AreGuidesOf fs guides
AreGuidesFound fs None = IsSomeRefused fs

-- the same with one more
abbrev pub with_guide : Option (List GuideRows) → Option GuideRows → Option (List GuideRows)
with_guide None guide = None
with_guide (Some guides) None = None
with_guide (Some guides) (Some guide) = Some (guides ++ guide ∷ [])

abbrev pub AreCountersFound : Option Given → Option (List CounterRow) → Type 0
AreCountersFound given (Some rows) = AreCountersOf given rows
AreCountersFound given None = AreCountersRefused given

-- what is reported of a setup beside what was found of the others
abbrev pub told_beside : SetupRows → Option (List GuideRows) → Option (List CounterRow) → Told
told_beside rows None counters = told.Open
told_beside rows (Some guides) None = told.Open
told_beside rows (Some guides) (Some counters) = setup_told rows counters guides

abbrev pub IsToldBeside : Option (List GuideRows) → Option (List CounterRow) → Option (List ℕ) → Told → Type 0
IsToldBeside guides counters bytes t =
    ((text : List ℕ) × IsFileRefused setup_of_table setup_key_words bytes text × (t ≡ told.Refused text))
    ⊎ ((rows : SetupRows) × IsFileOf setup_of_table bytes rows × (t ≡ told_beside rows guides counters))

-- what is reported of the counters beside what was found of the others
abbrev pub counted_beside : SetupRows → Option (List GuideRows) → Option (List CounterRow) → Option Told
counted_beside rows None counters = None
counted_beside rows (Some guides) None = None
counted_beside rows (Some guides) (Some counters) = Some (counters_told rows counters guides)

abbrev pub IsCountedBeside : Option (List GuideRows) → Option (List CounterRow) → Option (List ℕ) → Option Told → Type 0
IsCountedBeside guides counters bytes t =
    ((text : List ℕ) × IsFileRefused setup_of_table setup_key_words bytes text × (t ≡ None))
    ⊎ ((rows : SetupRows) × IsFileOf setup_of_table bytes rows × (t ≡ counted_beside rows guides counters))

-- the same where there may be no setup file
abbrev pub AreCountedBeside : Option (List GuideRows) → Option (List CounterRow) → Option Given → Option Told → Type 0
AreCountedBeside guides counters None t = t ≡ None
AreCountedBeside guides counters (Some f) t = IsCountedBeside guides counters f.bytes t

-- what is reported of a counters file by itself, and its rows, where it is taken
abbrev pub IsCountedAlone : Option (List ℕ) → Option (List CounterRow) → Told → Type 0
IsCountedAlone bytes None t = (text : List ℕ) × IsFileRefused counters_of_table counters_key_words bytes text × (t ≡ told.Refused text)
IsCountedAlone bytes (Some rows) t = IsFileOf counters_of_table bytes rows × (t ≡ told.Taken (length rows) listed.Counters [])

abbrev pub AreCountedAlone : Option Given → Option (List CounterRow) → Option FileTold → Type 0
AreCountedAlone None rows None = rows ≡ Some []
AreCountedAlone None rows (Some l) = ⊥
AreCountedAlone (Some f) rows None = ⊥
AreCountedAlone (Some f) rows (Some l) = (l.path.now ≡ path_of f) × IsCountedAlone f.bytes rows l.told

-- a file of which something else is reported
abbrev pub told_else : FileTold → Told → FileTold
told_else l t = record { path = l.path; told = t }

abbrev pub with_told : Option FileTold → Option Told → Option FileTold
with_told None t = None
with_told (Some l) None = Some l
with_told (Some l) (Some t) = Some (told_else l t)
