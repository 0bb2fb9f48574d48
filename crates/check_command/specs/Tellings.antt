-- The check (own): what is reported of each file that is given.
use Rattle.std.specs.Prelude.{◌≡◌, ◌⊎◌, ⊤, ℕ, List, [], ◌∷◌, length, Option, None, Some}
use Rattle.guide_tree.specs.Words.{guide_of, node_count}
use Rattle.guide_tree.specs.declared.rows.GuideRows.{GuideRows}
use Rattle.partner_setup.specs.CountersFile.{counters_of_table}
use Rattle.partner_setup.specs.SetupFile.{setup_of_table}
use Rattle.partner_setup.specs.declared.rows.CounterRow.{CounterRow}
use Rattle.partner_setup.specs.declared.rows.SetupRows.{SetupRows}
use Rattle.guide_warnings.specs.Warnings.{warnings_of}
use Rattle.key_errors.specs.KeyWords.{counters_key_words, setup_key_words}
use Rattle.check_command.specs.Files.{in_order, path_of}
use Rattle.check_command.specs.Judged.{counters_told, setup_told}
use Rattle.guide_toml.specs.FileBytes.{IsFileOf, IsGuideOf}
use Rattle.check_command.specs.SetupFiles.{AreCountersOf, AreCountersRefused, AreGuidesOf, IsFileRefused}
use Rattle.check_command.specs.SetupFiles.{IsGuideRefused}
use Rattle.check_command.specs.SetupFiles.{IsSomeRefused}
use Rattle.check_command.specs.declared.files.Given.{Given}
use Rattle.check_command.specs.declared.files.GivenFiles.{GivenFiles}
use Rattle.check_command.specs.declared.told.FileTold.{FileTold}
use Rattle.check_command.specs.declared.told.Listed.TheVariants as listed
use Rattle.check_command.specs.declared.told.Told.{Told}
use Rattle.check_command.specs.declared.told.Told.TheVariants as told

-- a guide file: taken, with how many nodes the guide has and a text for each of its warnings, or refused
abbrev pub IsGuideTold : Option (List ℕ) → Told → Type 0
IsGuideTold bytes (told.Taken count what warnings) =
    (guide : GuideRows) × IsGuideOf bytes guide × (count ≡ node_count (guide_of guide).nodes) × (what ≡ listed.Slots)
    × (length warnings ≡ length (warnings_of (guide_of guide)))
IsGuideTold bytes told.Open = ⊥
IsGuideTold bytes (told.Refused text) = IsGuideRefused bytes text

-- the rows of a setup file
abbrev pub IsSetupOf : Option Given → SetupRows → Type 0
IsSetupOf None rows = ⊥
IsSetupOf (Some f) rows = IsFileOf setup_of_table f.bytes rows

-- no setup file is given, or it is refused
abbrev pub IsNoSetup : Option Given → Type 0
IsNoSetup None = ⊤
IsNoSetup (Some f) = (text : List ℕ) × IsFileRefused setup_of_table setup_key_words f.bytes text

-- counters of these rows: what the guides and the setup make of them; taken where one of these says nothing
abbrev pub AreCountersJudged : List Given → Option Given → List CounterRow → Told → Type 0
AreCountersJudged guides setup counters t =
    ((gs : List GuideRows) × (rows : SetupRows) × AreGuidesOf guides gs × IsSetupOf setup rows × (t ≡ counters_told rows counters gs))
    ⊎ ((IsSomeRefused guides ⊎ IsNoSetup setup) × (t ≡ told.Taken (length counters) listed.Counters []))

-- a counters file: refused by itself, or judged by its rows
abbrev pub IsCountersTold : List Given → Option Given → Option (List ℕ) → Told → Type 0
IsCountersTold guides setup bytes t =
    ((text : List ℕ) × IsFileRefused counters_of_table counters_key_words bytes text × (t ≡ told.Refused text))
    ⊎ ((rows : List CounterRow) × IsFileOf counters_of_table bytes rows × AreCountersJudged guides setup rows t)

-- a setup of these rows: what the guides and the counters make of it; open where one of these is refused
abbrev pub IsJudged : List Given → Option Given → SetupRows → Told → Type 0
IsJudged guides counters rows t =
    ((gs : List GuideRows) × (cs : List CounterRow) × AreGuidesOf guides gs × AreCountersOf counters cs × (t ≡ setup_told rows cs gs))
    ⊎ ((IsSomeRefused guides ⊎ AreCountersRefused counters) × (t ≡ told.Open))

-- a setup file: refused by itself, or judged by its rows
abbrev pub IsSetupTold : List Given → Option Given → Option (List ℕ) → Told → Type 0
IsSetupTold guides counters bytes t =
    ((text : List ℕ) × IsFileRefused setup_of_table setup_key_words bytes text × (t ≡ told.Refused text))
    ⊎ ((rows : SetupRows) × IsFileOf setup_of_table bytes rows × IsJudged guides counters rows t)

-- a file of which this is reported has its line under its path
abbrev pub IsFileTold : (Option (List ℕ) → Told → Type 0) → Given → FileTold → Type 0
IsFileTold P f line = (line.path.now ≡ path_of f) × P f.bytes line.told

abbrev pub AreGuidesTold : List Given → List FileTold → Type 0
AreGuidesTold [] [] = ⊤
AreGuidesTold [] (l ∷ ls) = ⊥
AreGuidesTold (f ∷ fs) [] = ⊥
AreGuidesTold (f ∷ fs) (l ∷ ls) = IsFileTold IsGuideTold f l × AreGuidesTold fs ls

-- the same of a file that is optional
abbrev pub IsSomeTold : (Option (List ℕ) → Told → Type 0) → Option Given → Option FileTold → Type 0
IsSomeTold P None None = ⊤
IsSomeTold P None (Some l) = ⊥
IsSomeTold P (Some f) None = ⊥
IsSomeTold P (Some f) (Some l) = IsFileTold P f l

-- what is reported of all files: the guides in their order, then the setup, then the counters
pub record AreTold (given : GivenFiles) (lines : List FileTold) : Type 0 where
  pub guides : List FileTold
  pub setup : Option FileTold
  pub counters : Option FileTold
  pub order : lines ≡ in_order guides setup counters
  pub of_guides : AreGuidesTold given.guides guides
  pub of_setup : IsSomeTold (IsSetupTold given.guides given.counters) given.setup setup
  pub of_counters : IsSomeTold (IsCountersTold given.guides given.setup) given.counters counters
