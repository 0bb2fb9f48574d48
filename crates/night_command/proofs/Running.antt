-- A night by a setup that files make is a run of the definition: its setup, its files and its status.
use Rattle.std.proofs.Common.{◌≡◌, ◌≤◌, ℕ, List, [], ◌∷◌, ◌++◌, map, Option, Some, None, Result, cond, codes, length, refl, sym, ap, ◌∙◌}
use Rattle.std.specs.List.{AllZip}
use Rattle.std.specs.Option.{option_map_or}
use Rattle.toml.specs.Data.{Members}
use Rattle.hub_kinds.specs.declared.limits.TheConstants.{LONGEST_TEXT}
use Rattle.guide_tree.specs.declared.rows.GuideRows.{GuideRows}
use Rattle.toml_keys.specs.Refusals.{Refusal}
use Rattle.guide_toml.specs.FileBytes.{IsFileOf, IsGuideOf}
use Rattle.partner_setup.specs.declared.partner.Partner.{Partner}
use Rattle.partner_setup.specs.CountersFile.{counters_of_table}
use Rattle.partner_setup.specs.CountersText.{counters_text}
use Rattle.partner_setup.specs.Setup.{SetupValue}
use Rattle.partner_setup.specs.SetupFile.{setup_of_table}
use Rattle.night_batches.specs.declared.night.Night.{Night}
use Rattle.night_definition.specs.ReadBack as defined
use Rattle.night_definition.specs.Program.{setup_of_files}
use Rattle.night_definition.specs.SetupFile as defined_files
use Rattle.night_equal_read.specs.Read.{FileReferencesArePlain, seen_night}
use Rattle.night_equal_text.specs.LookedUp.{seen_setup}
use Rattle.night_equal_setup.proofs.ForAbove.{counters_texts_are_one, setup_bytes_are_one}
use Rattle.night_command.specs.FileAt.{FileValue}
use Rattle.night_command.specs.NightFiles.{last_files, night_files, partner_files}
use Rattle.night_command.specs.Outbox.{File}
use Rattle.night_command.specs.Outcome.{status_of}
use Rattle.night_command.specs.Runs.{IsRunBy, bytes_of}
use Rattle.night_command.specs.SetupFiles.{AreGuidesOf, IsSetupOf}
use Rattle.night_command.specs.declared.outcome.Outcome.TheVariants.{Ran}
use Rattle.night_command.specs.declared.setup_files.SetupFiles.{SetupFiles}
use Rattle.night_equal_writing.proofs.ForAbove.{clean_is}

-- a file that writes something has bytes
file_has : {A : Type 0} (read : Members → Result A Refusal) (bytes : Option (List ℕ)) (rows : A) → IsFileOf read bytes rows
    → IsFileOf read (Some (option_map_or (λ b. b) bytes [])) rows
file_has read None rows is = absurd is
file_has read (Some bytes) rows is = is

guide_has : (bytes : Option (List ℕ)) (guide : GuideRows) → IsGuideOf bytes guide
    → IsGuideOf (Some (option_map_or (λ b. b) bytes [])) guide
guide_has None guide is = absurd is
guide_has (Some bytes) guide is = is

guides_have : (files : List FileValue) (guides : List GuideRows) → AreGuidesOf files guides
    → AllZip (λ bytes guide. IsGuideOf (Some bytes) guide) (map bytes_of files) guides
guides_have [] [] are = tt
guides_have [] (g ∷ gs) are = absurd are
guides_have (f ∷ fs) [] are = absurd are
guides_have (f ∷ fs) (g ∷ gs) are = (guide_has f.bytes g are.0, guides_have fs gs are.1)

partner_files_are : (ps : List Partner) (acks boxes : List (List ℕ))
    → partner_files ps acks boxes ≡ defined_files.partner_files ps acks boxes
partner_files_are [] acks boxes = refl
partner_files_are (p ∷ ps) [] boxes = refl
partner_files_are (p ∷ ps) (a ∷ acks) [] = refl
partner_files_are (p ∷ ps) (a ∷ acks) (b ∷ boxes) =
    ap (λ (more : List File). (p.name ++ codes ".ack", a) ∷ (p.name ++ codes ".box", b) ∷ more) (partner_files_are ps acks boxes)

files_are : (setup : SetupValue) (night : Night) → night_files setup night ≡ defined_files.night_files (seen_setup setup) (seen_night night)
files_are setup night =
    ap (λ (fs : List File). fs ++ last_files night.report (counters_text setup night.next))
    (partner_files_are setup.partners night.acks night.boxes)
    ∙ ap (λ (t : List ℕ). defined_files.partner_files setup.partners night.acks night.boxes
    ++ (codes "report.txt", night.report) ∷ (codes "counters.toml", t) ∷ []) (sym (counters_texts_are_one setup night.next))

made_is : (setup : SetupValue) (read : SetupFiles) → IsSetupOf read setup
    → setup_of_files (bytes_of read.setup) (bytes_of read.counters) (map bytes_of read.guides) ≡ Some (seen_setup setup)
made_is setup read of_files =
    setup_bytes_are_one (bytes_of read.setup) (bytes_of read.counters) (map bytes_of read.guides) of_files.rows of_files.counters
    of_files.guides (guides_have read.guides of_files.guides of_files.read.0)
    (file_has setup_of_table read.setup.bytes of_files.rows of_files.read.1)
    (file_has counters_of_table read.counters.bytes of_files.counters of_files.read.2) of_files.accepted
    ∙ ap (λ (s : SetupValue). Some (seen_setup s)) (sym of_files.made)

-- the guides of files have reference numbers of letters and digits alone
pub plain_is : FileReferencesArePlain → (setup : SetupValue) (read : SetupFiles) → IsSetupOf read setup
    → defined.AreReferencesPlain (seen_setup setup)
plain_is plain setup read of_files =
    plain (bytes_of read.setup) (bytes_of read.counters) (map bytes_of read.guides) (seen_setup setup) (made_is setup read of_files)

pub run_is : (setup : SetupValue) (night : Night) (text at : List ℕ) → length text ≤ LONGEST_TEXT
    → defined.IsNight text (seen_setup setup) at (seen_night night) → (read : SetupFiles) → IsSetupOf read setup
    → IsRunBy read at text (night_files setup night) (status_of (Ran night))
run_is setup night text at few is read of_files = record {
  setup = seen_setup setup;
  made = made_is setup read of_files;
  few = few;
  night = seen_night night;
  is = is;
  written = files_are setup night;
  told = ap (λ clean. cond clean 0 1) (sym (clean_is night.report));
}
