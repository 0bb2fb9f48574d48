-- The program's results (own): what is printed, and the status.
use Rattle.std.specs.Prelude.{◌≡◌, ◌≤◌, ◌⊎◌, ℕ, if◌then◌else◌, List, ◌++◌, Option, IfSome, codes, length, string_bytes}
use Rattle.std.specs.Io.KnownBytes.{Appends}
use Rattle.hub_kinds.specs.declared.limits.TheConstants.{LONGEST_TEXT}
use Rattle.night_definition.specs.ReadBack as defined
use Rattle.night_equal_text.specs.LookedUp.{seen_setup}
use Rattle.night_equal_read.specs.Read.{seen_night}
use Rattle.night_batches.specs.declared.night.Night.{Night}
use Rattle.night_report.specs.Clean.{is_clean, last_of, lines_of}
use Rattle.partner_setup.specs.Setup.{SetupValue}
use Rattle.clap.specs.Words.{Text}
use Rattle.program_frame.specs.Arguments.{value_in, values_in}
use Rattle.program_frame.specs.Matching.{AsksForText}
use Rattle.night_command.specs.CommandLine.{AreOptions, guide_paths, hub_app}
use Rattle.night_command.specs.Outbox.{AddsFiles, AddsSome, File, KeepsFiles}
use Rattle.night_command.specs.Failure.{put_failure}
use Rattle.night_command.specs.NightFiles.{night_files}
use Rattle.night_command.specs.Runs.{IsRunBy}
use Rattle.night_command.specs.SetupFiles.{IsSetupAt, IsSetupOf}
use Rattle.night_command.specs.declared.command.Options.{Options}
use Rattle.night_command.specs.declared.failure.Failure.{Failure}
use Rattle.night_command.specs.declared.setup_files.SetupFiles.{SetupFiles}
use Rattle.night_command.specs.declared.put_fault.PutFault.{PutFault}
use Rattle.night_command.specs.declared.outcome.Outcome.{Outcome}
use Rattle.night_command.specs.declared.outcome.Outcome.TheVariants.{Shown, Ran}

-- the report's last line, with its LF
abbrev pub last_line : (report : List ℕ) → List ℕ
last_line report = last_of (lines_of report) ++ codes "\n"

-- the bytes that are printed
abbrev pub text_of : Outcome → List ℕ
text_of (Shown text) = string_bytes text
text_of (Ran night) = last_line night.report

-- 0 where the night was clean
abbrev pub status_of : Outcome → ℕ
status_of (Shown text) = 0
status_of (Ran night) = if is_clean night.report then 0 else 1

-- the definition's night of some text that isn't too long, at the moment of the options and by a setup that some files make which were
-- asked for by the paths of the options; its files and its status are those of the definition's run by these files; the guides' reference
-- numbers are letters and digits, so each partner reads its acknowledgments
pub record IsNightBy (options : Options) (night : Night) : Type 0 where
  pub setup : SetupValue
  pub made : IsSetupAt (guide_paths options) options.setup.now options.counters.now setup
  pub text : List ℕ
  pub within : length text ≤ LONGEST_TEXT
  pub definition : defined.IsNight text (seen_setup setup) options.at (seen_night night)
  pub run : IsRunBy made.files options.at text (night_files setup night) (status_of (Ran night))
  pub plain : defined.AreReferencesPlain (seen_setup setup)

-- such a night was run: what was printed is the last line of its report, and the status is its own
pub record IsPrinted (options : Options) (status : ℕ) (was is : Option (List ℕ)) : Type 0 where
  pub night : Night
  pub by : IsNightBy options night
  pub own_status : status ≡ status_of (Ran night)
  pub printed : Appends was is (text_of (Ran night))

-- the definition's night of the bytes that a source gave, no more than the limit, which are all that it declared, where it declared them;
-- where files make the setup, its files and its status are those of the definition's run by them, and the guides' reference numbers are
-- letters and digits, so each partner reads its acknowledgments
pub record IsNightOfSource (told : Option (List ℕ)) (setup : SetupValue) (at : List ℕ) (night : Night) : Type 0 where
  pub text : List ℕ
  pub told_all : IfSome told (λ xs. xs ≡ text)
  pub within : length text ≤ LONGEST_TEXT
  pub definition : defined.IsNight text (seen_setup setup) at (seen_night night)
  pub run : (read : SetupFiles) → IsSetupOf read setup → IsRunBy read at text (night_files setup night) (status_of (Ran night))
  pub plain : (read : SetupFiles) → IsSetupOf read setup → defined.AreReferencesPlain (seen_setup setup)

-- a night is given: it is that of a source, a setup and a moment, its files are put after what the outbox had, the last line of its report
-- is printed, and the status is its own
pub record IsGiven (told : Option (List ℕ)) (setup : SetupValue) (at : List ℕ) (status : ℕ) (had has : Option (List File))
    (was is : Option (List ℕ)) : Type 0 where
  pub night : Night
  pub by : IsNightOfSource told setup at night
  pub files : AddsFiles had has (night_files setup night)
  pub own_status : status ≡ status_of (Ran night)
  pub printed : Appends was is (text_of (Ran night))

-- what these arguments may have printed: a text where they ask for one, otherwise a night by the options that they give
abbrev pub IsOutcome : List Text → Outcome → Type 0
IsOutcome words (Shown text) = AsksForText hub_app words
IsOutcome words (Ran night) =
    (options : Options) × AreOptions (value_in hub_app words) (values_in hub_app words) options × IsNightBy options night

-- the first of the files of a night were put into an outbox, and then something failed
pub record PutsSome (told : Option (List ℕ)) (setup : SetupValue) (at : List ℕ) (had has : Option (List File)) (failed : Failure)
    : Type 0 where
  pub night : Night
  pub by : IsNightOfSource told setup at night
  pub fault : PutFault
  pub some : AddsSome had has (night_files setup night) fault
  pub told_as : failed ≡ put_failure fault

-- a night that isn't given leaves the outbox as it was, or with the first of its files
abbrev pub LeavesOutbox : (told : Option (List ℕ)) → SetupValue → (at : List ℕ) → (had has : Option (List File)) → Failure → Type 0
LeavesOutbox told setup at had has failed = KeepsFiles had has ⊎ PutsSome told setup at had has failed

-- a night that isn't given, or isn't printed, leaves the outbox as it was, or with the first of its files
pub record PutsFront (told : Option (List ℕ)) (setup : SetupValue) (at : List ℕ) (had has : Option (List File)) : Type 0 where
  pub night : Night
  pub by : IsNightOfSource told setup at night
  pub done : List File
  pub left : List File
  pub whole : night_files setup night ≡ done ++ left
  pub added : AddsFiles had has done

-- all files of a night were put, of which no line is printed then
pub record ArePut (told : Option (List ℕ)) (setup : SetupValue) (at : List ℕ) (had has : Option (List File)) : Type 0 where
  pub night : Night
  pub by : IsNightOfSource told setup at night
  pub files : AddsFiles had has (night_files setup night)

abbrev pub LeavesFront : (told : Option (List ℕ)) → SetupValue → (at : List ℕ) → (had has : Option (List File)) → Type 0
LeavesFront told setup at had has = KeepsFiles had has ⊎ PutsFront told setup at had has
