-- The check (own): what is reported of a setup, and of the counters that it is judged by.
use Rattle.std.specs.Prelude.{ℕ, Bool, true, false, List, [], length, Option, Some, None, if◌then◌else◌}
use Rattle.guide_tree.specs.declared.rows.GuideRows.{GuideRows}
use Rattle.partner_setup.specs.SetupFaults.{first_fault}
use Rattle.partner_setup.specs.declared.rows.CounterRow.{CounterRow}
use Rattle.partner_setup.specs.declared.rows.SetupRows.{SetupRows}
use Rattle.partner_setup.specs.declared.setup_fault.SetupFault.{SetupFault}
use Rattle.partner_setup.specs.declared.setup_fault.SetupFault.TheVariants as refused
use Rattle.setup_errors.specs.KeptRows.{kept_rows}
use Rattle.setup_errors.specs.SetupWarnings.{setup_warnings}
use Rattle.setup_errors.specs.SetupWords.{setup_words}
use Rattle.setup_errors.specs.declared.kept_rows.KeptRows.{KeptRows}
use Rattle.check_command.specs.declared.told.Listed.TheVariants as listed
use Rattle.check_command.specs.declared.told.Told.{Told}
use Rattle.check_command.specs.declared.told.Told.TheVariants as told

-- a counter is at fault, and not the setup
abbrev pub is_of_counters : SetupFault → Bool
is_of_counters (refused.BadCounter place) = true
is_of_counters (refused.SamePartner place) = false
is_of_counters (refused.BadDelimiters place) = false
is_of_counters (refused.BadId owner) = false
is_of_counters (refused.BadGuides owner) = false
is_of_counters (refused.BadRoute place) = false
is_of_counters (refused.BadCap place) = false
is_of_counters refused.NoMemory = false

-- it is taken, with its warnings, where nothing is refused, and left open by a counter; else the words of the first refusal
abbrev pub judgement_by : (partners : ℕ) → KeptRows → Option SetupFault → Told
judgement_by partners kept None = told.Taken partners listed.Partners (setup_warnings kept)
judgement_by partners kept (Some fault) = if is_of_counters fault then told.Open else told.Refused (setup_words kept fault)

abbrev pub setup_told : SetupRows → List CounterRow → List GuideRows → Told
setup_told rows counters guides =
    judgement_by (length rows.partners) (kept_rows rows counters guides) (first_fault rows counters guides)

-- the counters are refused by the first refusal alone, and where it is of one of them
abbrev pub counters_by : (count : ℕ) → KeptRows → Option SetupFault → Told
counters_by count kept None = told.Taken count listed.Counters []
counters_by count kept (Some fault) =
    if is_of_counters fault then told.Refused (setup_words kept fault) else told.Taken count listed.Counters []

abbrev pub counters_told : SetupRows → List CounterRow → List GuideRows → Told
counters_told rows counters guides =
    counters_by (length counters) (kept_rows rows counters guides) (first_fault rows counters guides)
