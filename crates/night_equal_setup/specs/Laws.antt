-- The definition of a night and those of the layers are one: what the files of a setup say, and the text of the next counters.
use Rattle.std.specs.Prelude.{◌≡◌, ℕ, List, map, Some, None, Ok}
use Rattle.std.specs.List.{AllZip}
use Rattle.toml.specs.Data.{Members}
use Rattle.hub_kinds.specs.declared.counters.Counters.{Counters}
use Rattle.guide_tree.specs.declared.rows.GuideRows.{GuideRows}
use Rattle.guide_tree.specs.Words.{guide_of}
use Rattle.guide_toml.specs.FileBytes.{IsFileOf, IsGuideOf}
use Rattle.partner_setup.specs.declared.rows.CounterRow.{CounterRow}
use Rattle.partner_setup.specs.declared.rows.SetupRows.{SetupRows}
use Rattle.partner_setup.specs.CountersFile.{counters_of_table}
use Rattle.partner_setup.specs.CountersText as then
use Rattle.partner_setup.specs.Setup.{SetupValue, setup_of}
use Rattle.partner_setup.specs.SetupFaults.{first_fault}
use Rattle.partner_setup.specs.SetupFile.{setup_of_table}
use Rattle.night_definition.specs.Setup.{Setup}
use Rattle.night_definition.specs.SetupFile.{counters_text, setup_of_tables}
use Rattle.night_definition.specs.Program.{setup_of_files}

-- a setup of the layers as the definition has it
abbrev pub as_defined : SetupValue → Setup
as_defined s = record { hub = s.hub; partners = s.partners; routes = s.routes; guides = map guide_of s.guides }

-- the setup that is built of the rows of two tables and of guides is the one that the tables describe
abbrev pub SetupFilesAreOne : Type 0
SetupFilesAreOne =
    (setup counters : Members) (rows : SetupRows) (starts : List CounterRow) (guides : List GuideRows)
    → setup_of_table setup ≡ Ok rows → counters_of_table counters ≡ Ok starts → first_fault rows starts guides ≡ None
    → setup_of_tables setup counters (map guide_of guides) ≡ Some (as_defined (setup_of rows starts guides))

-- the same of the bytes of a setup file, a counters file and guide files
abbrev pub SetupBytesAreOne : Type 0
SetupBytesAreOne =
    (setup counters : List ℕ) (files : List (List ℕ)) (rows : SetupRows) (starts : List CounterRow) (guides : List GuideRows)
    → AllZip (λ bytes guide. IsGuideOf (Some bytes) guide) files guides → IsFileOf setup_of_table (Some setup) rows
    → IsFileOf counters_of_table (Some counters) starts → first_fault rows starts guides ≡ None
    → setup_of_files setup counters files ≡ Some (as_defined (setup_of rows starts guides))

-- the text of the next counters
abbrev pub CountersTextsAreOne : Type 0
CountersTextsAreOne = (setup : SetupValue) (next : List Counters) → counters_text setup.partners next ≡ then.counters_text setup next
