-- The counters from night to night (own): the text that is written of next counters, read as a counters file by the same setup.
use Rattle.std.specs.Prelude.{◌≡◌, ℕ, List, [], ◌∷◌, length, All, None, Some, Ok}
use Rattle.std.specs.Str.{IsUtf8}
use Rattle.toml.specs.Data.{Members}
use Rattle.toml.specs.Parse.{parse_document}
use Rattle.guide_tree.specs.declared.rows.GuideRows.{GuideRows}
use Rattle.hub_kinds.specs.declared.counters.Counters.{Counters}
use Rattle.partner_setup.specs.CountersFile.{counters_of_table}
use Rattle.partner_setup.specs.CountersText.{counters_text}
use Rattle.partner_setup.specs.Setup.{setup_of}
use Rattle.partner_setup.specs.SetupFaults.{first_fault}
use Rattle.partner_setup.specs.Sound.{AreCounters}
use Rattle.partner_setup.specs.declared.partner.Partner.{Partner}
use Rattle.partner_setup.specs.declared.rows.CounterRow.{CounterRow}
use Rattle.partner_setup.specs.declared.rows.SetupRows.{SetupRows}

-- a row of counters for each partner, by its name
abbrev pub rows_of : List Partner → List Counters → List CounterRow
rows_of [] next = []
rows_of (p ∷ ps) [] = []
rows_of (p ∷ ps) (c ∷ next) = record { partner = p.name; counters = c } ∷ rows_of ps next

-- bytes are a counters file of these rows
pub record IsCountersFile (bytes : List ℕ) (rows : List CounterRow) : Type 0 where
  pub utf8 : IsUtf8 bytes
  pub table : Members
  pub parsed : parse_document bytes ≡ Some table
  pub read : counters_of_table table ≡ Ok rows

-- the counters file that is written for a setup of which nothing is refused has just these counters, and nothing of the setup is
-- refused with them
abbrev pub CountersGoOn : Type 0
CountersGoOn =
    (rows : SetupRows) (counters : List CounterRow) (guides : List GuideRows) (next : List Counters)
    → first_fault rows counters guides ≡ None → length next ≡ length rows.partners → All AreCounters next
    → IsCountersFile (counters_text (setup_of rows counters guides) next) (rows_of (setup_of rows counters guides).partners next)
    × (first_fault rows (rows_of (setup_of rows counters guides).partners next) guides ≡ None)
