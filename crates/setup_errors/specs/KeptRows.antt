-- Own: the rows of a setup and of counters, and the names of guides, which a refusal shows.
use Rattle.std.specs.Prelude.{ℕ, List, map}
use Rattle.guide_tree.specs.declared.rows.GuideRows.{GuideRows}
use Rattle.partner_setup.specs.declared.rows.CounterRow.{CounterRow}
use Rattle.partner_setup.specs.declared.rows.SetupRows.{SetupRows}
use Rattle.setup_errors.specs.declared.kept_rows.KeptRows.{KeptRows}

abbrev pub guide_name : GuideRows → List ℕ
guide_name g = g.head.name

abbrev pub kept_rows : SetupRows → List CounterRow → List GuideRows → KeptRows
kept_rows rows counters guides = record {
  rows = rows;
  counters = counters;
  guides = map guide_name guides;
}
