use Rattle.std.proofs.Common.{◌≡◌, ◌++◌, drop, Ok}
use Rattle.toml.specs.View.{items_view}
use Rattle.toml_keys.specs.Tables.{◌>>=◌}
use Rattle.partner_setup.specs.SetupFile.{rows_in}
use Rattle.partner_setup.proofs.row.rows_in.Given as goal

abbrev pub invariant-loop-value : goal.invariant-loop-value
invariant-loop-value g l =
    (rows_in (g.R.RowReading.reading l.reading) (items_view (drop l.value-index l.values)) >>= λ xs. Ok (l.rows.items ++ xs))
    ≡ rows_in (g.R.RowReading.reading l.reading) (items_view l.values)
