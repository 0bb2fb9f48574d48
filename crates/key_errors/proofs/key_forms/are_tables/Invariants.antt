use Rattle.std.proofs.Common.{◌≡◌, drop}
use Rattle.toml.specs.View.{items_view}
use Rattle.toml_keys.specs.Tables.{are_tables}
use Rattle.key_errors.proofs.key_forms.are_tables.Given as goal

abbrev pub invariant-loop-i : goal.invariant-loop-i
invariant-loop-i l = are_tables (items_view (drop l.i l.values)) ≡ are_tables (items_view l.values)
