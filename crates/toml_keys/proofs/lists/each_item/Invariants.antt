use Rattle.std.proofs.Common.{◌≡◌, ◌++◌, drop, option_map}
use Rattle.toml.specs.View.{items_view}
use Rattle.toml_keys.specs.Tables.{each_item}
use Rattle.toml_keys.proofs.lists.each_item.Given as goal

abbrev pub invariant-loop-value : goal.invariant-loop-value
invariant-loop-value g l =
    option_map (λ xs. l.items.items ++ xs) (each_item (g.R.Reading.reading l.reading)
    (items_view (drop l.value-index l.values))) ≡ each_item (g.R.Reading.reading l.reading) (items_view l.values)
