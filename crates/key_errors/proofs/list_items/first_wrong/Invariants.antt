use Rattle.std.proofs.Common.{◌≡◌, ◌+◌, drop}
use Rattle.toml.specs.View.{items_view}
use Rattle.key_errors.specs.ListItems as lists
use Rattle.key_errors.proofs.list_items.first_wrong.Given as goal

abbrev pub invariant-loop-i : goal.invariant-loop-i
invariant-loop-i l =
    lists.first_wrong l.kind (l.i + 1) (items_view (drop l.i l.values)) ≡ lists.first_wrong l.kind 1 (items_view l.values)
