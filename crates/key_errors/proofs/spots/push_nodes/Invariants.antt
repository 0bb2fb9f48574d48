use Rattle.std.proofs.Common.{◌≡◌, ◌+◌, ◌++◌, drop, map}
use Rattle.toml.specs.View.{table_view}
use Rattle.key_errors.specs.Spots.{node_spots}
use Rattle.key_errors.specs.Seen.{seen}
use Rattle.key_errors.proofs.spots.push_nodes.Given as goal

abbrev pub invariant-loop-i : goal.invariant-loop-i
invariant-loop-i l =
    map seen l.spots.items ++ node_spots (l.i + 1) (map (λ t. table_view t.now) (drop l.i l.tables))
    ≡ map seen l.initial.spots.items ++ node_spots 1 (map (λ t. table_view t.now) l.tables)
