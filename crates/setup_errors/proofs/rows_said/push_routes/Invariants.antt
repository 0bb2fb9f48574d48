use Rattle.std.proofs.Common.{◌≡◌, ◌+◌, ◌++◌, drop}
use Rattle.setup_errors.specs.RowsSaid.{routes_said}
use Rattle.setup_errors.proofs.rows_said.push_routes.Given as goal

abbrev pub invariant-loop-i : goal.invariant-loop-i
invariant-loop-i l =
    l.found.items ++ routes_said l.names (l.i + 1) (drop l.i l.routes) ≡ l.initial.found.items ++ routes_said l.names 1 l.routes
