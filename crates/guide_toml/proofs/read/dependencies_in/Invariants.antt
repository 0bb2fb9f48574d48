use Rattle.std.proofs.Common.{◌≡◌, ◌++◌, drop, Ok}
use Rattle.toml.specs.View.{items_view}
use Rattle.toml_keys.specs.Tables.{◌>>=◌}
use Rattle.guide_toml.specs.Guides.{dependencies_in}
use Rattle.guide_toml.proofs.read.dependencies_in.Given as goal

abbrev pub invariant-loop-value : goal.invariant-loop-value
invariant-loop-value l =
    (dependencies_in (items_view (drop l.value-index l.values)) >>= λ xs. Ok (l.rows.items ++ xs)) ≡ dependencies_in
    (items_view l.values)
