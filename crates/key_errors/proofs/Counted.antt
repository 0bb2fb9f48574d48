-- How many items a list of values is seen as.
use Rattle.std.proofs.Common.{◌≡◌, ◌+◌, List, [], ◌∷◌, length, refl, arith}
use Rattle.toml.specs.View.{items_view}
use Rattle.toml.specs.declared.value.Value.{Value}
use Rattle.key_errors.specs.Shown.{count_of}

pub counted : (vs : List Value) → count_of (items_view vs) ≡ length vs
counted [] = refl
counted (v ∷ vs) =
    let rest = counted vs in
    let step : count_of (items_view (v ∷ vs)) ≡ count_of (items_view vs) + 1 = refl in
    omega arith
