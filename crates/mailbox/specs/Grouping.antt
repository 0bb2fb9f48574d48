-- Private. How many written sets go into the first group.
use Rattle.std.specs.Prelude.{ℕ, ◌+◌, List, [], ◌∷◌, if◌then◌else◌}
use Rattle.count_numbers.specs.Runs.{same_key}
use Rattle.mailbox.specs.Rendered.{RenderedValue}

abbrev pub run_len : List RenderedValue → ℕ
run_len [] = 0
run_len (x ∷ []) = 1
run_len (x ∷ y ∷ ys) = if same_key x.key y.key then 1 + run_len (y ∷ ys) else 1
