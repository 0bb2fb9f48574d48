use Rattle.std.proofs.Common.{◌≡◌, ◌++◌, []}
use Rattle.std.specs.Option.{option_map_or}
use Rattle.elem_rules.specs.Rows.{nth}
use Rattle.elem_rules.specs.Found.{up_to, read, text_at, element_found}
use Rattle.elem_rules.proofs.check.check_rows.Given as goal

abbrev pub invariant-loop-k : goal.invariant-loop-k
invariant-loop-k l =
    l.found ≡ l.initial.found
    ++ up_to (λ k. option_map_or (λ row. element_found l.of.delims k row (text_at (read l.of.texts.now) k)) (nth l.of.rows.now k) []) l.k
