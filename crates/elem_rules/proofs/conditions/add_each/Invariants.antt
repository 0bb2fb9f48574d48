use Rattle.std.proofs.Common.{◌≡◌, ◌++◌, []}
use Rattle.std.specs.Prelude.{if◌then◌else◌}
use Rattle.elem_rules.specs.Clean.{is_set}
use Rattle.elem_rules.specs.Found.{read, up_to, broken_found}
use Rattle.elem_rules.proofs.conditions.add_each.Given as goal

abbrev pub invariant-loop-k : goal.invariant-loop-k
invariant-loop-k l =
    l.found ≡ l.initial.found ++ up_to (λ k. if is_set l.bits k then broken_found l.of.rows.now (read l.of.texts.now) l.code k else []) l.k
