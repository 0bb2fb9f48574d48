use Rattle.std.proofs.Common.{rules, tests}
use Rattle.std.specs.Ordering.{is_lt}
use Rattle.std.proofs.lemmas.List.Sorted.{answers_always}
use Rattle.hub_kinds.specs.Rising.{order_by}
use Rattle.kept_files.proofs.Ordered.{order_ranks}
use Rattle.kept_files.specs.Sums.{name_of}
use Rattle.kept_files.proofs.sums.in_order.Goals as goal

pub returns-clause-order : goal.returns-clause-order
returns-clause-order c =
    c.sort_unstable_by.ensures.sorted (λ x y. is_lt (order_by name_of x y)) (order_ranks name_of)
    (answers_always _ _ _ (λ x a r f' k. search (rules, tests)))
