use Rattle.std.proofs.Common.{◌≡◌, rules, tests, subst}
use Rattle.std.specs.Ordering.{is_lt}
use Rattle.std.specs.List.{IsAllAdjacentAnswer}
use Rattle.std.specs.List.Sorted.{IsSorted}
use Rattle.std.proofs.lemmas.List.Sorted.{answers_always}
use Rattle.hub_kinds.specs.Rising.{order_by}
use Rattle.hub_kinds.proofs.Once.{order_ranks}
use Rattle.hub_kinds.proofs.Distinct.{answered}
use Rattle.hub_kinds.proofs.twice.has_twice.Goals as goal

pub returns : goal.returns
returns g c =
    let key = g.T.Keyed.key in
    let sorted = c.sort_unstable_by.new.self.items in
    let up : IsSorted (order_by key) sorted =
    c.sort_unstable_by.ensures.sorted (λ x y. is_lt (order_by key x y)) (order_ranks key)
    (answers_always _ _ _ (λ x a r f' k. search (rules, tests))) in
    let answer : IsAllAdjacentAnswer (λ x y b. b ≡ is_lt (order_by key x y)) sorted c.is_sorted_by.result =
    subst (λ xs. IsAllAdjacentAnswer (λ x y b. b ≡ is_lt (order_by key x y)) xs c.is_sorted_by.result) c.as_slice.ensures.value
    (c.is_sorted_by.ensures.cases (λ x y. is_lt (order_by key x y)) (answers_always _ _ _ (λ x a r f' k. search (rules, tests)))) in
    answered key c.args.values.items sorted c.sort_unstable_by.ensures.permutation up c.is_sorted_by.result answer
