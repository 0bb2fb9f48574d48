use Rattle.std.proofs.Common.{◌≡◌, rules, tests, sym, subst}
use Rattle.std.specs.Ordering.{is_lt, eq_by_cmp}
use Rattle.std.specs.List.{Contains}
use Rattle.std.specs.List.Sorted.{IsSorted}
use Rattle.std.proofs.lemmas.Fn.{dedup_same}
use Rattle.std.proofs.lemmas.List.Sorted.{answers_always}
use Rattle.hub_kinds.specs.Rising.{order_by, IsRisingBy}
use Rattle.hub_kinds.proofs.Once.{order_ranks, once, once_rises, once_from, once_to}
use Rattle.hub_kinds.proofs.rising.in_order.Goals as goal

pub returns-clause-same : goal.returns-clause-same
returns-clause-same g c x =
    let key = g.T.Keyed.key in
    let sorted = c.sort_unstable_by.new.self.items in
    let kept : c.dedup_by.new.self.items ≡ once key sorted =
    dedup_same _ (eq_by_cmp (order_by key)) _ (λ x y b f' x' y' k. search rules) _ _ c.dedup_by.ensures.filtered in (
      λ h. once_from key _ sorted x c.sort_unstable_by.ensures.permutation (subst (λ l. Contains l x) kept h),
      λ h. subst (λ l. Contains l x) (sym kept) (once_to key _ sorted x c.sort_unstable_by.ensures.permutation c.requires h),
    )

pub returns-clause-rising : goal.returns-clause-rising
returns-clause-rising g c =
    let key = g.T.Keyed.key in
    let sorted = c.sort_unstable_by.new.self.items in
    let kept : c.dedup_by.new.self.items ≡ once key sorted =
    dedup_same _ (eq_by_cmp (order_by key)) _ (λ x y b f' x' y' k. search rules) _ _ c.dedup_by.ensures.filtered in
    let up : IsSorted (order_by key) sorted =
    c.sort_unstable_by.ensures.sorted (λ x y. is_lt (order_by key x y)) (order_ranks key)
    (answers_always _ _ _ (λ x a r f' k. search (rules, tests))) in
    subst (IsRisingBy key) (sym kept) (once_rises key sorted up)
