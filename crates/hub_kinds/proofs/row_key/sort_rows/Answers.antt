use Rattle.std.proofs.Common.{◌≡◌, rules, tests, sym, subst}
use Rattle.std.specs.Ordering.{is_lt, eq_by_cmp}
use Rattle.std.specs.List.{Contains}
use Rattle.std.specs.List.Sorted.{IsSorted}
use Rattle.std.proofs.lemmas.Fn.{always_returns_same, dedup_same}
use Rattle.hub_kinds.specs.Rising.{order_by}
use Rattle.hub_kinds.specs.Rows.{IsOnceEach, row_key}
use Rattle.hub_kinds.proofs.Once.{order_ranks, once, once_each}
use Rattle.hub_kinds.proofs.row_key.sort_rows.Goals as goal

pub returns : goal.returns
returns c =
    let key = row_key c.args.whole.now in
    let sorted = c.sort_unstable_by.new.self.items in
    let kept : c.dedup_by.new.self.items ≡ once key sorted =
    dedup_same _ (eq_by_cmp (order_by key)) _ (λ x y b f' x' y' k. search rules) _ _ c.dedup_by.ensures.filtered in
    let up : IsSorted (order_by key) sorted =
    c.sort_unstable_by.ensures.sorted (λ x y. is_lt (order_by key x y)) (order_ranks key)
    (always_returns_same _ _ _ (λ a r g called. search (rules, tests))) in
    subst (IsOnceEach key c.args.rows.now.items) (sym kept)
    (once_each key c.args.rows.now.items sorted c.sort_unstable_by.ensures.permutation up)
