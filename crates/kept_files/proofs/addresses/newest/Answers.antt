use Rattle.std.proofs.Common.{◌≡◌, ◌∙◌, ap, reverse, rules, subst, sym, tests}
use Rattle.std.specs.Ordering.{eq_by_cmp, is_lt}
use Rattle.std.proofs.lemmas.Fn.{dedup_same}
use Rattle.std.proofs.lemmas.List.Sorted.{answers_always}
use Rattle.hub_kinds.specs.Rising.{order_by}
use Rattle.kept_files.proofs.Ordered.{once, order_ranks}
use Rattle.kept_files.specs.Addressed.{AreNewest, address_in}
use Rattle.kept_files.proofs.Rows.{newest_of}
use Rattle.kept_files.proofs.addresses.newest.Goals as goal

pub returns : goal.returns
returns c = λ of entries_are.
    let sorted = c.sort_by.new.self.items in
    let kept : c.dedup_by.new.self.items ≡ once address_in sorted =
    dedup_same _ (eq_by_cmp (order_by address_in)) _ (λ x y b f' x' y' k. search rules) _ _ c.dedup_by.ensures.filtered in
    subst (AreNewest of) (sym kept) (newest_of of c.reverse.new.self.items sorted (c.reverse.ensures.items ∙ ap reverse entries_are)
    c.in_ok-sort_by.ensures.permutation
    (c.in_ok-sort_by.ensures.sorted (λ x y. is_lt (order_by address_in x y)) (order_ranks address_in)
    (answers_always _ _ _ (λ x a r f' k. search (rules, tests))))
    (c.in_ok-sort_by.ensures.stable (λ x y. is_lt (order_by address_in x y)) (order_ranks address_in)
    (answers_always _ _ _ (λ x a r f' k. search (rules, tests)))))
