use Rattle.std.proofs.Common.{rules, tests}
use Rattle.std.specs.Ordering.{is_lt}
use Rattle.std.proofs.lemmas.Fn.{always_returns_same}
use Rattle.hub_kinds.specs.Rising.{order_by}
use Rattle.hub_kinds.specs.Rows.{row_key}
use Rattle.hub_kinds.proofs.Distinct.{rising_adjacent}
use Rattle.hub_kinds.proofs.row_key.are_rising.Goals as goal

pub returns : goal.returns
returns c =
    let key = row_key c.args.whole.now in
    rising_adjacent key c.args.rows.now c.is_sorted_by.result
    (c.is_sorted_by.ensures.cases (λ x y. is_lt (order_by key x y)) (always_returns_same _ _ _ (λ a r g called. search (rules, tests))))
