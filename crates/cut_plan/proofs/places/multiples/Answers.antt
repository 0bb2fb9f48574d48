use Rattle.std.proofs.Common.{rules, arith, sym, ◌∙◌}
use Rattle.std.proofs.lemmas.List.FromFn.{map-range_with_len_more}
use Rattle.cut_plan.proofs.Steps.{rises_from-multiples, list_all-multiples, last_multiple}
use Rattle.cut_plan.proofs.places.multiples.Goals as goal

pub loop-k-preserved : goal.loop-k-preserved
loop-k-preserved c = rw c.loop-k.invariant at c.in_ok-push.ensures.items ∙ sym (map-range_with_len_more _ 1 _ _ (omega arith))

pub returns-clause-rising : goal.returns-clause-rising
returns-clause-rising c = rw c.loop-k.invariant (rises_from-multiples 0 c.args.n 1 c.loop-k.k (omega arith))

pub returns-clause-inside : goal.returns-clause-inside
returns-clause-inside c
    = rw c.loop-k.invariant
    (list_all-multiples c.args.text_len c.args.n 1 c.loop-k.k
    (last_multiple _ c.saturating_sub.result _ _ (omega arith) (search rules) (omega arith)))
