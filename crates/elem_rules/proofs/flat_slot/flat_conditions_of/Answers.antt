use Rattle.std.proofs.Common.{List, ◌≤◌, ◌+◌, length, take, subst, sym, arith}
use Rattle.std.proofs.lemmas.List.{take_all}
use Rattle.guide_tree.specs.declared.slot.Condition.{Condition}
use Rattle.elem_rules.specs.declared.flat_condition.FlatCondition.{FlatCondition}
use Rattle.elem_rules.specs.Flat.{AreFlatConditions}
use Rattle.elem_rules.proofs.FlatSlots.{conditions_more}
use Rattle.elem_rules.proofs.flat_slot.flat_conditions_of.Goals as goal

pub loop-k-preserved : goal.loop-k-preserved
loop-k-preserved c =
    let k = c.loop-k.k in
    subst (λ (fs : List FlatCondition). AreFlatConditions fs (take (k + 1) c.args.conditions.now)) (sym c.in_ok-push.ensures.items)
    (conditions_more c.loop-k.flat.items c.args.conditions.now c.flat_condition_of.result c.index-conditions-k.result k
    c.loop-k-test.true c.index-conditions-k.is c.flat_condition_of.ensures c.loop-k.invariant)

pub returns : goal.returns
returns c =
    let all : length c.args.conditions.now ≤ c.loop-k.k = omega (arith, c.loop-k-test.false) in
    subst (λ (cs : List Condition). AreFlatConditions c.loop-k.flat.items cs) (take_all c.loop-k.k c.args.conditions.now all)
    c.loop-k.invariant
