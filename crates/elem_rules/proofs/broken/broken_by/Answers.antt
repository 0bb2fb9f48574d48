use Rattle.std.proofs.Common.{ℕ, List, take, subst}
use Rattle.std.specs.List.{flat_map}
use Rattle.std.proofs.lemmas.List.{take_all}
use Rattle.guide_tree.specs.declared.slot.Condition.{Condition}
use Rattle.elem_rules.specs.Clean.{is_set}
use Rattle.elem_rules.specs.Marks.{AreBits, missing_at, excluded_at}
use Rattle.elem_rules.proofs.Marks.{none_set, next_listed}
use Rattle.elem_rules.proofs.broken.broken_by.Goals as goal

pub loop-condition-init : goal.loop-condition-init
loop-condition-init c = record { missing = none_set; excluded = none_set }

pub loop-condition-preserved : goal.loop-condition-preserved
loop-condition-preserved c =
    let k = c.loop-condition.condition-index in
    let all = c.args.conditions.now in
    let next = c.in_ok-broken.broken in
    let missing = missing_at (is_set c.args.present) in
    let excluded = excluded_at (is_set c.args.present) in
    record {
      missing = subst (λ (l : List ℕ). AreBits next.missing l)
          (next_listed missing all k c.condition-item.result c.loop-condition-test.true c.condition-item.is)
          (c.in_ok-broken.ensures.missing (flat_map missing (take k all)) c.loop-condition.invariant.missing);
      excluded = subst (λ (l : List ℕ). AreBits next.excluded l)
          (next_listed excluded all k c.condition-item.result c.loop-condition-test.true c.condition-item.is)
          (c.in_ok-broken.ensures.excluded (flat_map excluded (take k all)) c.loop-condition.invariant.excluded);
    }

pub returns-clause-missing : goal.returns-clause-missing
returns-clause-missing c =
    subst (λ (l : List Condition). AreBits c.loop-condition.broken.missing (flat_map (missing_at (is_set c.args.present)) l))
    (take_all c.loop-condition.condition-index c.args.conditions.now c.loop-condition-test.false) c.loop-condition.invariant.missing

pub returns-clause-excluded : goal.returns-clause-excluded
returns-clause-excluded c =
    subst (λ (l : List Condition). AreBits c.loop-condition.broken.excluded (flat_map (excluded_at (is_set c.args.present)) l))
    (take_all c.loop-condition.condition-index c.args.conditions.now c.loop-condition-test.false) c.loop-condition.invariant.excluded
