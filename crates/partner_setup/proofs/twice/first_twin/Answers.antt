use Rattle.std.proofs.Common.{◌≡◌, ◌+◌, ◌-◌, ℕ, Bool, cond, Some, drop, length, sym, ap, subst, ◌∙◌, arith}
use Rattle.std.specs.BTreeSet.{contains}
use Rattle.std.proofs.lemmas.Bool.{not-false, not-true}
use Rattle.hub_kinds.specs.Words.{order_by}
use Rattle.partner_setup.specs.SetupFaults.{twin_from}
use Rattle.partner_setup.proofs.Twins.{HasTold, key_of, more_told, more_twin}
use Rattle.partner_setup.proofs.twice.first_twin.Goals as goal
use Rattle.partner_setup.proofs.twice.first_twin.Goals.{then-not-branch, else-not-branch}

pub loop-count-preserved : goal.loop-count-preserved
loop-count-preserved g c =
    let rows = c.args.rows.now in
    let tells = g.K.Tells.tells in
    let old = c.loop-count.behind in
    let count : ℕ = c.loop-count.count in
    let i : ℕ = length rows - 1 - count in
    let test = c.loop-count-test.true in
    let next : length rows - count ≡ i + 1 = omega arith in
    let same : i ≡ length rows - (count + 1) = omega arith in
    let has = subst (λ (n : ℕ). HasTold tells old (drop n rows)) next c.loop-count.invariant.behind in
    let so_far = subst (λ (n : ℕ). c.loop-count.twin ≡ twin_from tells n (drop n rows)) next c.loop-count.invariant.twin in
    let there : Bool = contains (order_by key_of) old c.tell.result in
    let twin : c.if-not-branch.twin ≡ cond there (Some i) c.loop-count.twin = elim c.if-not-branch.branch [
      | then-not-branch w ↦ w.twin-is ∙ ap (λ (b : Bool). cond b (Some i) c.loop-count.twin)
          (sym (not-false there (sym c.in_ok-insert.ensures.added ∙ w.if-not-branch.true)))
      | else-not-branch w ↦ w.twin-is ∙ ap (λ (b : Bool). cond b (Some i) c.loop-count.twin)
          (sym (not-true there (sym c.in_ok-insert.ensures.added ∙ w.if-not-branch.false)))
    ] in
    record {
      behind = subst (λ (n : ℕ). HasTold tells c.insert.new.self (drop n rows)) same
          (more_told tells rows old c.insert.new.self c.tell.result i c.index-rows-i.result (omega arith) c.index-rows-i.is c.tell.ensures
          c.in_ok-insert.ensures.updates.0 has);
      twin = subst (λ (n : ℕ). c.if-not-branch.twin ≡ twin_from tells n (drop n rows)) same
          (twin ∙ more_twin tells rows old c.tell.result i c.index-rows-i.result c.loop-count.twin (omega arith) c.index-rows-i.is
          c.tell.ensures has so_far);
    }
