use Rattle.std.proofs.Common.{◌≡◌, ◌≤◌, ℕ, List, [], ◌++◌, append_assoc, arith, length, rules, subst, sym}
use Rattle.std.proofs.lemmas.List.{append-nil}
use Rattle.guide_changes.specs.Changes.{AreChangesOf}
use Rattle.guide_changes.proofs.Walking.{change_before, no_change}
use Rattle.guide_changes.proofs.changes.changes_of.Goals as goal

pub loop-i-init : goal.loop-i-init
loop-i-init g c =
    λ rest are. subst (λ (xs : List ℕ). AreChangesOf c.args.before.now c.args.files.now (xs ++ rest)) (sym c.new-out.ensures.items) are

pub loop-i-preserved : goal.loop-i-preserved
loop-i-preserved g c = λ rest are.
    let at = c.args.before.now in
    let all = c.args.files.now in
    let out : List ℕ = c.loop-i.out.items in
    let text : List ℕ = c.in_ok-text.text.items in
    let added : c.append.new.out.items ≡ out ++ text = search rules in
    subst (λ (xs : List ℕ). AreChangesOf at all (xs ++ rest)) (sym added)
    (subst (λ (xs : List ℕ). AreChangesOf at all xs) (sym (append_assoc out text rest))
    (c.loop-i.invariant (text ++ rest) (change_before at all c.loop-i.i c.index-files-i.result text rest (omega (arith)) (search rules)
    c.in_ok-text.ensures are)))

pub returns : goal.returns
returns g c =
    let all = c.args.files.now in
    let ended : length all ≤ c.loop-i.i = omega (arith) in
    subst (λ (xs : List ℕ). AreChangesOf c.args.before.now all xs) (append-nil c.loop-i.out.items)
    (c.loop-i.invariant [] (no_change c.args.before.now all c.loop-i.i ended))
