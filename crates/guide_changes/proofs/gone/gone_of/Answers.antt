use Rattle.std.proofs.Common.{◌≡◌, ◌≤◌, ℕ, List, [], ◌++◌, append_assoc, arith, length, rules, subst, sym}
use Rattle.std.proofs.lemmas.List.{append-nil}
use Rattle.guide_changes.specs.Changes.{AreGoneOf}
use Rattle.guide_changes.proofs.Walking.{gone_before, none_gone}
use Rattle.guide_changes.proofs.gone.gone_of.Goals as goal

pub loop-i-init : goal.loop-i-init
loop-i-init g c =
    λ rest are. subst (λ (xs : List ℕ). AreGoneOf c.args.guides.now c.args.names.now (xs ++ rest)) (sym c.new-out.ensures.items) are

pub loop-i-preserved : goal.loop-i-preserved
loop-i-preserved g c = λ rest are.
    let at = c.args.guides.now in
    let all = c.args.names.now in
    let out : List ℕ = c.loop-i.out.items in
    let text : List ℕ = c.in_ok-text.text.items in
    let added : c.append.new.out.items ≡ out ++ text = search rules in
    subst (λ (xs : List ℕ). AreGoneOf at all (xs ++ rest)) (sym added)
    (subst (λ (xs : List ℕ). AreGoneOf at all xs) (sym (append_assoc out text rest))
    (c.loop-i.invariant (text ++ rest) (gone_before at all c.loop-i.i c.as_slice.result.now text rest (omega (arith)) (search rules)
    c.in_ok-text.ensures are)))

pub returns : goal.returns
returns g c =
    let all = c.args.names.now in
    let ended : length all ≤ c.loop-i.i = omega (arith) in
    subst (λ (xs : List ℕ). AreGoneOf c.args.guides.now all xs) (append-nil c.loop-i.out.items)
    (c.loop-i.invariant [] (none_gone c.args.guides.now all c.loop-i.i ended))
