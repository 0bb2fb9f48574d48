use Rattle.std.proofs.Common.{rules, ◌≡◌, ◌++◌, List, subst, sym, ⊎_elim}
use Rattle.std.specs.List.{Contains}
use Rattle.std.proofs.lemmas.List.Elements.{Contains-append_cases, Contains-append_left, Contains-append_right}
use Rattle.hub_kinds.specs.declared.fault.Fault.{Fault}
use Rattle.set_walk.proofs.whole.faults_of_both.Goals as goal

turned : (xs ys : List Fault) (f : Fault) → Contains (ys ++ xs) f → Contains (xs ++ ys) f
turned xs ys f h =
    ⊎_elim (Contains-append_right xs ys f) (Contains-append_left xs ys f) (Contains-append_cases ys xs f h)

pub returns-then-len : goal.returns-then-len
returns-then-len c f =
    let all : c.append.new.self ≡ c.args.errors ++ c.args.structure = search rules in (
      λ h. turned c.args.structure c.args.errors f (subst (λ (l : List Fault). Contains l f) all h),
      λ h. subst (λ (l : List Fault). Contains l f) (sym all) (turned c.args.errors c.args.structure f h),
    )

pub returns : goal.returns
returns c f =
    let all : c.append-2.new.self ≡ c.args.structure ++ c.args.errors = search rules in (
      λ h. subst (λ (l : List Fault). Contains l f) all h,
      λ h. subst (λ (l : List Fault). Contains l f) (sym all) h,
    )
