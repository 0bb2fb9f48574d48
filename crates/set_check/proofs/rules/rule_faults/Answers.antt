use Rattle.std.proofs.Common.{◌+◌, ⊎_elim, inl, inr, length, map, sym, subst, List}
use Rattle.std.specs.List.{Contains}
use Rattle.std.proofs.lemmas.List.Elements.{Contains-append_left, Contains-append_right, Contains-append_cases}
use Rattle.hub_kinds.specs.declared.fault.Fault.{Fault}
use Rattle.x12_segs.specs.Words.{elements_of}
use Rattle.guide_tree.specs.Words.{guide_of}
use Rattle.loop_match.specs.Given.{place_in}
use Rattle.set_check.proofs.Keyed.{rules_keyed}
use Rattle.set_check.proofs.Rising.{rising_keyed}
use Rattle.set_check.proofs.rules.rule_faults.Goals as goal

pub returns-clause-exact : goal.returns-clause-exact
returns-clause-exact c delims read f =
    let hierarchies = c.in_ok-faults.faults in
    let dependencies = c.in_ok-dependencies.dependencies in
    let by_hl = c.in_ok-faults.ensures.faults delims read f in
    let by_need = c.in_ok-dependencies.ensures.faults delims read f in (
      λ h. ⊎_elim (λ a. inl (by_hl.0 a)) (λ b. inr (by_need.0 b)) (Contains-append_cases hierarchies dependencies f
          (subst (λ (l : List Fault). Contains l f) c.in_ok-append.ensures h)),
      λ h. subst (λ (l : List Fault). Contains l f) (sym c.in_ok-append.ensures) (⊎_elim
          (λ a. Contains-append_left hierarchies dependencies f (by_hl.1 a))
          (λ b. Contains-append_right hierarchies dependencies f (by_need.1 b)) h),
    )

pub returns-clause-keyed : goal.returns-clause-keyed
returns-clause-keyed c delims read =
    rules_keyed (guide_of c.args.guide.now) delims (map elements_of c.args.segs.now) (map place_in c.args.placing.now.given)
    (length c.args.segs.now + 2) c.in_ok-faults.faults c.in_ok-dependencies.dependencies c.append.new.self
    (rising_keyed _ c.in_ok-faults.ensures.rising) (rising_keyed _ c.in_ok-dependencies.ensures.rising)
    (λ f. c.in_ok-faults.ensures.faults delims read f) (λ f. c.in_ok-dependencies.ensures.faults delims read f)
    c.in_ok-append.ensures
