use Rattle.std.proofs.Common.{◌≡◌, List, length, sym, subst, ap, ◌∙◌, arith, rules}
use Rattle.std.specs.List.{Contains, filter}
use Rattle.std.proofs.lemmas.List.{take_all, length-map}
use Rattle.guide_tree.specs.declared.rows.Dependency.{Dependency}
use Rattle.loop_match.specs.PlacedSegments.{PlacedSegment}
use Rattle.loop_match.specs.Viewed.{placed_views}
use Rattle.depend_check.specs.Dependencies.{is_dependency_triggered}
use Rattle.depend_check.specs.Uses.{lent}
use Rattle.depend_check.proofs.Lists.{kept_more, of_filter}
use Rattle.depend_check.proofs.triggered.triggered.Goals as goal
use denote.Ref.{Bor}

pub loop-i-preserved : goal.loop-i-preserved
loop-i-preserved c =
    let ps : List PlacedSegment = placed_views c.args.placed.now in
    record {
      known = c.in_ok-texts.ensures.own;
      found = kept_more (λ d. is_dependency_triggered d ps) (λ (x : Bor Dependency). x.now) c.in_ok-all.all.items c.loop-i.i
          c.index-dependency.result.now (lent c.loop-i.found.items) (lent c.add_triggered.new.found.items) (search rules)
          (omega (arith, c.loop-i-test.true, c.len-i-end.ensures)) c.loop-i.invariant.found
          (c.in_ok-add_triggered.ensures ps c.in_ok-texts.ensures.asked);
    }

pub returns : goal.returns
returns c d =
    let ps : List PlacedSegment = placed_views c.args.placed.now in
    let all : List Dependency = lent c.in_ok-all.all.items in
    let n : length all ≡ length c.in_ok-all.all.items = length-map c.in_ok-all.all.items (λ (x : Bor Dependency). x.now) in
    let found : lent c.loop-i.found.items ≡ filter (λ x. is_dependency_triggered x ps) all =
    c.loop-i.invariant.found ∙ ap (filter (λ x. is_dependency_triggered x ps)) (take_all c.loop-i.i all (omega arith)) in
    let same = of_filter (λ x. is_dependency_triggered x ps) all d in
    let listed = c.in_ok-all.ensures d in (
      λ h. let w = same.0 (subst (λ (l : List Dependency). Contains l d) found h) in (listed.0 w.0, w.1),
      λ h. subst (λ (l : List Dependency). Contains l d) (sym found) (same.1 (listed.1 h.0, h.1)),
    )
