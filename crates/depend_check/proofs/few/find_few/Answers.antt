use Rattle.std.proofs.Common.{◌≡◌, ◌↔◌, ◌+◌, ◌∷◌, ◌++◌, [], List, take, sym, subst, ap, ◌∙◌}
use Rattle.std.specs.List.{Contains}
use Rattle.std.proofs.lemmas.List.{take_all, take_more}
use Rattle.hub_kinds.specs.declared.fault.Fault.{Fault}
use Rattle.guide_tree.specs.Words.{nodes_view}
use Rattle.guide_tree.specs.declared.rows.Dependency.{Dependency}
use Rattle.loop_match.specs.Viewed.{placed_views}
use Rattle.depend_check.specs.Uses.{IsFound}
use Rattle.depend_check.proofs.Asking.{found_more, found_nothing}
use Rattle.depend_check.proofs.few.find_few.Goals as goal

pub loop-i-init : goal.loop-i-init
loop-i-init c f =
    let ts = nodes_view c.args.nodes.now in
    let ps = placed_views c.args.placed.now in
    subst (λ (l : List Fault). Contains l f ↔ IsFound ts c.args.delims c.args.end ps [] f) (sym c.new-faults.ensures)
    (found_nothing ts c.args.delims c.args.end ps f)

pub loop-i-preserved : goal.loop-i-preserved
loop-i-preserved c =
    let ds : List Dependency = take c.loop-i.i c.args.depends.now in
    let d : Dependency = c.index-depends-i.result in
    let is : take (c.loop-i.i + 1) c.args.depends.now ≡ ds ++ d ∷ [] =
    take_more c.args.depends.now c.loop-i.i d c.loop-i-test.true ∙ ap (λ (x : Dependency). ds ++ x ∷ []) (sym c.index-depends-i.is) in
    found_more (nodes_view c.args.nodes.now) c.args.delims c.args.end (placed_views c.args.placed.now) ds
    (take (c.loop-i.i + 1) c.args.depends.now) d c.loop-i.faults c.add_found.new.faults is c.loop-i.invariant
    c.in_ok-add_found.ensures

pub returns : goal.returns
returns c f =
    subst (λ (l : List Dependency). Contains c.loop-i.faults f
    ↔ IsFound (nodes_view c.args.nodes.now) c.args.delims c.args.end (placed_views c.args.placed.now) l f)
    (take_all c.loop-i.i c.args.depends.now c.loop-i-test.false) (c.loop-i.invariant f)
