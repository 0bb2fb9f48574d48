use Rattle.std.proofs.Common.{◌≡◌, ◌↔◌, ◌∷◌, ◌++◌, [], List, take, ◌+◌, sym, subst}
use Rattle.std.specs.List.{Contains}
use Rattle.std.proofs.lemmas.List.{take_all}
use Rattle.std.proofs.lemmas.List.Elements.{Contains-push}
use Rattle.guide_tree.specs.declared.rows.Dependency.{Dependency}
use Rattle.guide_tree.specs.Words.{nodes_view}
use Rattle.hub_kinds.specs.declared.fault.Fault.{Fault}
use Rattle.loop_match.specs.Viewed.{placed_views}
use Rattle.depend_check.specs.Uses.{HaveSameTarget, IsBrokenAmong, lent}
use Rattle.depend_check.proofs.Asking.{told_more, told_again, both_of}
use Rattle.depend_check.proofs.Lists.{more_views}
use Rattle.depend_check.proofs.asked.find_broken.Goals.{then-not-asks_again+in_ok-add_broken, else-not-asks_again}
use Rattle.depend_check.proofs.asked.find_broken.Goals as goal
use denote.Ref.{Bor}

pub loop-i-preserved : goal.loop-i-preserved
loop-i-preserved c =
    let ts = nodes_view c.args.nodes.now in
    let ps = placed_views c.args.placed.now in
    let ds : List Dependency = lent (take c.loop-i.i c.args.asked.now) in
    let all : List Dependency = lent (take (c.loop-i.i + 1) c.args.asked.now) in
    let d : Dependency = c.index-asked-i.result.now in
    let is : all ≡ ds ++ d ∷ [] =
    more_views (λ (x : Bor Dependency). x.now) c.args.asked.now c.loop-i.i c.index-asked-i.result c.index-asked-i.is c.loop-i-test.true in
    record {
      before = subst (λ (l : List Dependency). Contains l d) (sym is) (Contains-push ds d);
      told = elim c.if-not-asks_again.branch [
        | then-not-asks_again+in_ok-add_broken w ↦
            subst (λ (v : List Fault). (f : Fault) → Contains v f ↔ IsBrokenAmong ts c.args.delims
            c.args.end ps all f) (sym w.faults-is)
            (told_more ts c.args.delims c.args.end ps ds all d c.loop-i.faults w.add_broken.new.faults is
            c.loop-i.invariant.told w.in_ok-add_broken.ensures)
        | else-not-asks_again w ↦
            let both = both_of (λ (b : Bor Dependency). Contains ds b.now) (λ (b : Bor Dependency). HaveSameTarget b.now d)
            c.loop-i.before c.loop-i.invariant.before (c.asks_again.ensures w.if-not-asks_again.false) in
            subst (λ (v : List Fault). (f : Fault) → Contains v f ↔ IsBrokenAmong ts c.args.delims
            c.args.end ps all f) (sym w.faults-is)
            (told_again ts c.args.delims c.args.end ps ds all both.0.now d c.loop-i.faults is both.1 both.2
            c.loop-i.invariant.told)
      ];
    }

pub returns : goal.returns
returns c f =
    subst (λ (l : List (Bor Dependency)). Contains c.loop-i.faults f
    ↔ IsBrokenAmong (nodes_view c.args.nodes.now) c.args.delims c.args.end (placed_views c.args.placed.now) (lent l) f)
    (take_all c.loop-i.i c.args.asked.now c.loop-i-test.false) (c.loop-i.invariant.told f)
