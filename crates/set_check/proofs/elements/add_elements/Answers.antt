use Rattle.std.proofs.Common.{◌≡◌, map, length, ℕ, refl, subst, arith}
use Rattle.std.proofs.lemmas.Option.{slice_get_read}
use Rattle.guide_tree.specs.Words.{nodes_view}
use Rattle.loop_match.specs.Given.{place_in}
use Rattle.set_walk.specs.Told.{Adds}
use Rattle.set_check.specs.Adding.{IsErrorBelow}
use Rattle.set_check.proofs.elements.add_elements.Goals as goal

pub loop-i-preserved : goal.loop-i-preserved
loop-i-preserved c =
    c.in_ok-add_at.ensures c.args.faults.now c.args.segs.now
    (slice_get_read c.args.segs.now (length c.args.segs.now) c.loop-i.i c.index-segs-i.result refl c.loop-i-test.true c.index-segs-i.is)
    c.loop-i.invariant

pub returns : goal.returns
returns c =
    let e : c.loop-i.i ≡ length c.args.segs.now = omega arith in
    subst (λ (n : ℕ). Adds c.args.faults.now c.loop-i.faults
    (IsErrorBelow (nodes_view c.args.nodes.now) c.args.segs.now (map place_in c.args.placing.now.given) n)) e c.loop-i.invariant
