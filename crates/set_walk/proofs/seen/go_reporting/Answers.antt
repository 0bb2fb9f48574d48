use Rattle.std.proofs.Common.{◌≡◌, ◌∙◌, ◌+◌, ◌<◌, ◌++◌, ap, sym, subst, refl, List, arith}
use Rattle.std.specs.Prelude.{Vec}
use Rattle.std.specs.List.{AllByRecursion}
use Rattle.std.specs.declared.alloc.Global.{Global}
use Rattle.guide_tree.specs.declared.node.Node.{Node}
use Rattle.guide_tree.specs.declared.rows.GuideRows.{GuideRows}
use Rattle.guide_tree.specs.Words.{guide_of, nodes_view, step_faults}
use Rattle.loop_match.specs.declared.next.Step.{Step}
use Rattle.loop_match.specs.LoopIds.{loop_id_of}
use Rattle.loop_match.specs.Steps.{place_view, last_of, turned}
use Rattle.set_walk.specs.Told.{IsTold, Adds}
use Rattle.set_walk.proofs.Taking.{own_id, roomy, took}
use Rattle.set_walk.proofs.seen.go_reporting.Goals as goal

pub step_by-requires : goal.step_by-requires
step_by-requires c =
    let few = c.requires.few in
    subst (AllByRecursion (λ (s : Step). s.use_no + 1 < 18446744073709551616)) (sym c.as_slice-2.ensures.value)
    (roomy c.args.seen.now.walk.count c.args.seen.now.walk.last.items (omega (arith, few)) c.requires.room)

pub keep-requires-clause-id : goal.keep-requires-clause-id
keep-requires-clause-id c = own_id (guide_of c.args.fast.now) c.args.seen.now.walk.last.items c.args.turn.now c.args.seg.now c.requires.turn

pub returns : goal.returns
returns c =
    let g = guide_of c.args.fast.now in
    let old = c.args.seen.now in
    let last = old.walk.last.items in
    let t = c.args.turn.now in
    let seg = c.args.seg.now in
    let at = old.walk.count + 2 in
    let more = c.write_place.new.next.items in
    let moved : c.swap.new.x.items ≡ more = ap (λ (v : Vec Step Global). v.items) c.swap.ensures.x_after in
    let goes : place_view more ≡ (turned (place_view last) t).place =
    c.in_ok-write_place.ensures ∙ ap (λ (l : List Step). (turned (place_view l) t).place) c.as_slice.ensures.value in
    let structure : c.step_by.new.found ≡ old.structure ++ step_faults at g.nodes (last_of (place_view last)) (place_view more) =
    c.in_ok-step_by.ensures
    ∙ ap (λ (l : List Step). old.structure ++ step_faults at g.nodes (last_of (place_view l)) (place_view c.as_slice-place.result.now))
    c.as_slice-2.ensures.value
    ∙ ap (λ (l : List Step). old.structure ++ step_faults at g.nodes (last_of (place_view last)) (place_view l))
    c.as_slice-place.ensures.value in
    let nodes = c.as_slice-nodes.ensures.value ∙ ap (λ (r : GuideRows). r.nodes.items) (c.rows.ensures.same ∙ c.guide.ensures) in
    let adds : Adds old.errors c.tell_found.new.faults (IsTold at seg (loop_id_of g.nodes (place_view more)) t.slot.now) =
    subst (λ (l : List Step). Adds old.errors c.tell_found.new.faults
    (IsTold at seg (loop_id_of g.nodes (place_view l)) t.slot.now)) c.as_slice-place.ensures.value
    (subst (λ (ns : List Node). Adds old.errors c.tell_found.new.faults
    (IsTold at seg (loop_id_of (nodes_view ns) (place_view c.as_slice-place.result.now)) t.slot.now)) nodes c.in_ok-tell_found.ensures) in
    took g old
    (record {
      walk = record { last = c.swap.new.x; next = c.swap.new.y; slot = t.slot.now.number; count = old.walk.count + 1 };
      structure = c.step_by.new.found;
      errors = c.tell_found.new.faults;
      kept = c.keep.new.kept;
      trailer = old.trailer;
    })
    t seg c.requires.turn (ap place_view moved ∙ goes) c.requires.uses c.requires.room refl
    (structure ∙ ap (λ (l : List Step). old.structure ++ step_faults at g.nodes (last_of (place_view last)) (place_view l)) (sym moved))
    (subst (λ (l : List Step). Adds old.errors c.tell_found.new.faults
    (IsTold at seg (loop_id_of g.nodes (place_view l)) t.slot.now)) (sym moved) adds)
    c.in_ok-keep.ensures refl
