use Rattle.std.proofs.Common.{◌≡◌, ◌∙◌, ◌+◌, ◌++◌, [], ap, sym, refl, List}
use Rattle.std.proofs.lemmas.List.{append-nil}
use Rattle.hub_kinds.specs.declared.fault.Fault.{Fault}
use Rattle.guide_tree.specs.Words.{guide_of, step_faults}
use Rattle.loop_match.specs.LoopIds.{loop_id_of}
use Rattle.loop_match.specs.Steps.{place_view, last_of, turned}
use Rattle.set_walk.proofs.Taking.{own_id, took}
use Rattle.set_walk.proofs.Telling.{none_added}
use Rattle.set_walk.proofs.seen.go_silently.Goals as goal

pub keep-requires-clause-id : goal.keep-requires-clause-id
keep-requires-clause-id c = own_id (guide_of c.args.fast.now) c.args.seen.now.walk.last.items c.args.turn.now c.args.seg.now c.requires.turn

pub returns : goal.returns
returns c =
    let g = guide_of c.args.fast.now in
    let old = c.args.seen.now in
    let last = old.walk.last.items in
    let t = c.args.turn.now in
    let seg = c.args.seg.now in
    let at = old.walk.count + 2 in
    let more = c.move_on.new.last.items in
    let goes : place_view more ≡ (turned (place_view last) t).place = c.in_ok-move_on.ensures in
    let none : step_faults at g.nodes (last_of (place_view last)) (place_view more) ≡ [] =
    ap (step_faults at g.nodes (last_of (place_view last))) goes ∙ c.requires.silent at in
    took g old
    (record {
      walk = record { last = c.move_on.new.last; next = old.walk.next; slot = t.slot.now.number; count = old.walk.count + 1 };
      structure = old.structure;
      errors = old.errors;
      kept = c.keep.new.kept;
      trailer = old.trailer;
    })
    t seg c.requires.turn goes c.requires.uses c.requires.room refl
    (sym (ap (λ (l : List Fault). old.structure ++ l) none ∙ append-nil old.structure))
    (none_added old.errors at seg (loop_id_of g.nodes (place_view more)) t.slot.now c.requires.faultless)
    c.in_ok-keep.ensures refl
