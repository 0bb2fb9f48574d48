use Rattle.std.proofs.Common.{◌≡◌, ◌∙◌, ap, map, sym, subst, List, length}
use Rattle.hub_kinds.specs.declared.fault.Fault.{Fault}
use Rattle.guide_tree.specs.declared.node.Node.{Node}
use Rattle.guide_tree.specs.declared.rows.GuideRows.{GuideRows}
use Rattle.guide_tree.specs.Words.{slot_given, guide_of, nodes_view}
use Rattle.loop_match.specs.Given.{place_in, slot_in}
use Rattle.set_walk.specs.Told.{Adds}
use Rattle.set_check.specs.Adding.{AreSound, IsErrorBelow}
use Rattle.set_walk.proofs.ForAbove.{sound_places}
use Rattle.set_check.proofs.elements.element_faults.Goals as goal

pub add_elements-requires-clause-sound : goal.add_elements-requires-clause-sound
add_elements-requires-clause-sound c =
    subst (λ (ns : List Node). AreSound (nodes_view ns))
    (sym (c.as_slice.ensures.value ∙ ap (λ (r : GuideRows). r.nodes.items) c.rows-rows.ensures.same))
    (sound_places (guide_of c.args.guide.now) c.rows-rows.ensures.accepted.well_formed)

pub add_elements-requires-clause-slots : goal.add_elements-requires-clause-slots
add_elements-requires-clause-slots c =
    let nodes = c.as_slice.ensures.value ∙ ap (λ (r : GuideRows). r.nodes.items) c.rows-rows.ensures.same in
    let given = c.args.placing.now.given in
    subst (λ (ns : List Node). map slot_in given ≡ map (slot_given (nodes_view ns)) (map place_in given)) (sym nodes) c.requires

pub returns-clause-errors : goal.returns-clause-errors
returns-clause-errors c =
    let nodes = c.as_slice.ensures.value ∙ ap (λ (r : GuideRows). r.nodes.items) c.rows-rows.ensures.same in
    subst (λ (l : List Fault). Adds l c.add_elements.new.faults (IsErrorBelow (guide_of c.args.guide.now).nodes c.args.segs.now
    (map place_in c.args.placing.now.given) (length c.args.segs.now))) c.new-faults.ensures
    (subst (λ (ns : List Node). Adds c.new-faults.result c.add_elements.new.faults (IsErrorBelow (nodes_view ns)
    c.args.segs.now (map place_in c.args.placing.now.given) (length c.args.segs.now))) nodes c.in_ok-add_elements.ensures)
