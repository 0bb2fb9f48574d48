use Rattle.std.proofs.Common.{map}
use Rattle.guide_tree.specs.Words.{nodes_view}
use Rattle.loop_match.specs.Given.{place_in}
use Rattle.loop_match.specs.Steps.{place_view}
use Rattle.set_check.proofs.Adding.{slot_there, place_there, no_slot, adds_placed, adds_stray}
use Rattle.set_check.proofs.elements.add_at.Goals as goal

pub tell_elements-requires : goal.tell_elements-requires
tell_elements-requires c =
    c.requires.sound (place_view c.in-Some-place.place.now) c.in-Some.slot.now
    (slot_there (nodes_view c.args.nodes.now) c.args.placing.now.given c.args.index (place_view c.in-Some-place.place.now)
    c.in-Some.slot.now
    c.requires.slots c.in-Some-place.ensures c.in-Some.ensures)

pub returns-in-None : goal.returns-in-None
returns-in-None c old segs there before =
    adds_stray (nodes_view c.args.nodes.now) segs (map place_in c.args.placing.now.given) old c.args.faults.now c.args.index before
    (λ q h. no_slot c.args.placing.now.given c.args.index q c.in-None.ensures h)

pub returns-in_ok-tell_elements-in-Some-place : goal.returns-in_ok-tell_elements-in-Some-place
returns-in_ok-tell_elements-in-Some-place c old segs there before =
    adds_placed (nodes_view c.args.nodes.now) segs (map place_in c.args.placing.now.given) old c.args.faults.now
    c.tell_elements.new.faults c.args.index c.args.seg.now (place_view c.in-Some-place.place.now) c.in-Some.slot.now before there
    (place_there c.args.placing.now.given c.args.index (place_view c.in-Some-place.place.now) c.in-Some-place.ensures)
    (slot_there (nodes_view c.args.nodes.now) c.args.placing.now.given c.args.index (place_view c.in-Some-place.place.now)
    c.in-Some.slot.now
    c.requires.slots c.in-Some-place.ensures c.in-Some.ensures)
    c.in_ok-tell_elements-in-Some-place.ensures
