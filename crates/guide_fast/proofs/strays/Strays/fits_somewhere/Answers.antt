use Rattle.std.proofs.Common.{List, ap, ◌∙◌}
use Rattle.std.specs.List.{list_any}
use Rattle.x12_segs.specs.Words.{elements_of}
use Rattle.guide_tree.specs.declared.rows.GuideRows.{GuideRows}
use Rattle.guide_tree.specs.declared.slot.Slot.{Slot}
use Rattle.guide_tree.specs.Words.{any_slot, fits, nodes_view}
use Rattle.guide_fast.specs.Slots.{lent_slots}
use Rattle.guide_fast.proofs.Straying.{any_fit}
use Rattle.guide_fast.proofs.strays.Strays.fits_somewhere.Goals as goal
use denote.Ref.{Bor}

pub returns : goal.returns
returns c =
    let s = elements_of c.args.seg.now in
    c.any_looked_up.ensures ∙ ap (λ (l : List (Bor Slot)). list_any (λ x. fits x s) (lent_slots l)) c.as_slice-slots.ensures.value
    ∙ any_fit s (nodes_view c.self.inside.guide.now.nodes.items) (lent_slots c.self.inside.slots.items) c.self.invariant.0
    ∙ ap (λ (rows : GuideRows). any_slot (λ x. fits x s) (nodes_view rows.nodes.items)) c.self.view_is
