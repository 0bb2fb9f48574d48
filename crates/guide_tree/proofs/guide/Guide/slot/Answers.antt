use Rattle.std.proofs.Common.{List, ap, ◌∙◌}
use Rattle.guide_tree.specs.declared.node.Node.{Node}
use Rattle.guide_tree.specs.View.{guide_of, nodes_view}
use Rattle.guide_tree.specs.Slots.{has_slot_number, slot_numbered}
use Rattle.guide_tree.proofs.Sound.{sound_lent}
use Rattle.guide_tree.proofs.guide.Guide.slot.Goals as goal

pub returns-clause-sound : goal.returns-clause-sound
returns-clause-sound c =
    sound_lent (guide_of c.self.inside.rows) (has_slot_number c.args.number) c.slot_numbered.result c.self.invariant.well_formed
    (c.slot_numbered.ensures ∙ ap (λ (nodes : List Node). slot_numbered (nodes_view nodes) c.args.number) c.deref.ensures.value)
