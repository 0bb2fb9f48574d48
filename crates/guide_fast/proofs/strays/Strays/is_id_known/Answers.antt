use Rattle.std.proofs.Common.{ap, ◌∙◌}
use Rattle.std.specs.Str.{bytes_eq}
use Rattle.guide_tree.specs.declared.rows.GuideRows.{GuideRows}
use Rattle.guide_tree.specs.Words.{any_slot, nodes_view}
use Rattle.guide_fast.specs.Slots.{lent_slots, slot_ids}
use Rattle.guide_fast.proofs.Straying.{known_id}
use Rattle.guide_fast.proofs.strays.Strays.is_id_known.Goals as goal

pub returns : goal.returns
returns c =
    let id = c.args.id.now in
    let slots = lent_slots c.self.inside.slots.items in
    known_id id (nodes_view c.self.inside.guide.now.nodes.items) slots c.contains.result c.self.invariant.0
    (c.contains.ensures (slot_ids slots) c.self.invariant.1)
    ∙ ap (λ (rows : GuideRows). any_slot (λ x. bytes_eq x.id id) (nodes_view rows.nodes.items)) c.self.view_is
