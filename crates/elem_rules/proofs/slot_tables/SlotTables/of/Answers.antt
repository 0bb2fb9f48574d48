use Rattle.std.proofs.Common.{List, [], ◌∷◌, ◌++◌, Option, None, ap, sym, subst, ◌∙◌}
use Rattle.std.specs.Prelude.{IfSome}
use Rattle.std.specs.List.{All}
use Rattle.guide_tree.specs.declared.node.Node.{Node}
use Rattle.guide_tree.specs.declared.rows.GuideRows.{GuideRows}
use Rattle.guide_tree.specs.declared.slot.Slot.{Slot}
use Rattle.guide_tree.specs.Words.{IsSound, guide_of, nodes_view}
use Rattle.elem_rules.specs.NodeSlots.{lent_slots, numbered_slots, slots_of}
use Rattle.elem_rules.proofs.Standing.{all_sound}
use Rattle.elem_rules.proofs.slot_tables.SlotTables.of.Goals as goal
use denote.Ref.{Bor}

pub flat_nodes_of-requires : goal.flat_nodes_of-requires
flat_nodes_of-requires c =
    subst (λ (l : List (Option Slot)). All (λ o. IfSome o IsSound) l)
    (sym (ap lent_slots c.as_slice-2.ensures.value ∙ c.in_ok-add_slots.ensures
    ∙ ap (λ (l : List (Option (Bor Slot))). lent_slots l ++ slots_of (nodes_view c.as_slice.result.now))
    (c.in_ok-push.ensures.items ∙ ap (λ (l : List (Option (Bor Slot))). l ++ None ∷ []) c.new-listed.ensures.items)
    ∙ ap (λ (ns : List Node). numbered_slots (nodes_view ns)) c.as_slice.ensures.value
    ∙ ap (λ (rows : GuideRows). numbered_slots (nodes_view rows.nodes.items)) c.rows.ensures.same))
    (all_sound (guide_of c.args.guide.now) c.rows.ensures.accepted.well_formed)
