use Rattle.std.proofs.Common.{List, [], ◌∷◌, length, ap, sym, subst, arith, ◌∙◌}
use Rattle.std.proofs.lemmas.List.{length-append}
use Rattle.elem_rules.specs.declared.flat_slot.FlatSlot.{FlatSlot}
use Rattle.elem_rules.specs.Flat.{ArePairs}
use Rattle.elem_rules.specs.NodeSlots.{IsFlatNode, lent_slot, lent_slots}
use Rattle.elem_rules.proofs.FlatSlots.{pairs_more}
use Rattle.elem_rules.proofs.NodeLists.{lent_at, sound_at}
use Rattle.elem_rules.proofs.slot_tables.flat_nodes_of.Goals as goal

pub flat_node_of-requires : goal.flat_node_of-requires
flat_node_of-requires c =
    sound_at c.args.slots.now c.loop-k.k c.index-slots-k.result c.loop-k-test.true c.index-slots-k.is c.requires

pub loop-k-preserved : goal.loop-k-preserved
loop-k-preserved c =
    let k = c.loop-k.k in
    let old = c.loop-k.flats.items in
    let x = c.index-slots-k.result in
    let slots = c.args.slots.now in record {
      many = ap length c.in_ok-push.ensures.items
          ∙ (let e = length-append old (c.in_ok-flat.flat ∷ []) in omega (arith, e, c.loop-k.invariant.many));
      each = subst (λ (l : List FlatSlot). ArePairs IsFlatNode l (lent_slots slots)) (sym c.in_ok-push.ensures.items)
          (pairs_more IsFlatNode old (lent_slots slots) c.in_ok-flat.flat (lent_slot x) k c.loop-k.invariant.many
          (lent_at slots k x c.loop-k-test.true c.index-slots-k.is) c.in_ok-flat.ensures c.loop-k.invariant.each);
    }
