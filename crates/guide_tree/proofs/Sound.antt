-- The slots of an accepted guide keep to what each slot has to.
use Rattle.std.proofs.Common.{◌≡◌, ◌⊎◌, inl, inr, Bool, true, false, Option, Some, None, option_map, IfSome, refl, subst}
use Rattle.std.proofs.Common.{sym, cond, ◌&&◌}
use Rattle.std.proofs.lemmas.Bool.{and_parts, true_from_ne_false}
use denote.Ref.{Bor}
use Rattle.guide_tree.specs.declared.slot.Slot.{Slot}
use Rattle.guide_tree.specs.declared.fault.GuideFault.TheVariants as fault
use Rattle.guide_tree.specs.Tree.{Tree, Trees, segment, loop, no_trees, tree, GuideTree, node_number, find_slot}
use Rattle.guide_tree.specs.Tree.{find_slot_in, AnyIn, AnyNode, or_else}
use Rattle.guide_tree.specs.Bounds.{is_bounded, is_slot_bounded}
use Rattle.std.specs.List.{list_all}
use Rattle.guide_tree.specs.Conditions.{is_conditioned, is_slot_conditioned, is_condition_of, are_picks_of}
use Rattle.guide_tree.specs.Conditions.{is_label_new}
use Rattle.guide_tree.specs.Faults.{IsWellFormed}
use Rattle.guide_tree.specs.Slots.{IsSound}

found_here : (P : Tree → Type 0) (r s : Slot) (b : Bool) → cond b (Some r) None ≡ Some s → P (segment s)
    → P (segment r)
found_here P r s true e p = let f : s ≡ r = cc in subst (λ (x : Slot). P (segment x)) f p
found_here P r s false e p = (let f : None ≡ Some s = e in cc)

found_either : (a b : Option Slot) (s : Slot) → or_else a b ≡ Some s → (a ≡ Some s) ⊎ (b ≡ Some s)
found_either None b s e = inr e
found_either (Some r) b s e = inl e

mutual
  found_in : (P : Tree → Type 0) (test : Slot → Bool) (t : Tree) (s : Slot) → find_slot_in test t ≡ Some s
      → P (segment s) → AnyIn P t
  found_in P test (segment r) s e p = found_here P r s (test r) e p
  found_in P test (loop l ts) s e p = inr (found P test ts s e p)

  -- a slot that is found is one of the nodes
  found : (P : Tree → Type 0) (test : Slot → Bool) (ts : Trees) (s : Slot) → find_slot test ts ≡ Some s
      → P (segment s) → AnyNode P ts
  found P test no_trees s e p = (let f : None ≡ Some s = e in cc)
  found P test (tree t ts) s e p = elim (found_either (find_slot_in test t) (find_slot test ts) s e) [
    | inl h ↦ inl (found_in P test t s h p)
    | inr h ↦ inr (found P test ts s h p)
  ]

pub sound : (g : GuideTree) (test : Slot → Bool) (s : Slot) → IsWellFormed g → find_slot test g.nodes ≡ Some s
    → IsSound s
sound g test s clean e = record {
  bounded = true_from_ne_false (is_slot_bounded s) (λ no. clean (fault.BadBounds s.number)
      (found (λ t. (node_number t ≡ s.number) × (is_bounded t ≡ false)) test g.nodes s e (refl, no)));
  conditioned = (and_parts (list_all (is_condition_of s) s.conditions) (are_picks_of s s.picks)
      (and_parts (list_all (is_condition_of s) s.conditions && are_picks_of s s.picks) (is_label_new g.nodes s)
      (true_from_ne_false (is_slot_conditioned g.nodes s) (λ no. clean (fault.BadCondition s.number)
      (inr (found (λ t. (node_number t ≡ s.number) × (is_conditioned g.nodes t ≡ false)) test g.nodes s e (refl, no)))))).0).0;
}

-- so is a slot that is lent
pub sound_lent : (g : GuideTree) (test : Slot → Bool) (r : Option (Bor Slot)) → IsWellFormed g
    → option_map (λ s. s.now) r ≡ find_slot test g.nodes → IfSome r (λ s. IsSound s.now)
sound_lent g test None clean e = tt
sound_lent g test (Some s) clean e = sound g test s.now clean (sym e)
