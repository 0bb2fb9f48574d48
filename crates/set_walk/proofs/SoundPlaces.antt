-- In a guide without fault each slot to which a place leads keeps to what it has to.
use Rattle.std.proofs.Common.{◌≡◌, ℕ, zero, suc, inl, inr, false, Some, None, refl, [], ◌∷◌, subst, ◌&&◌}
use Rattle.std.specs.List.{list_all}
use Rattle.std.proofs.lemmas.Bool.{and_parts, true_from_ne_false}
use Rattle.guide_tree.specs.declared.slot.Slot.{Slot}
use Rattle.guide_tree.specs.declared.fault.GuideFault.TheVariants as fault
use Rattle.guide_tree.specs.Words.{Tree, Trees, segment, loop, no_trees, tree, GuideTree, node_number, AnyIn, AnyNode, is_bounded}
use Rattle.guide_tree.specs.Words.{is_slot_bounded, is_conditioned, is_slot_conditioned, is_condition_of, are_picks_of, is_label_new}
use Rattle.guide_tree.specs.Words.{IsWellFormed, Place, slot_in, slot_nth, slot_at, IsSound}

mutual
  leads_in : (P : Tree → Type 0) (t : Tree) (q : Place) (s : Slot) → slot_in t q ≡ Some s → P (segment s) → AnyIn P t
  leads_in P (segment r) [] s e p = let k : s ≡ r = cc in subst (λ (x : Slot). P (segment x)) k p
  leads_in P (segment r) (a ∷ q) s e p = let k : None ≡ Some s = e in cc
  leads_in P (loop l ts) [] s e p = let k : None ≡ Some s = e in cc
  leads_in P (loop l ts) (a ∷ q) s e p = inr (leads_nth P ts a.child q s e p)

  leads_nth : (P : Tree → Type 0) (ts : Trees) (n : ℕ) (q : Place) (s : Slot) → slot_nth ts n q ≡ Some s → P (segment s) → AnyNode P ts
  leads_nth P no_trees n q s e p = let k : None ≡ Some s = e in cc
  leads_nth P (tree t ts) zero q s e p = inl (leads_in P t q s e p)
  leads_nth P (tree t ts) (suc n) q s e p = inr (leads_nth P ts n q s e p)

leads : (P : Tree → Type 0) (ts : Trees) (q : Place) (s : Slot) → slot_at ts q ≡ Some s → P (segment s) → AnyNode P ts
leads P ts [] s e p = let k : None ≡ Some s = e in cc
leads P ts (a ∷ q) s e p = leads_nth P ts a.child q s e p

pub sound_places : (g : GuideTree) → IsWellFormed g → (q : Place) (slot : Slot) → slot_at g.nodes q ≡ Some slot → IsSound slot
sound_places g clean q s e = record {
  bounded = true_from_ne_false (is_slot_bounded s) (λ no. clean (fault.BadBounds s.number)
      (leads (λ t. (node_number t ≡ s.number) × (is_bounded t ≡ false)) g.nodes q s e (refl, no)));
  conditioned = (and_parts (list_all (is_condition_of s) s.conditions) (are_picks_of s s.picks)
      (and_parts (list_all (is_condition_of s) s.conditions && are_picks_of s s.picks) (is_label_new g.nodes s)
      (true_from_ne_false (is_slot_conditioned g.nodes s) (λ no. clean (fault.BadCondition s.number)
      (inr (leads (λ t. (node_number t ≡ s.number) × (is_conditioned g.nodes t ≡ false)) g.nodes q s e (refl, no)))))).0).0;
}
