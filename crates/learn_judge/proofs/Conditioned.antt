-- In a guide without fault the conditions of each slot that a derivation gives list rows of the slot.
use Rattle.std.proofs.Common.{◌≡◌, inl, inr, List, [], ◌∷◌, ◌&&◌, false, refl, sym, ap, subst}
use Rattle.std.specs.List.{AllByRecursion, list_all}
use Rattle.std.proofs.lemmas.Bool.{and_parts, true_from_ne_false}
use Rattle.guide_tree.specs.declared.slot.Slot.{Slot}
use Rattle.guide_tree.specs.declared.fault.GuideFault.TheVariants as fault
use Rattle.guide_tree.specs.Tree.{AnyIn, AnyNode, GuideTree, Tree, Trees, loop, no_trees, node_number, segment, tree}
use Rattle.guide_tree.specs.Words.{IsWellFormed, are_picks_of, is_condition_of, is_conditioned, is_label_new, is_slot_conditioned}
use Rattle.guide_tree.proofs.ForAbove.{In}
use Rattle.guide_law.proofs.ForAbove.{contains_in, in_cases}
use Rattle.night_definition.specs.Guides.{Derives, Given, IsPart, joined}
use Rattle.night_equal_set.specs.Meeting.{IsConditioned}

only_one : (x y : Given) → In (y ∷ []) x → y ≡ x
only_one x y (inl e) = e
only_one x y (inr none) = absurd none

-- what stands in parts put together stands in one of them
in_part : (Q : List Given → Type 0) (R : Type 0) (x : Given) → ((xs : List Given) → Q xs → In xs x → R) → (parts : List (List Given))
    → AllByRecursion Q parts → In (joined parts) x → R
in_part Q R x each [] all there = absurd there
in_part Q R x each (part ∷ more) all there = elim (in_cases part (joined more) x there) [
  | inl here ↦ each part all.0 here
  | inr later ↦ in_part Q R x each more all.1 later
]

module _ (P : Tree → Type 0) (x : Given) (holds : P (segment x.1)) where
  mutual
    part_has : (t : Tree) (xs : List Given) → IsPart t xs → In xs x → AnyIn P t
    part_has (segment slot) xs part there =
        let one : (part.0, slot) ≡ x = only_one x (part.0, slot) (subst (λ (l : List Given). In l x) part.2 there) in
        subst (λ (s : Slot). P (segment s)) (sym (ap (λ (g : Given). g.1) one)) holds
    part_has (loop l ts) xs part there = inr (derived_has ts xs part there)

    derived_has : (ts : Trees) (xs : List Given) → Derives ts xs → In xs x → AnyNode P ts
    derived_has no_trees xs none there = absurd (subst (λ (l : List Given). In l x) none there)
    derived_has (tree t ts) xs d there = elim (in_cases (joined d.0) d.1 x (subst (λ (l : List Given). In l x) d.6 there)) [
      | inl here ↦ inl (in_part (IsPart t) (AnyIn P t) x (part_has t) d.0 d.4 here)
      | inr later ↦ inr (derived_has ts d.1 d.5 later)
    ]

pub conditioned : (g : GuideTree) → IsWellFormed g → IsConditioned g
conditioned g clean xs x derived there =
    let s : Slot = x.1 in
    (and_parts (list_all (is_condition_of s) s.conditions) (are_picks_of s s.picks)
    (and_parts (list_all (is_condition_of s) s.conditions && are_picks_of s s.picks) (is_label_new g.nodes s)
    (true_from_ne_false (is_slot_conditioned g.nodes s) (λ no. clean (fault.BadCondition s.number)
    (inr (derived_has (λ t. (node_number t ≡ s.number) × (is_conditioned g.nodes t ≡ false)) x (refl, no) g.nodes xs derived
    (contains_in xs x there)))))).0).0
