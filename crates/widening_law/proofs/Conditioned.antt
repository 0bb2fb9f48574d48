-- In a guide without fault the conditions of each slot that a derivation gives list rows of the slot.
use Rattle.std.proofs.Common.{◌≡◌, inl, inr, List, [], ◌∷◌, ◌&&◌, true, ap, subst}
use Rattle.std.specs.Prelude.{IsTrue}
use Rattle.std.specs.List.{AllByRecursion, Contains, list_all}
use Rattle.std.proofs.lemmas.Bool.{and_parts}
use Rattle.guide_tree.specs.declared.fault.GuideFault.TheVariants as fault
use Rattle.guide_tree.specs.declared.slot.Slot.{Slot}
use Rattle.guide_tree.specs.Words.{Derives, EachIn, EachNode, Given, GuideTree, IsPart, IsWellFormed, Tree, Trees, are_picks_of}
use Rattle.guide_tree.specs.Words.{is_condition_of, is_conditioned, is_label_new, joined, loop, no_trees, segment, tree}
use Rattle.guide_tree.proofs.ForAbove.{In, each_passes}
use Rattle.guide_law.proofs.ForAbove.{contains_in, in_cases}

only_one : (x y : Given) → In (y ∷ []) x → y ≡ x
only_one x y (inl e) = e
only_one x y (inr none) = absurd none

-- what each node has, the slot of each derived segment has
module _ (P : Tree → Type 0) (x : Given) where
  in_parts : (t : Tree) (parts : List (List Given)) → ((xs : List Given) → IsPart t xs → In xs x → P (segment x.1))
      → AllByRecursion (IsPart t) parts → In (joined parts) x → P (segment x.1)
  in_parts t [] each all there = absurd there
  in_parts t (part ∷ more) each all there = elim (in_cases part (joined more) x there) [
    | inl here ↦ each part all.0 here
    | inr later ↦ in_parts t more each all.1 later
  ]

  mutual
    part_has : (t : Tree) → EachIn P t → (xs : List Given) → IsPart t xs → In xs x → P (segment x.1)
    part_has (segment slot) each xs part there =
        let one : (part.0, slot) ≡ x = only_one x (part.0, slot) (subst (λ (l : List Given). In l x) part.2 there) in
        subst (λ (s : Slot). P (segment s)) (ap (λ (g : Given). g.1) one) each
    part_has (loop l ts) each xs part there = derived_has ts each.1 xs part there

    derived_has : (ts : Trees) → EachNode P ts → (xs : List Given) → Derives ts xs → In xs x → P (segment x.1)
    derived_has no_trees each xs none there = absurd (subst (λ (l : List Given). In l x) none there)
    derived_has (tree t ts) each xs d there = elim (in_cases (joined d.0) d.1 x (subst (λ (l : List Given). In l x) d.6 there)) [
      | inl here ↦ in_parts t d.0 (part_has t each.0) d.4 here
      | inr later ↦ derived_has ts each.1 d.1 d.5 later
    ]

pub conditioned : (g : GuideTree) → IsWellFormed g → (xs : List Given) → Derives g.nodes xs → (x : Given) → Contains xs x
    → IsTrue (list_all (is_condition_of x.1) x.1.conditions)
conditioned g clean xs derived x there =
    let s : Slot = x.1 in
    (and_parts (list_all (is_condition_of s) s.conditions) (are_picks_of s s.picks)
    (and_parts (list_all (is_condition_of s) s.conditions && are_picks_of s s.picks) (is_label_new g.nodes s)
    (derived_has (λ t. is_conditioned g.nodes t ≡ true) x g.nodes
    (each_passes (is_conditioned g.nodes) g.nodes (λ k f. clean (fault.BadCondition k) (inr f))) xs derived (contains_in xs x there))).0).0
