-- In a guide whose nodes are numbered each slot stands at its number, and what holds of each node holds of its slots.
use Rattle.std.proofs.Common.{◌≡◌, ℕ, zero, suc, ◌+◌, List, [], ◌∷◌, ◌++◌, length, refl, sym, ap, subst, ◌∙◌, arith, Option, Some, None}
use Rattle.std.proofs.Common.{true, inr, Bool, ◌<◌, get_or}
use Rattle.std.specs.Prelude.{slice_get, IfSome, ◌&&◌}
use Rattle.std.specs.List.{All, list_all}
use Rattle.std.proofs.lemmas.Bool.{and_parts}
use Rattle.std.proofs.lemmas.List.{length-append, append_assoc, append-nil}
use Rattle.std.proofs.lemmas.List.Elements.{All-append, All-cons, All-nil}
use Rattle.std.proofs.lemmas.Option.{same_Some, slice_get-get_or, slice_get_within}
use Rattle.guide_tree.proofs.ForAbove.{each_passes}
use Rattle.guide_tree.specs.declared.fault.GuideFault.TheVariants as fault
use Rattle.guide_tree.specs.declared.rows.GuideRows.{GuideRows}
use Rattle.guide_tree.specs.declared.slot.Slot.{Slot}
use Rattle.guide_tree.specs.Words.{Tree, Trees, segment, loop, no_trees, tree, numbered, numbered_in, count_in, node_count, EachIn}
use Rattle.guide_tree.specs.Words.{EachNode}
use Rattle.guide_tree.specs.Words.{GuideTree, IsSound, IsWellFormed, Place, guide_of, nodes_view, numbered_guide, slot_at, slot_in}
use Rattle.guide_tree.specs.Words.{slot_nth}
use Rattle.guide_tree.specs.Words.{are_picks_of, is_bounded, is_condition_of, is_conditioned, is_label_new}
use Rattle.elem_rules.specs.declared.flat_slot.FlatSlot.{FlatSlot}
use Rattle.elem_rules.specs.Flat.{IsFlatSlot}
use Rattle.elem_rules.specs.NodeSlots.{AreFlatNodes, IsSlotOf, numbered_slots, slots_in, slots_of}

mutual
  counted_in : (n : ℕ) (t : Tree) → length (slots_in (numbered_in n t)) ≡ count_in t
  counted_in n (segment s) = refl
  counted_in n (loop l ts) = let e = counted (n + 1) ts in omega (arith, e)

  counted : (n : ℕ) (ts : Trees) → length (slots_of (numbered n ts)) ≡ node_count ts
  counted n no_trees = refl
  counted n (tree t ts) =
      let e = counted_in n t in
      let f = counted (n + count_in t) ts in
      length-append (slots_in (numbered_in n t)) (slots_of (numbered (n + count_in t) ts)) ∙ omega (arith, e, f)

at_seam : (pre : List (Option Slot)) (x : Option Slot) (post : List (Option Slot)) (n : ℕ) → length pre ≡ n
    → slice_get (pre ++ x ∷ post) n ≡ Some x
at_seam [] x post zero e = refl
at_seam [] x post (suc n) e = absurd (omega (arith, e))
at_seam (p ∷ pre) x post zero e = absurd (omega (arith, e))
at_seam (p ∷ pre) x post (suc n) e = at_seam pre x post n (omega (arith, e))

abbrev IsListed : List (Option Slot) → Tree → Type 0
IsListed slots (segment s) = slice_get slots s.number ≡ Some (Some s)
IsListed slots (loop l ts) = Unit {0}

mutual
  listed_in : (pre : List (Option Slot)) (t : Tree) (post : List (Option Slot)) (n : ℕ) → length pre ≡ n
      → EachIn (IsListed (pre ++ (slots_in (numbered_in n t) ++ post))) (numbered_in n t)
  listed_in pre (segment s) post n e = at_seam pre (Some (record s { number = n })) post n e
  listed_in pre (loop l ts) post n e =
      let inner : Trees = numbered (n + 1) ts in
      let m : length (pre ++ None ∷ []) ≡ n + 1 = length-append pre (None ∷ []) ∙ omega (arith, e) in (
        tt,
        subst (λ (slots : List (Option Slot)). EachNode (IsListed slots) inner) (append_assoc pre (None ∷ []) (slots_of inner ++ post))
            (listed (pre ++ None ∷ []) ts post (n + 1) m),
      )

  listed : (pre : List (Option Slot)) (ts : Trees) (post : List (Option Slot)) (n : ℕ) → length pre ≡ n
      → EachNode (IsListed (pre ++ (slots_of (numbered n ts) ++ post))) (numbered n ts)
  listed pre no_trees post n e = tt
  listed pre (tree t ts) post n e =
      let first : List (Option Slot) = slots_in (numbered_in n t) in
      let others : List (Option Slot) = slots_of (numbered (n + count_in t) ts) in
      let k = counted_in n t in
      let m : length (pre ++ first) ≡ n + count_in t = length-append pre first ∙ omega (arith, e, k) in (
        subst (λ (slots : List (Option Slot)). EachIn (IsListed (pre ++ slots)) (numbered_in n t)) (sym (append_assoc first others post))
            (listed_in pre t (others ++ post) n e),
        subst (λ (slots : List (Option Slot)). EachNode (IsListed slots) (numbered (n + count_in t) ts))
            (append_assoc pre first (others ++ post)
            ∙ ap (λ (slots : List (Option Slot)). pre ++ slots) (sym (append_assoc first others post)))
            (listed (pre ++ first) ts post (n + count_in t) m),
      )

mutual
  place_in : (P : Tree → Type 0) (t : Tree) (q : Place) (s : Slot) → EachIn P t → slot_in t q ≡ Some s → P (segment s)
  place_in P (segment r) [] s h e = subst (λ (x : Slot). P (segment x)) (same_Some r s e) h
  place_in P (segment r) (a ∷ q) s h e = let k : None ≡ Some s = e in cc
  place_in P (loop l ts) [] s h e = let k : None ≡ Some s = e in cc
  place_in P (loop l ts) (a ∷ q) s h e = place_nth P ts a.child q s h.1 e

  place_nth : (P : Tree → Type 0) (ts : Trees) (n : ℕ) (q : Place) (s : Slot) → EachNode P ts → slot_nth ts n q ≡ Some s → P (segment s)
  place_nth P no_trees n q s h e = let k : None ≡ Some s = e in cc
  place_nth P (tree t ts) zero q s h e = place_in P t q s h.0 e
  place_nth P (tree t ts) (suc n) q s h e = place_nth P ts n q s h.1 e

-- what holds of each node holds of a slot to which a place leads
each_place : (P : Tree → Type 0) (ts : Trees) (q : Place) (s : Slot) → EachNode P ts → slot_at ts q ≡ Some s → P (segment s)
each_place P ts [] s h e = let k : None ≡ Some s = e in cc
each_place P ts (a ∷ q) s h e = place_nth P ts a.child q s h e

stands : (ts : Trees) (s : Slot) → IsSlotOf (numbered 1 ts) s → slice_get (numbered_slots (numbered 1 ts)) s.number ≡ Some (Some s)
stands ts s h =
    let own : Trees = numbered 1 ts in
    each_place (IsListed (numbered_slots own)) own h.0 s
    (subst (λ (slots : List (Option Slot)). EachNode (IsListed (None ∷ slots)) own) (append-nil (slots_of own))
    (listed (None ∷ []) ts [] 1 refl))
    h.1

-- in an accepted guide a slot stands at its number
pub slot_stands : (rows : GuideRows) (s : Slot) → guide_of rows ≡ numbered_guide rows → IsSlotOf (nodes_view rows.nodes.items) s
    → slice_get (numbered_slots (nodes_view rows.nodes.items)) s.number ≡ Some (Some s)
slot_stands rows s n h =
    let ts : Trees = nodes_view rows.nodes.items in
    let m : ts ≡ numbered 1 ts = ap (λ (g : GuideTree). g.nodes) n in
    subst (λ (us : Trees). slice_get (numbered_slots us) s.number ≡ Some (Some s)) (sym m)
    (stands ts s (subst (λ (us : Trees). IsSlotOf us s) m h))

-- and has its flat slot there
pub flat_stands : (own rows : GuideRows) (flats : List FlatSlot) (s : Slot) → own ≡ rows → guide_of own ≡ numbered_guide own
    → IsSlotOf (nodes_view rows.nodes.items) s → AreFlatNodes flats (numbered_slots (nodes_view own.nodes.items))
    → (s.number < length flats) × ((flat : FlatSlot) → flat ≡ get_or flats s.number flat → IsFlatSlot flat s)
flat_stands own rows flats s same numbered h are =
    let slots : List (Option Slot) = numbered_slots (nodes_view own.nodes.items) in
    let at : slice_get slots s.number ≡ Some (Some s) =
    slot_stands own s numbered (subst (λ (r : GuideRows). IsSlotOf (nodes_view r.nodes.items) s) (sym same) h) in
    let within : s.number < length slots = slice_get_within slots s.number (Some s) at in
    let small : s.number < length flats = omega (arith, within, are.0) in (
      small,
      λ flat is. are.1 (suc s.number) flat (Some s) (slice_get-get_or flats s.number flat small ∙ ap Some (sym is)) at,
    )

abbrev Passes : (Tree → Bool) → Tree → Type 0
Passes test t = test t ≡ true

mutual
  all_in : (all : Trees) (t : Tree) → EachIn (Passes is_bounded) t → EachIn (Passes (is_conditioned all)) t
      → All (λ o. IfSome o IsSound) (slots_in t)
  all_in all (segment s) h k =
      All-cons (λ o. IfSome o IsSound) (Some s) [] (record {
        bounded = h;
        conditioned = (and_parts (list_all (is_condition_of s) s.conditions) (are_picks_of s s.picks)
            (and_parts (list_all (is_condition_of s) s.conditions && are_picks_of s s.picks) (is_label_new all s) k).0).0;
      }) (All-nil (λ o. IfSome o IsSound))
  all_in all (loop l ts) h k = All-cons (λ o. IfSome o IsSound) None (slots_of ts) tt (all_of all ts h.1 k.1)

  all_of : (all : Trees) (ts : Trees) → EachNode (Passes is_bounded) ts → EachNode (Passes (is_conditioned all)) ts
      → All (λ o. IfSome o IsSound) (slots_of ts)
  all_of all no_trees h k = All-nil (λ o. IfSome o IsSound)
  all_of all (tree t ts) h k =
      All-append (λ o. IfSome o IsSound) (slots_in t) (slots_of ts) (all_in all t h.0 k.0) (all_of all ts h.1 k.1)

-- in a guide without fault each slot keeps to what it has to
pub all_sound : (g : GuideTree) → IsWellFormed g → All (λ o. IfSome o IsSound) (numbered_slots g.nodes)
all_sound g well =
    All-cons (λ o. IfSome o IsSound) None (slots_of g.nodes) tt
    (all_of g.nodes g.nodes (each_passes is_bounded g.nodes (λ k x. well (fault.BadBounds k) x))
    (each_passes (is_conditioned g.nodes) g.nodes (λ k x. well (fault.BadCondition k) (inr x))))
