-- The slots of a guide's nodes, listed node by node.
use Rattle.std.proofs.Common.{◌≡◌, ℕ, ◌+◌, ◌<◌, List, [], ◌∷◌, ◌++◌, drop, drop-cons, get_or, length, sym, ap, ◌∙◌, add-one, rules}
use Rattle.std.proofs.Common.{Option, Some, None}
use Rattle.std.proofs.Common.{option_map, subst}
use Rattle.std.specs.Prelude.{slice_get, IfSome}
use Rattle.std.specs.List.{All}
use Rattle.std.proofs.lemmas.List.{append_assoc, map-append}
use Rattle.std.proofs.lemmas.List.Elements.{All-get_or}
use Rattle.std.proofs.lemmas.Option.{get_or_from_slice_get, slice_get-get_or, slice_get-map, slice_get_within}
use Rattle.guide_tree.specs.declared.node.Node.{Node, the_lemmas}
use Rattle.guide_tree.specs.declared.node.Node as node
use Rattle.guide_tree.specs.declared.node.Loop.{Loop}
use Rattle.guide_tree.specs.declared.slot.Slot.{Slot}
use Rattle.guide_tree.specs.Words.{IsSound, Tree, Trees, segment, loop, tree, nodes_view, view}
use Rattle.elem_rules.specs.NodeSlots.{lent_slot, lent_slots, slots_of}
use denote.Ref.{Bor}

pub view_segment : (n : Node) (s : Slot) → n ≡ node.Segment s → view n ≡ segment s
view_segment n s e = ap view e ∙ (let v : view (node.Segment s) ≡ segment s = search (rules, the_lemmas) in v)

viewed : (ns : List Node) (i : ℕ) (x : Node) (t : Tree) → i < length ns → x ≡ get_or ns i x → view x ≡ t
    → nodes_view (drop i ns) ≡ tree t (nodes_view (drop (i + 1) ns))
viewed ns i x t h o v =
    rw (add-one) (ap nodes_view (drop-cons ns i x h))
    ∙ ap (λ (y : Node). tree (view y) (nodes_view (drop (i + 1) ns))) (sym o)
    ∙ ap (λ (u : Tree). tree u (nodes_view (drop (i + 1) ns))) v

-- the list with one node more
pub segment_more : (ns : List Node) (i : ℕ) (n : Node) (s : Slot) (old new : List (Option (Bor Slot))) (x : Option (Bor Slot))
    (total : List (Option Slot)) → i < length ns → n ≡ get_or ns i n → view n ≡ segment s → lent_slot x ≡ Some s → new ≡ old ++ x ∷ []
    → lent_slots old ++ slots_of (nodes_view (drop i ns)) ≡ total → lent_slots new ++ slots_of (nodes_view (drop (i + 1) ns)) ≡ total
segment_more ns i n s old new x total within at v is pushed so_far =
    let rest : List (Option Slot) = slots_of (nodes_view (drop (i + 1) ns)) in
    ap (λ (l : List (Option (Bor Slot))). lent_slots l ++ rest) pushed
    ∙ ap (λ (l : List (Option Slot)). l ++ rest) (map-append lent_slot old (x ∷ []))
    ∙ append_assoc (lent_slots old) (lent_slot x ∷ []) rest
    ∙ ap (λ (o : Option Slot). lent_slots old ++ o ∷ rest) is
    ∙ sym (ap (λ (ts : Trees). lent_slots old ++ slots_of ts) (viewed ns i n (segment s) within at v)) ∙ so_far

pub loop_more : (ns : List Node) (i : ℕ) (n : Node) (l : Loop) (us : Trees) (old pushed new : List (Option (Bor Slot)))
    (total : List (Option Slot)) → i < length ns → n ≡ get_or ns i n → view n ≡ loop l us → pushed ≡ old ++ None ∷ []
    → lent_slots new ≡ lent_slots pushed ++ slots_of us
    → lent_slots old ++ slots_of (nodes_view (drop i ns)) ≡ total → lent_slots new ++ slots_of (nodes_view (drop (i + 1) ns)) ≡ total
loop_more ns i n l us old pushed new total within at v are added so_far =
    let rest : List (Option Slot) = slots_of (nodes_view (drop (i + 1) ns)) in
    let before : List (Option Slot) = lent_slots old in
    let head : lent_slots pushed ≡ before ++ None ∷ [] = ap lent_slots are ∙ map-append lent_slot old (None ∷ []) in
    ap (λ (k : List (Option Slot)). k ++ rest) added
    ∙ ap (λ (k : List (Option Slot)). (k ++ slots_of us) ++ rest) head
    ∙ ap (λ (k : List (Option Slot)). k ++ rest) (append_assoc before (None ∷ []) (slots_of us))
    ∙ append_assoc before (None ∷ slots_of us) rest
    ∙ sym (ap (λ (ts : Trees). before ++ slots_of ts) (viewed ns i n (loop l us) within at v)) ∙ so_far

-- what stands at an index of the list
pub lent_at : (slots : List (Option (Bor Slot))) (k : ℕ) (x : Option (Bor Slot)) → k < length slots → x ≡ get_or slots k x
    → slice_get (lent_slots slots) k ≡ Some (lent_slot x)
lent_at slots k x within is =
    slice_get-map lent_slot slots k ∙ ap (option_map lent_slot) (slice_get-get_or slots k x within ∙ ap Some (sym is))

sound_lent : (x : Option (Bor Slot)) → IfSome (lent_slot x) IsSound → IfSome x (λ s. IsSound s.now)
sound_lent None h = tt
sound_lent (Some s) h = h

pub sound_at : (slots : List (Option (Bor Slot))) (k : ℕ) (x : Option (Bor Slot)) → k < length slots → x ≡ get_or slots k x
    → All (λ o. IfSome o IsSound) (lent_slots slots) → IfSome x (λ s. IsSound s.now)
sound_at slots k x within is all =
    let at : slice_get (lent_slots slots) k ≡ Some (lent_slot x) = lent_at slots k x within is in
    sound_lent x (subst (λ o. IfSome o IsSound) (get_or_from_slice_get (lent_slots slots) k (lent_slot x) (lent_slot x) at)
    (All-get_or (λ o. IfSome o IsSound) (lent_slots slots) k (lent_slot x) (slice_get_within (lent_slots slots) k (lent_slot x) at) all))
