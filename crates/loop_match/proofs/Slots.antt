-- The slot at a place, found step by step.
use Rattle.std.proofs.Common.{◌≡◌, ℕ, zero, suc, ◌+◌, ◌<◌, ◌≤◌, List, [], ◌∷◌, length, get_or, drop, Some, None}
use Rattle.std.proofs.Common.{refl, sym, ap, ◌∙◌, arith, rules}
use Rattle.std.specs.Prelude.{Vec}
use Rattle.std.specs.declared.alloc.Global.{Global}
use Rattle.std.proofs.lemmas.List.{drop_all}
use Rattle.guide_tree.specs.declared.node.Node.{Node, the_lemmas}
use Rattle.guide_tree.specs.declared.slot.Slot.{Slot}
use Rattle.guide_tree.specs.declared.node.Node as node
use Rattle.guide_tree.specs.declared.node.Loop.{Loop}
use Rattle.guide_tree.specs.Words.{Tree, segment, loop, view, nodes_view, Place, slot_in, slot_nth, slot_at}
use Rattle.guide_tree.proofs.ForAbove.{view_loop}
use Rattle.loop_match.specs.declared.next.Step.{Step}
use Rattle.loop_match.specs.Steps.{place_view}
use Rattle.loop_match.proofs.Rounds.{no_step, steps_left}

slot_by_child : (ns : List Node) (n : ℕ) (q : Place) (d : Node) → n < length ns
    → slot_nth (nodes_view ns) n q ≡ slot_in (view (get_or ns n d)) q
slot_by_child [] n q d h = absurd (omega arith)
slot_by_child (x ∷ ns) zero q d h = refl
slot_by_child (x ∷ ns) (suc n) q d h = slot_by_child ns n q d (omega arith)

slot_past_child : (ns : List Node) (n : ℕ) (q : Place) → length ns ≤ n → slot_nth (nodes_view ns) n q ≡ None
slot_past_child [] n q h = refl
slot_past_child (x ∷ ns) zero q h = absurd (omega arith)
slot_past_child (x ∷ ns) (suc n) q h = slot_past_child ns n q (omega arith)

pub no_slot : (ns : List Node) (place : List Step) (i : ℕ) (d : Step) → i < length place
    → length ns ≤ (get_or place i d).child → slot_at (nodes_view ns) (place_view (drop i place)) ≡ None
no_slot ns place i d h l =
    ap (slot_at (nodes_view ns)) (steps_left place i d h)
    ∙ slot_past_child ns (get_or place i d).child (place_view (drop (i + 1) place)) l

pub slot_here : (ns : List Node) (place : List Step) (i : ℕ) (d : Step) (node : Node) → i < length place
    → (get_or place i d).child < length ns → node ≡ get_or ns (get_or place i d).child node
    → slot_at (nodes_view ns) (place_view (drop i place)) ≡ slot_in (view node) (place_view (drop (i + 1) place))
slot_here ns place i d node h l e =
    ap (slot_at (nodes_view ns)) (steps_left place i d h)
    ∙ slot_by_child ns (get_or place i d).child (place_view (drop (i + 1) place)) node l
    ∙ ap (λ (x : Node). slot_in (view x) (place_view (drop (i + 1) place))) (sym e)

view_segment : (n : Node) (slot : Slot) → n ≡ node.Segment slot → view n ≡ segment slot
view_segment n slot e = ap view e ∙ (let v : view (node.Segment slot) ≡ segment slot = search (rules, the_lemmas) in v)

-- a segment ends a place, a loop goes on
pub at_end : (n : Node) (slot : Slot) (place : List Step) (k : ℕ) → n ≡ node.Segment slot → k ≡ length place
    → slot_in (view n) (place_view (drop k place)) ≡ Some slot
at_end n slot place k e l =
    ap (λ (t : Tree). slot_in t (place_view (drop k place))) (view_segment n slot e)
    ∙ ap (λ (p : List Step). slot_in (segment slot) (place_view p)) (drop_all k place (omega arith))

pub before_last : (n : Node) (slot : Slot) (place : List Step) (k : ℕ) → n ≡ node.Segment slot → k < length place
    → slot_in (view n) (place_view (drop k place)) ≡ None
before_last n slot place k e l =
    ap (λ (t : Tree). slot_in t (place_view (drop k place))) (view_segment n slot e)
    ∙ ap (slot_in (segment slot)) (steps_left place k no_step l)

in_loop : (head : Loop) (nodes : List Node) (q : Place) → slot_in (loop head (nodes_view nodes)) q ≡ slot_at (nodes_view nodes) q
in_loop head nodes [] = refl
in_loop head nodes (a ∷ q) = refl

pub further : (n : Node) (head : Loop) (inner : Vec Node Global) (nodes : List Node) (q : Place) → n ≡ node.Loop head inner
    → nodes ≡ inner.items → slot_in (view n) q ≡ slot_at (nodes_view nodes) q
further n head inner nodes q e same =
    ap (λ (t : Tree). slot_in t q) (view_loop n head inner e)
    ∙ in_loop head inner.items q
    ∙ ap (λ (l : List Node). slot_at (nodes_view l) q) (sym same)
