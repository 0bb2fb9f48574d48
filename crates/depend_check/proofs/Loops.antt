-- 999 guide, IK303: the innermost loop is one, however it is said: of a node by its parent's place (Structure), of a node by the loop
-- round it (Pass), of a place (LoopIds), and of the slot that a label names (Dependencies).
use Rattle.std.proofs.Common.{◌≡◌, ℕ, zero, suc, inl, inr, List, [], ◌∷◌, ◌++◌}
use Rattle.std.proofs.Common.{refl, sym, ap, subst, ◌∙◌, Option, Some, None}
use Rattle.guide_tree.specs.Words.{Tree, Trees, segment, loop, no_trees, tree, has_label, Place, use_of, slot_in, slot_nth}
use Rattle.guide_tree.specs.Words.{slot_at, node_in, node_nth, node_at, innermost, loop_id_at, loop_of}
use Rattle.loop_match.specs.LoopIds.{loop_id_in, loop_id_nth, loop_id_of}
use Rattle.depend_check.specs.Dependencies.{Seat, seat_in, seat_among, seat_of}
use Rattle.depend_check.proofs.Seats.{of_if, of_else, seated}

-- by the parent's place as by the loop round the node
pub same_by_parent : (ts : Trees) (parent : Place) (node : Tree) → innermost ts parent node ≡ loop_of (loop_id_at ts parent) node
same_by_parent ts parent (segment s) = refl
same_by_parent ts parent (loop l us) = refl

-- the loop that a place leads to
abbrev own : Option Tree → List ℕ
own None = []
own (Some (segment s)) = []
own (Some (loop l ts)) = l.id

own_is : (ts : Trees) (q : Place) (x : Option Tree) → node_at ts q ≡ x → loop_id_at ts q ≡ own x
own_is ts q None e = rw e refl
own_is ts q (Some (segment s)) e = rw e refl
own_is ts q (Some (loop l us)) e = rw e refl

-- a node right here
node_here : (o : List ℕ) (t x : Tree) → node_in t [] ≡ Some x → loop_id_in o t [] ≡ loop_of o x
node_here o (segment s) x h =
    let e : segment s ≡ x = cc in subst (λ (y : Tree). o ≡ loop_of o y) e refl
node_here o (loop l ts) x h =
    let e : loop l ts ≡ x = cc in subst (λ (y : Tree). l.id ≡ loop_of o y) e refl

child_here : (o : List ℕ) (ts : Trees) (n : ℕ) (x : Tree) → node_nth ts n [] ≡ Some x → loop_id_nth o ts n [] ≡ loop_of o x
child_here o no_trees n x h = cc
child_here o (tree t ts) zero x h = node_here o t x h
child_here o (tree t ts) (suc n) x h = child_here o ts n x h

-- and one further down
mutual
  node_in_loop : (o : List ℕ) (t : Tree) (w : Place) (c u : ℕ) (x : Tree) → node_in t (w ++ use_of c u ∷ []) ≡ Some x
      → loop_id_in o t (w ++ use_of c u ∷ []) ≡ loop_of (own (node_in t w)) x
  node_in_loop o (segment s) [] c u x h = cc
  node_in_loop o (segment s) (a ∷ w) c u x h = cc
  node_in_loop o (loop l ts) [] c u x h = child_here l.id ts c x h
  node_in_loop o (loop l ts) (a ∷ w) c u x h = child_in_loop l.id ts a.child w c u x h

  child_in_loop : (o : List ℕ) (ts : Trees) (n : ℕ) (w : Place) (c u : ℕ) (x : Tree)
      → node_nth ts n (w ++ use_of c u ∷ []) ≡ Some x
      → loop_id_nth o ts n (w ++ use_of c u ∷ []) ≡ loop_of (own (node_nth ts n w)) x
  child_in_loop o no_trees n w c u x h = cc
  child_in_loop o (tree t ts) zero w c u x h = node_in_loop o t w c u x h
  child_in_loop o (tree t ts) (suc n) w c u x h = child_in_loop o ts n w c u x h

own_loop : (ts : Trees) (w : Place) (c u : ℕ) (x : Tree) → node_at ts (w ++ use_of c u ∷ []) ≡ Some x
    → loop_id_of ts (w ++ use_of c u ∷ []) ≡ loop_of (own (node_at ts w)) x
own_loop ts [] c u x h = child_here [] ts c x h
own_loop ts (a ∷ w) c u x h = child_in_loop [] ts a.child w c u x h

-- by the node's place as by its parent's
pub same_by_place : (ts : Trees) (w : Place) (c u : ℕ) (x : Tree) → node_at ts (w ++ use_of c u ∷ []) ≡ Some x
    → loop_id_of ts (w ++ use_of c u ∷ []) ≡ innermost ts w x
same_by_place ts w c u x h =
    own_loop ts w c u x h ∙ ap (λ (l : List ℕ). loop_of l x) (sym (own_is ts w (node_at ts w) refl)) ∙ sym (same_by_parent ts w x)

-- a place that leads to a slot, in a loop
record LeadsTo (o : List ℕ) (ts : Trees) (seat : Seat) : Type 0 where
  child : ℕ
  rest : Place
  slot_there : slot_nth ts child rest ≡ Some seat.slot
  loop_there : loop_id_nth o ts child rest ≡ seat.loop_id

record LeadsIn (o : List ℕ) (t : Tree) (seat : Seat) : Type 0 where
  rest : Place
  slot_there : slot_in t rest ≡ Some seat.slot
  loop_there : loop_id_in o t rest ≡ seat.loop_id

mutual
  leads_in : (o label : List ℕ) (t : Tree) (x : Seat) → seat_in o label t ≡ Some x → LeadsIn o t x
  leads_in o label (segment s) x h =
      let e : x ≡ seated o s = of_if (has_label label s) (seated o s) x h in
      record {
        rest = [];
        slot_there = ap (λ (y : Seat). Some y.slot) (sym e);
        loop_there = ap (λ (y : Seat). y.loop_id) (sym e);
      }
  leads_in o label (loop k ts) x h =
      let r = leads_to k.id label ts x h in
      record { rest = use_of r.child 0 ∷ r.rest; slot_there = r.slot_there; loop_there = r.loop_there }

  leads_to : (o label : List ℕ) (ts : Trees) (x : Seat) → seat_among o label ts ≡ Some x → LeadsTo o ts x
  leads_to o label no_trees x h = cc
  leads_to o label (tree t ts) x h = elim (of_else (seat_in o label t) (seat_among o label ts) x h) [
    | inl e ↦ let r = leads_in o label t x e in
        record { child = 0; rest = r.rest; slot_there = r.slot_there; loop_there = r.loop_there }
    | inr e ↦ let r = leads_to o label ts x e in
        record { child = suc r.child; rest = r.rest; slot_there = r.slot_there; loop_there = r.loop_there }
  ]

-- by the slot that a label names as by a place that leads to it
pub same_by_seat : (ts : Trees) (label : List ℕ) (seat : Seat) → seat_of ts label ≡ Some seat
    → (q : Place) × (slot_at ts q ≡ Some seat.slot) × (loop_id_of ts q ≡ seat.loop_id)
same_by_seat ts label seat h =
    let r = leads_to [] label ts seat h in (use_of r.child 0 ∷ r.rest, r.slot_there, r.loop_there)
