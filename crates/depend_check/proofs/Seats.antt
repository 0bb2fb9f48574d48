-- A slot's number names one seat, where the nodes are numbered.
use Rattle.std.proofs.Common.{◌≡◌, ℕ, ◌⊎◌, inl, inr, List, [], Bool, true, false, if◌then◌else◌}
use Rattle.std.proofs.Common.{ap, ◌∙◌, Option, Some, None}
use Rattle.guide_tree.specs.declared.slot.Slot.{Slot}
use Rattle.guide_tree.specs.Words.{Tree, Trees, segment, loop, no_trees, tree, numbered, or_else, has_label}
use Rattle.guide_law.proofs.ForAbove.{IsNamedIn, IsNamed, one_named}
use Rattle.depend_check.specs.Dependencies.{Seat, seat_in, seat_among, seat_of}

abbrev pub seated : List ℕ → Slot → Seat
seated outer s = record { slot = s; loop_id = outer }

pub of_if : (b : Bool) (s x : Seat) → (if b then Some s else None) ≡ Some x → x ≡ s
of_if true s x h = cc
of_if false s x h = cc

pub of_else : (a b : Option Seat) (x : Seat) → or_else a b ≡ Some x → (a ≡ Some x) ⊎ (b ≡ Some x)
of_else None b x h = inr h
of_else (Some s) b x h = inl h

mutual
  found_in : (o label : List ℕ) (t : Tree) (x : Seat) → seat_in o label t ≡ Some x → IsNamedIn o t (segment x.slot) x.loop_id
  found_in o label (segment s) x h =
      let e = of_if (has_label label s) (seated o s) x h in
      (ap (λ (y : Seat). segment y.slot) e, ap (λ (y : Seat). y.loop_id) e)
  found_in o label (loop k ts) x h = inr (found k.id label ts x h)

  found : (o label : List ℕ) (ts : Trees) (x : Seat) → seat_among o label ts ≡ Some x → IsNamed o ts (segment x.slot) x.loop_id
  found o label no_trees x h = cc
  found o label (tree t ts) x h = elim (of_else (seat_in o label t) (seat_among o label ts) x h) [
    | inl e ↦ inl (found_in o label t x e)
    | inr e ↦ inr (found o label ts x e)
  ]

slot_same : (s t : Slot) → segment s ≡ segment t → s ≡ t
slot_same s t e = cc

pub one_seat : (ts : Trees) (label other : List ℕ) (x y : Seat) → seat_of (numbered 1 ts) label ≡ Some x
    → seat_of (numbered 1 ts) other ≡ Some y → x.slot.number ≡ y.slot.number → x ≡ y
one_seat ts label other x y a b e =
    let both = one_named 1 ts [] (segment x.slot) (segment y.slot) x.loop_id y.loop_id (found [] label (numbered 1 ts) x a)
    (found [] other (numbered 1 ts) y b) e in
    ap (λ (s : Slot). seated x.loop_id s) (slot_same x.slot y.slot both.0) ∙ ap (λ (l : List ℕ). seated l y.slot) both.1
