-- What a guide names under a place, where its names hold no delimiter.
use Rattle.std.proofs.Common.{◌≡◌, ◌≢◌, ℕ, zero, suc, ◌+◌, Bool, true, false, cond, List, [], ◌∷◌, Option, Some, None, length, refl, subst}
use Rattle.std.specs.Prelude.{IfSome, slice_index_or, option_map}
use Rattle.std.specs.List.{All}
use Rattle.std.specs.Option.{option_map_or}
use Rattle.std.proofs.lemmas.List.Elements.{All-append, All-cons, All-nil}
use Rattle.x12_bytes.specs.declared.delims.Delims.{Delims}
use Rattle.x12_write.specs.Undivided.{IsUndivided}
use Rattle.guide_tree.specs.declared.element.Component.{Component}
use Rattle.guide_tree.specs.declared.element.Element.{Element}
use Rattle.guide_tree.specs.declared.slot.Slot.{Slot}
use Rattle.guide_tree.specs.Words.{has_label, Place, slot_at, slot_in, slot_nth, use_of, Segment, innermost, loop_id_at, node_at, node_in}
use Rattle.guide_tree.specs.Words.{node_nth, Tree, Trees, loop, no_trees, or_else, segment, tree}
use Rattle.elem_rules.specs.Rows.{component_reference, components_of, element_reference, nth, reference_in}
use Rattle.loop_match.specs.LoopIds.{loop_id_in, loop_id_nth, loop_id_of}
use Rattle.loop_match.specs.PlacedSegments.{PlacedSegment, with_placed, placed_among_first, placed_at, placed_by, placed_segments}
use Rattle.depend_check.specs.Dependencies.{Seat, seat_among, seat_in, seat_of}
use Rattle.night_law.specs.Quotable.{IsRowQuotable}
use Rattle.night_law.proofs.Naming.{AreNodesNamed, IsNodeNamed}
use Rattle.night_law.proofs.Headers.{at_index}

-- item n of a list, from 1
nth_has : {A : Type 0} (P : A → Type 0) (xs : List A) (n : ℕ) (x : A) → nth xs n ≡ Some x → All P xs → P x
nth_has P xs zero x is all = cc
nth_has P xs (suc n) x is all = at_index P xs n x is all

module _ (d : Delims) where
  abbrev U : List ℕ → Type 0
  U text = IsUndivided d text

  abbrev Rows : Slot → Type 0
  Rows s = All (IsRowQuotable d) s.elements

  pub nothing : U []
  nothing = All-nil (λ b. (b ≢ d.element) × (b ≢ d.terminator))

  -- the reference number of a row, or of a component
  in_row : (row : Element) (n : ℕ) → IsRowQuotable d row → U (reference_in row n)
  in_row row n names = by (nth (components_of row) n) refl
    where
      by : (o : Option Component) → nth (components_of row) n ≡ o → U (option_map_or component_reference o (element_reference row))
      by None is = names.0
      by (Some c) is = nth_has (λ c. U (component_reference c)) (components_of row) n c is names.1

  pub reference : (rows : List Element) (k n : ℕ) → All (IsRowQuotable d) rows
      → U (option_map_or (λ row. reference_in row n) (nth rows k) [])
  reference rows k n names = by (nth rows k) refl
    where
      by : (o : Option Element) → nth rows k ≡ o → U (option_map_or (λ row. reference_in row n) o [])
      by None is = nothing
      by (Some row) is = in_row row n (nth_has (IsRowQuotable d) rows k row is names)

  mutual
    rows_in : (t : Tree) (q : Place) (s : Slot) → slot_in t q ≡ Some s → IsNodeNamed d t → Rows s
    rows_in (segment s) [] r is names = let same : s ≡ r = cc in subst Rows same names
    rows_in (segment s) (a ∷ q) r is names = cc
    rows_in (loop l ts) [] r is names = cc
    rows_in (loop l ts) (a ∷ q) r is names = rows_nth ts a.child q r is names.1

    rows_nth : (ts : Trees) (n : ℕ) (q : Place) (s : Slot) → slot_nth ts n q ≡ Some s → AreNodesNamed d ts → Rows s
    rows_nth no_trees n q r is names = cc
    rows_nth (tree t ts) zero q r is names = rows_in t q r is names.0
    rows_nth (tree t ts) (suc n) q r is names = rows_nth ts n q r is names.1

  pub rows_at : (ts : Trees) (q : Place) (s : Slot) → slot_at ts q ≡ Some s → AreNodesNamed d ts → Rows s
  rows_at ts [] s is names = cc
  rows_at ts (a ∷ q) s is names = rows_nth ts a.child q s is names

  mutual
    node_in_has : (t : Tree) (q : Place) (node : Tree) → node_in t q ≡ Some node → IsNodeNamed d t → IsNodeNamed d node
    node_in_has (segment s) [] node is names = let same : segment s ≡ node = cc in subst (IsNodeNamed d) same names
    node_in_has (segment s) (a ∷ q) node is names = cc
    node_in_has (loop l ts) [] node is names = let same : loop l ts ≡ node = cc in subst (IsNodeNamed d) same names
    node_in_has (loop l ts) (a ∷ q) node is names = node_nth_has ts a.child q node is names.1

    node_nth_has : (ts : Trees) (n : ℕ) (q : Place) (node : Tree) → node_nth ts n q ≡ Some node → AreNodesNamed d ts
        → IsNodeNamed d node
    node_nth_has no_trees n q node is names = cc
    node_nth_has (tree t ts) zero q node is names = node_in_has t q node is names.0
    node_nth_has (tree t ts) (suc n) q node is names = node_nth_has ts n q node is names.1

  pub node_has : (ts : Trees) (q : Place) (node : Tree) → node_at ts q ≡ Some node → AreNodesNamed d ts → IsNodeNamed d node
  node_has ts [] node is names = cc
  node_has ts (a ∷ q) node is names = node_nth_has ts a.child q node is names

  -- the id of the loop at a place
  loop_nth : (ts : Trees) (n u : ℕ) (q : Place) → AreNodesNamed d ts → U (loop_id_at ts (use_of n u ∷ q))
  loop_nth no_trees n u q names = nothing
  loop_nth (tree (segment s) ts) zero u [] names = nothing
  loop_nth (tree (segment s) ts) zero u (b ∷ q) names = nothing
  loop_nth (tree (loop l us) ts) zero u [] names = names.0.0
  loop_nth (tree (loop l us) ts) zero u (b ∷ q) names = loop_nth us b.child b.use_no q names.0.1
  loop_nth (tree t ts) (suc n) u q names = loop_nth ts n u q names.1

  loop_at : (ts : Trees) (q : Place) → AreNodesNamed d ts → U (loop_id_at ts q)
  loop_at ts [] names = nothing
  loop_at ts (a ∷ q) names = loop_nth ts a.child a.use_no q names

  pub innermost_has : (ts : Trees) (parent : Place) (node : Tree) → AreNodesNamed d ts → IsNodeNamed d node
      → U (innermost ts parent node)
  innermost_has ts parent (segment s) names own = loop_at ts parent names
  innermost_has ts parent (loop l us) names own = own.0

  -- the id of the innermost loop round a place
  mutual
    loop_in : (outer : List ℕ) (t : Tree) (q : Place) → U outer → IsNodeNamed d t → U (loop_id_in outer t q)
    loop_in outer (segment s) q around names = around
    loop_in outer (loop l ts) [] around names = names.0
    loop_in outer (loop l ts) (a ∷ q) around names = loop_among l.id ts a.child q names.0 names.1

    loop_among : (outer : List ℕ) (ts : Trees) (n : ℕ) (q : Place) → U outer → AreNodesNamed d ts → U (loop_id_nth outer ts n q)
    loop_among outer no_trees n q around names = around
    loop_among outer (tree t ts) zero q around names = loop_in outer t q around names.0
    loop_among outer (tree t ts) (suc n) q around names = loop_among outer ts n q around names.1

  pub loop_of : (ts : Trees) (q : Place) → AreNodesNamed d ts → U (loop_id_of ts q)
  loop_of ts [] names = nothing
  loop_of ts (a ∷ q) names = loop_among [] ts a.child q nothing names

  -- a placed segment
  abbrev pub IsPlacedQuotable : PlacedSegment → Type 0
  IsPlacedQuotable p = U p.loop_id × Rows p.slot

  one_placed : (ts : Trees) (index : ℕ) (s : Segment) (o : Option Place) → AreNodesNamed d ts
      → IfSome (placed_by ts index s o) IsPlacedQuotable
  one_placed ts index s None names = tt
  one_placed ts index s (Some q) names = by (slot_at ts q) refl
    where
      placed : Slot → PlacedSegment
      placed slot = record { position = index + 2; segment = s; slot = slot; loop_id = loop_id_of ts q }

      by : (o : Option Slot) → slot_at ts q ≡ o → IfSome (option_map placed o) IsPlacedQuotable
      by None is = tt
      by (Some slot) is = (loop_of ts q names, rows_at ts q slot is names)

  one_more : (placed : List PlacedSegment) (o : Option PlacedSegment) → All IsPlacedQuotable placed → IfSome o IsPlacedQuotable
      → All IsPlacedQuotable (with_placed placed o)
  one_more placed None all one = all
  one_more placed (Some p) all one =
      All-append IsPlacedQuotable placed (p ∷ []) all (All-cons IsPlacedQuotable p [] one (All-nil IsPlacedQuotable))

  first_placed_has : (ts : Trees) (body : List Segment) (given : List (Option Place)) (n : ℕ) → AreNodesNamed d ts
      → All IsPlacedQuotable (placed_among_first ts body given n)
  first_placed_has ts body given zero names = All-nil IsPlacedQuotable
  first_placed_has ts body given (suc n) names =
      one_more (placed_among_first ts body given n) (placed_at ts body given n) (first_placed_has ts body given n names)
      (one_placed ts n (slice_index_or body n []) (slice_index_or given n None) names)

  pub placed_have : (ts : Trees) (body : List Segment) (given : List (Option Place)) → AreNodesNamed d ts
      → All IsPlacedQuotable (placed_segments ts body given)
  placed_have ts body given names = first_placed_has ts body given (length body) names

  -- the slot with a label, and the loop round it
  either : (a b : Option Seat) → IfSome a (λ s. U s.loop_id) → IfSome b (λ s. U s.loop_id) → IfSome (or_else a b) (λ s. U s.loop_id)
  either None b p q = q
  either (Some a) b p q = p

  if_labelled : (b : Bool) (seat : Seat) → U seat.loop_id → IfSome (cond b (Some seat) None) (λ s. U s.loop_id)
  if_labelled true seat p = p
  if_labelled false seat p = tt

  mutual
    seat_in_has : (outer label : List ℕ) (t : Tree) → U outer → IsNodeNamed d t → IfSome (seat_in outer label t) (λ s. U s.loop_id)
    seat_in_has outer label (segment s) around names = if_labelled (has_label label s) (record { slot = s; loop_id = outer }) around
    seat_in_has outer label (loop l ts) around names = seat_among_has l.id label ts names.0 names.1

    seat_among_has : (outer label : List ℕ) (ts : Trees) → U outer → AreNodesNamed d ts
        → IfSome (seat_among outer label ts) (λ s. U s.loop_id)
    seat_among_has outer label no_trees around names = tt
    seat_among_has outer label (tree t ts) around names =
        either (seat_in outer label t) (seat_among outer label ts) (seat_in_has outer label t around names.0)
        (seat_among_has outer label ts around names.1)

  pub seat_has : (ts : Trees) (label : List ℕ) (seat : Seat) → seat_of ts label ≡ Some seat → AreNodesNamed d ts → U seat.loop_id
  seat_has ts label seat is names =
      subst (λ (o : Option Seat). IfSome o (λ s. U s.loop_id)) is (seat_among_has [] label ts nothing names)
