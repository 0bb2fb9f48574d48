-- Bodies of the small order, their placings, and what is wrong with their structure.
use Rattle.std.proofs.Common.{◌≡◌, ◌≢◌, ◌<◌, ℕ, zero, suc, inl, inr, List, [], ◌∷◌, codes, true, false, Option, Some}
use Rattle.std.proofs.Common.{None, refl, sym, ◌∙◌, ap, arith}
use Rattle.hub_kinds.specs.declared.codes.SegmentCode.TheVariants as ik304
use Rattle.guide_tree.specs.declared.slot.Slot.{Slot}
use Rattle.guide_tree.specs.Words.{Tree, Trees, segment, loop, no_trees, tree, EachIn, EachNode, Segment, fits, Place, use_of, slot_in}
use Rattle.guide_tree.specs.Words.{slot_nth, FitsAt, IsPlacing, Has, IsStructureFault}
use Rattle.guide_law.proofs.Deciding.{use_same}
use Rattle.guide_law.proofs.WorkedGuide.{order, order_guide, parties, items, beg, ref, party, item, alone, at_child}
use Rattle.guide_law.proofs.WorkedGuide.{at_party, at_item, fault_at}

-- no slot fits the segment
abbrev pub FitsNone : Segment → Tree → Type 0
FitsNone s (segment x) = fits x s ≡ false
FitsNone s (loop l ts) = Unit {0}

mutual
  none_in : (s : Segment) (t : Tree) (q : Place) (x : Slot) → EachIn (FitsNone s) t → slot_in t q ≡ Some x
      → fits x s ≡ false
  none_in s (segment y) [] x h e = let same : y ≡ x = cc in ap (λ z. fits z s) (sym same) ∙ h
  none_in s (segment y) (a ∷ q) x h e = cc
  none_in s (loop l ts) [] x h e = cc
  none_in s (loop l ts) (a ∷ q) x h e = none_at s ts a.child q x h.1 e

  pub none_at : (s : Segment) (ts : Trees) (n : ℕ) (q : Place) (x : Slot) → EachNode (FitsNone s) ts
      → slot_nth ts n q ≡ Some x → fits x s ≡ false
  none_at s no_trees n q x h e = cc
  none_at s (tree t ts) zero q x h e = none_in s t q x h.0 e
  none_at s (tree t ts) (suc n) q x h e = none_at s ts n q x h.1 e

-- so it has no place at all
pub no_place : (s : Segment) (ts : Trees) (q : Place) → EachNode (FitsNone s) ts → FitsAt ts q s → ⊥
no_place s ts [] h f = let e : None ≡ Some f.0 = f.1 in cc
no_place s ts (a ∷ q) h f = let e = none_at s ts a.child q f.0 h f.1 in let t : true ≡ false = sym f.2 ∙ e in cc

-- BEG is missing, there are three N1, and an unknown segment stands before PO1
abbrev broken : List Segment
broken =
    alone (codes "REF") ∷ alone (codes "N1") ∷ alone (codes "N1") ∷ alone (codes "N1") ∷ alone (codes "Q9")
    ∷ alone (codes "PO1") ∷ []

abbrev broken_places : List (Option Place)
broken_places =
    Some (at_child 1) ∷ Some (at_party 0) ∷ Some (at_party 1) ∷ Some (at_party 2) ∷ None ∷ Some at_item ∷ []

pub broken_is_placed : IsPlacing order None broken broken_places
broken_is_placed = (
  (refl, tt),
  (ref, refl, refl),
  (
    inr (inl (omega arith, refl), ((refl, refl), tt)),
    (party, refl, refl),
    (
      inr (inr (refl, refl, tt), ((refl, refl), tt)),
      (party, refl, refl),
      (
        inr (inr (refl, refl, tt), ((refl, refl), tt)),
        (party, refl, refl),
        (
          λ q m f. no_place (alone (codes "Q9")) order q
              (refl, (refl, ((tt, (refl, (refl, tt))), ((tt, (refl, tt)), tt)))) f,
          (inr (inl (omega arith, refl), ((refl, refl), tt)), (item, refl, refl), tt),
        ),
      ),
    ),
  ),
)

other_child : (i u j v : ℕ) → i ≢ j → use_of i u ≢ use_of j v
other_child i u j v d e = d (use_same i j u v e).0

other_repetition : (i u j v : ℕ) → u ≢ v → use_of i u ≢ use_of j v
other_repetition i u j v d e = d (use_same i j u v e).1

no_beg : Has broken_places (at_child 0) → ⊥
no_beg (inl h) = other_child 0 0 1 0 (λ e. omega arith) h.0
no_beg (inr (inl h)) = other_child 0 0 2 0 (λ e. omega arith) h.0
no_beg (inr (inr (inl h))) = other_child 0 0 2 1 (λ e. omega arith) h.0
no_beg (inr (inr (inr (inl h)))) = other_child 0 0 2 2 (λ e. omega arith) h.0
no_beg (inr (inr (inr (inr (inl h))))) = other_child 0 0 3 0 (λ e. omega arith) h.0
no_beg (inr (inr (inr (inr (inr h))))) = h

-- BEG is missing, which is reported at the segment after it, the second of the set
pub beg_is_missing : IsStructureFault order_guide broken broken_places 8
    (fault_at 2 (codes "BEG") [] ik304.RequiredSegmentMissing 1)
beg_is_missing = inr (inl (record {
  parent = [];
  child = 0;
  node = segment beg;
  position = 2;
  code = ik304.RequiredSegmentMissing;
  repetition = tt;
  there = refl;
  needed = omega arith;
  cases = inl (λ h. no_beg h, refl);
  reported = inl (0, (let l : 0 < 1 = omega arith in l), refl);
  is = refl;
}))

-- the third repetition of the loop N1 is one too many, at its first segment
pub third_party_is_past : IsStructureFault order_guide broken broken_places 8
    (fault_at 5 (codes "N1") (codes "N1") ik304.LoopTooOften 3)
third_party_is_past = inl (record {
  parent = [];
  child = 2;
  use_no = 2;
  node = parties;
  index = 3;
  there = refl;
  past = omega arith;
  first = (
    λ h. other_child 2 2 1 0 (λ e. omega arith) h.0,
    (
      λ h. other_repetition 2 2 2 0 (λ e. omega arith) h.0,
      (λ h. other_repetition 2 2 2 1 (λ e. omega arith) h.0, (refl, tt)),
    ),
  );
  is = refl;
})

-- an id that neither a slot nor the dictionary has
pub unknown_is_stray : IsStructureFault order_guide broken broken_places 8
    (fault_at 6 (codes "Q9") [] ik304.UnrecognizedSegment 0)
unknown_is_stray =
    inr (inr (record { index = 4; segment = alone (codes "Q9"); there = refl; unplaced = refl; is = refl }))

-- BEG alone: PO1 is missing, which is reported after the body
abbrev short : List Segment
short = alone (codes "BEG") ∷ []

abbrev short_places : List (Option Place)
short_places = Some (at_child 0) ∷ []

pub short_is_placed : IsPlacing order None short short_places
short_is_placed = ((refl, tt), (beg, refl, refl), tt)

no_item : Has short_places (at_child 3) → ⊥
no_item (inl h) = other_child 3 0 0 0 (λ e. omega arith) h.0
no_item (inr h) = h

pub item_is_missing : IsStructureFault order_guide short short_places 3
    (fault_at 3 (codes "PO1") (codes "PO1") ik304.RequiredSegmentMissing 6)
item_is_missing = inr (inl (record {
  parent = [];
  child = 3;
  node = items;
  position = 3;
  code = ik304.RequiredSegmentMissing;
  repetition = tt;
  there = refl;
  needed = omega arith;
  cases = inl (λ h. no_item h, refl);
  reported = inr ((λ l. omega arith, tt), refl);
  is = refl;
}))
