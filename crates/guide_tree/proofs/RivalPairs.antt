-- The least pair of rivals, as a fact about the tree.
use Rattle.std.proofs.Common.{◌≡◌, ◌⊎◌, inl, inr, Bool, true, false, cond, IsTrue, Option, Some, None, refl, sym, subst}
use Rattle.guide_tree.specs.declared.slot.Slot.{Slot}
use Rattle.guide_tree.specs.Tree.{Tree, Trees, segment, loop, no_trees, tree}
use Rattle.guide_tree.specs.Segments.{can_fit_both}
use Rattle.guide_tree.specs.Rivals.{Numbers, entry, numbers_of, keep_least, against, against_each, within_in, within}
use Rattle.guide_tree.specs.Rivals.{least_in, least_rivals}
use Rattle.guide_tree.proofs.Keeping.{Keeps, keeps_both, keeps_none, keeps_as, keeps_one}

-- some node of the list begins with the slot
abbrev pub Enters : Trees → Slot → Type 0
Enters no_trees s = ⊥
Enters (tree t ts) s = (entry t ≡ Some s) ⊎ Enters ts s

-- some node of the list or in it begins with the slot, but for the first ones of loops
abbrev mutual
  pub InsideIn : Tree → Slot → Type 0
  InsideIn (segment x) s = ⊥
  InsideIn (loop l no_trees) s = ⊥
  InsideIn (loop l (tree t ts)) s = Inside ts s

  pub Inside : Trees → Slot → Type 0
  Inside no_trees s = ⊥
  Inside (tree t ts) s = (entry t ≡ Some s) ⊎ (InsideIn t s ⊎ Inside ts s)

-- two slots of which the first stands before the second, or in a loop that the second begins
abbrev mutual
  pub PairedIn : Tree → Slot → Slot → Type 0
  PairedIn (segment x) s u = ⊥
  PairedIn (loop l no_trees) s u = ⊥
  PairedIn (loop l (tree t ts)) s u = Paired ts s u

  pub Paired : Trees → Slot → Slot → Type 0
  Paired no_trees s u = ⊥
  Paired (tree t ts) s u =
      ((entry t ≡ Some s) × Enters ts u) ⊎ ((InsideIn t s × Enters (tree t ts) u) ⊎ (PairedIn t s u ⊎ Paired ts s u))

-- the numbers of two slots that a segment can fit both
abbrev pub Meet : Slot → Slot → Numbers → Type 0
Meet s u m = IsTrue (can_fit_both s u) × (m ≡ numbers_of s u)

abbrev pub MeetsEach : Option Slot → Trees → Numbers → Type 0
MeetsEach o ts m = (s : Slot) × (u : Slot) × (o ≡ Some s) × Enters ts u × Meet s u m

pub record MeetsWithin (P : Slot → Type 0) (outer : Trees) (m : Numbers) : Type 0 where
  pub one : Slot
  pub other : Slot
  pub inside : P one
  pub enters : Enters outer other
  pub meet : Meet one other m

pub record MeetPaired (P : Slot → Slot → Type 0) (m : Numbers) : Type 0 where
  pub one : Slot
  pub other : Slot
  pub paired : P one other
  pub meet : Meet one other m

slot_keeps : (b : Option Numbers) (s u : Slot) (t : Bool) → can_fit_both s u ≡ t
    → Keeps (Meet s u) b (cond t (keep_least b (numbers_of s u)) b)
slot_keeps b s u true e =
    keeps_as (λ m. m ≡ numbers_of s u) (Meet s u) b _ (λ m h. (e, h)) (λ m h. h.1) (keeps_one b (numbers_of s u))
slot_keeps b s u false e =
    keeps_as (λ m. ⊥) (Meet s u) b b (λ m h. absurd h) (λ m h. (let f : can_fit_both s u ≡ true = h.0 in cc))
    (keeps_none b)

abbrev MeetsOne : Option Slot → Option Slot → Numbers → Type 0
MeetsOne o p m = (s : Slot) × (u : Slot) × (o ≡ Some s) × (p ≡ Some u) × Meet s u m

some_is : (s t : Slot) → Some s ≡ Some t → s ≡ t
some_is s t e = cc

against_keeps : (b : Option Numbers) (o p : Option Slot) → Keeps (MeetsOne o p) b (against b o p)
against_keeps b None p =
    keeps_as (λ m. ⊥) (MeetsOne None p) b b (λ m h. absurd h) (λ m h. (let e : None ≡ Some h.0 = h.2 in cc))
    (keeps_none b)
against_keeps b (Some s) None =
    keeps_as (λ m. ⊥) (MeetsOne (Some s) None) b b (λ m h. absurd h) (λ m h. (let e : None ≡ Some h.1 = h.3 in cc))
    (keeps_none b)
against_keeps b (Some s) (Some u) = keeps_as (Meet s u) (MeetsOne (Some s) (Some u)) b _
    (λ m h. (s, u, refl, refl, h))
    (λ m h. subst (λ (x : Slot). Meet x u m) (sym (some_is s h.0 h.2))
    (subst (λ (x : Slot). Meet h.0 x m) (sym (some_is u h.1 h.3)) h.4))
    (slot_keeps b s u (can_fit_both s u) refl)

each_keeps : (b : Option Numbers) (o : Option Slot) (ts : Trees) → Keeps (MeetsEach o ts) b (against_each b o ts)
each_keeps b o no_trees = keeps_as (λ m. ⊥) (MeetsEach o no_trees) b b (λ m h. absurd h) (λ m h. h.3) (keeps_none b)
each_keeps b o (tree t ts) = keeps_as (λ m. MeetsOne o (entry t) m ⊎ MeetsEach o ts m) (MeetsEach o (tree t ts)) b _
    (λ m h. elim h [ inl x ↦ (x.0, x.1, x.2, inl x.3, x.4) | inr y ↦ (y.0, y.1, y.2, inr y.3, y.4) ])
    (λ m h. elim h.3 [ inl x ↦ inl (h.0, h.1, h.2, x, h.4) | inr y ↦ inr (h.0, h.1, h.2, y, h.4) ])
    (keeps_both (MeetsOne o (entry t)) (MeetsEach o ts) b (against b o (entry t)) _ (against_keeps b o (entry t))
    (each_keeps (against b o (entry t)) o ts))

mutual
  within_in_keeps : (outer : Trees) (b : Option Numbers) (t : Tree)
      → Keeps (MeetsWithin (InsideIn t) outer) b (within_in outer b t)
  within_in_keeps outer b (segment x) =
      keeps_as (λ m. ⊥) (MeetsWithin (InsideIn (segment x)) outer) b b (λ m h. absurd h) (λ m h. h.inside)
      (keeps_none b)
  within_in_keeps outer b (loop l no_trees) =
      keeps_as (λ m. ⊥) (MeetsWithin (InsideIn (loop l no_trees)) outer) b b (λ m h. absurd h) (λ m h. h.inside)
      (keeps_none b)
  within_in_keeps outer b (loop l (tree t ts)) =
      keeps_as (MeetsWithin (Inside ts) outer) (MeetsWithin (InsideIn (loop l (tree t ts))) outer) b _
      (λ m h. record { one = h.one; other = h.other; inside = h.inside; enters = h.enters; meet = h.meet })
      (λ m h. record { one = h.one; other = h.other; inside = h.inside; enters = h.enters; meet = h.meet })
      (within_keeps outer b ts)

  within_keeps : (outer : Trees) (b : Option Numbers) (ts : Trees)
      → Keeps (MeetsWithin (Inside ts) outer) b (within outer b ts)
  within_keeps outer b no_trees =
      keeps_as (λ m. ⊥) (MeetsWithin (Inside no_trees) outer) b b (λ m h. absurd h) (λ m h. h.inside) (keeps_none b)
  within_keeps outer b (tree t ts) =
      let c = against_each b (entry t) outer in
      let d = within_in outer c t in
      keeps_as (λ m. (MeetsEach (entry t) outer m ⊎ MeetsWithin (InsideIn t) outer m) ⊎ MeetsWithin (Inside ts) outer
      m) (MeetsWithin (Inside (tree t ts)) outer) b _
      (λ m h. elim h [
        | inl g ↦ (elim g [
          | inl x ↦ record { one = x.0; other = x.1; inside = inl x.2; enters = x.3; meet = x.4 }
          | inr y ↦ record {
            one = y.one;
            other = y.other;
            inside = inr (inl y.inside);
            enters = y.enters;
            meet =
                y.meet;
          }
        ])
        | inr z ↦ record { one = z.one; other = z.other; inside = inr (inr z.inside); enters = z.enters; meet = z.meet }
      ])
      (λ m h. elim h.inside [
        | inl x ↦ inl (inl (h.one, h.other, x, h.enters, h.meet))
        | inr g ↦ (elim g [
          | inl y ↦ inl (inr (record { one = h.one; other = h.other; inside = y; enters = h.enters; meet = h.meet }))
          | inr z ↦ inr (record { one = h.one; other = h.other; inside = z; enters = h.enters; meet = h.meet })
        ])
      ])
      (keeps_both (λ m. MeetsEach (entry t) outer m ⊎ MeetsWithin (InsideIn t) outer m)
      (MeetsWithin (Inside ts) outer) b d _
      (keeps_both (MeetsEach (entry t) outer) (MeetsWithin (InsideIn t) outer) b c d (each_keeps b (entry t) outer)
      (within_in_keeps outer c t))
      (within_keeps outer d ts))

mutual
  least_in_keeps : (b : Option Numbers) (t : Tree) → Keeps (MeetPaired (PairedIn t)) b (least_in b t)
  least_in_keeps b (segment x) =
      keeps_as (λ m. ⊥) (MeetPaired (PairedIn (segment x))) b b (λ m h. absurd h) (λ m h. h.paired) (keeps_none b)
  least_in_keeps b (loop l no_trees) =
      keeps_as (λ m. ⊥) (MeetPaired (PairedIn (loop l no_trees))) b b (λ m h. absurd h) (λ m h. h.paired) (keeps_none b)
  least_in_keeps b (loop l (tree t ts)) =
      keeps_as (MeetPaired (Paired ts)) (MeetPaired (PairedIn (loop l (tree t ts)))) b _
      (λ m h. record { one = h.one; other = h.other; paired = h.paired; meet = h.meet })
      (λ m h. record { one = h.one; other = h.other; paired = h.paired; meet = h.meet })
      (least_keeps b ts)

  -- the least numbers of pairs that meet, or the best so far
  pub least_keeps : (b : Option Numbers) (ts : Trees) → Keeps (MeetPaired (Paired ts)) b (least_rivals b ts)
  least_keeps b no_trees =
      keeps_as (λ m. ⊥) (MeetPaired (Paired no_trees)) b b (λ m h. absurd h) (λ m h. h.paired) (keeps_none b)
  least_keeps b (tree t ts) =
      let c = against_each b (entry t) ts in
      let d = within_in (tree t ts) c t in
      let e = least_in d t in
      keeps_as (λ m. ((MeetsEach (entry t) ts m ⊎ MeetsWithin (InsideIn t) (tree t ts) m) ⊎ MeetPaired (PairedIn t) m)
      ⊎ MeetPaired (Paired ts) m) (MeetPaired (Paired (tree t ts))) b _
      (λ m h. elim h [
        | inl g ↦ (elim g [
          | inl f ↦ (elim f [
            | inl x ↦ record { one = x.0; other = x.1; paired = inl (x.2, x.3); meet = x.4 }
            | inr y ↦ record { one = y.one; other = y.other; paired = inr (inl (y.inside, y.enters)); meet = y.meet }
          ])
          | inr z ↦ record { one = z.one; other = z.other; paired = inr (inr (inl z.paired)); meet = z.meet }
        ])
        | inr w ↦ record { one = w.one; other = w.other; paired = inr (inr (inr w.paired)); meet = w.meet }
      ])
      (λ m h. elim h.paired [
        | inl x ↦ inl (inl (inl (h.one, h.other, x.0, x.1, h.meet)))
        | inr g ↦ (elim g [
          | inl y ↦ inl (inl (inr (record { one = h.one; other = h.other; inside = y.0; enters = y.1; meet = h.meet })))
          | inr f ↦ (elim f [
            | inl z ↦ inl (inr (record { one = h.one; other = h.other; paired = z; meet = h.meet }))
            | inr w ↦ inr (record { one = h.one; other = h.other; paired = w; meet = h.meet })
          ])
        ])
      ])
      (keeps_both (λ m. (MeetsEach (entry t) ts m ⊎ MeetsWithin (InsideIn t) (tree t ts) m) ⊎ MeetPaired (PairedIn t)
      m) (MeetPaired (Paired ts)) b e _
      (keeps_both (λ m. MeetsEach (entry t) ts m ⊎ MeetsWithin (InsideIn t) (tree t ts) m) (MeetPaired (PairedIn t)) b
      d e
      (keeps_both (MeetsEach (entry t) ts) (MeetsWithin (InsideIn t) (tree t ts)) b c d (each_keeps b (entry t) ts)
      (within_in_keeps (tree t ts) c t))
      (least_in_keeps d t))
      (least_keeps e ts))
