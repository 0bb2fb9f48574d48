-- The same the other way: what goes on as the steps say comes after the place.
use Rattle.std.proofs.Common.{◌≡◌, IsTrue, ℕ, zero, suc, inl, inr, List, [], ◌∷◌, ◌++◌, Some, refl, sym, ◌∙◌, ap}
use Rattle.std.proofs.Common.{subst, arith, append_assoc}
use Rattle.std.proofs.lemmas.Option.{same_Some}
use Rattle.guide_tree.specs.declared.slot.Slot.{Slot}
use Rattle.guide_tree.specs.declared.node.Loop.{Loop}
use Rattle.guide_tree.specs.Words.{fits, Tree, Trees, segment, loop, no_trees, tree, Given, IsPart, Derives, joined, Place, slot_in}
use Rattle.guide_tree.specs.Words.{slot_nth}
use Rattle.guide_law.proofs.Residual.{Triggered, AllTriggered, AfterIn, After, IsStart, Enters, MayBeEmpty, Closes}
use Rattle.guide_law.proofs.Residual.{Ends, StepsIn, Steps}

pub nothing_derived : (ts : Trees) → MayBeEmpty ts → Derives ts []
nothing_derived no_trees h = refl
nothing_derived (tree t ts) h = ([], [], omega arith, omega arith, tt, nothing_derived ts h.1, refl)

mutual
  pub closes_after : (t : Tree) (q : Place) → Closes t q → AfterIn t q []
  closes_after (segment p) [] h = refl
  closes_after (segment p) (a ∷ q) h = h
  closes_after (loop l ts) [] h = h
  closes_after (loop l ts) (a ∷ q) h = ends_after ts a.child a.use_no q h

  pub ends_after : (ts : Trees) (n r : ℕ) (q : Place) → Ends ts n r q → After ts n r q []
  ends_after no_trees n r q h = h
  ends_after (tree t ts) (suc n) r q h = ends_after ts n r q h
  ends_after (tree t ts) zero r q h =
      ([], [], [], omega arith, omega arith, closes_after t q h.0, tt, nothing_derived ts h.3, refl)

-- a loop's use from its trigger and what comes after it
trigger_part : (l : Loop) (p : Slot) (ts : Trees) (x : Given) (xs : List Given) → p.min ≡ 1 → p.max ≡ 1
    → Some p ≡ Some x.1 → IsTrue (fits x.1 x.0)
    → After (tree (segment p) ts) 0 0 [] xs → IsPart (loop l (tree (segment p) ts)) (x ∷ xs)
trigger_part l p ts x xs hb hc e f (inner, y ∷ ys, rest, least, most, in_it, all, d, is) = absurd (omega arith)
trigger_part l p ts x xs hb hc e f (inner, [], rest, least, most, in_it, all, d, is) =
    let same : p ≡ x.1 = same_Some p x.1 e in (
      (x ∷ []) ∷ [],
      rest,
      omega arith,
      omega arith,
      ((x.0, subst (λ (z : Slot). IsTrue (fits z x.0)) (sym same) f, ap (λ (z : Slot). (x.0, z) ∷ []) (sym same)), tt),
      d,
      ap (λ (l : List Given). x ∷ l) (is ∙ ap (λ (l : List Given). l ++ rest) in_it),
    )

-- a part from its first segment and what comes after it
pub start_part : (t : Tree) (q : Place) (x : Given) (xs : List Given) → Triggered t → IsStart t q
    → slot_in t q ≡ Some x.1 → IsTrue (fits x.1 x.0) → AfterIn t q xs
    → IsPart t (x ∷ xs)
start_part (segment p) [] x xs h s e f k =
    let same : p ≡ x.1 = same_Some p x.1 e in (
      x.0,
      subst (λ (z : Slot). IsTrue (fits z x.0)) (sym same) f,
      ap (λ (l : List Given). x ∷ l) k
          ∙ ap (λ (z : Slot). (x.0, z) ∷ []) (sym same),
    )
start_part (segment p) (a ∷ q) x xs h s e f k = absurd s
start_part (loop l ts) [] x xs h s e f k = absurd s
start_part (loop l no_trees) (a ∷ q) x xs h s e f k = absurd h.0
start_part (loop l (tree (loop other us) ts)) (a ∷ q) x xs h s e f k = absurd h.0
start_part (loop l (tree (segment p) ts)) (a ∷ q) x xs h s e f k =
    let at_zero = subst (λ (n : ℕ). After (tree (segment p) ts) n a.use_no q xs) s.0.0 k in
    let at_first = subst (λ (n : ℕ). After (tree (segment p) ts) 0 n q xs) s.0.1 at_zero in
    let at_top = subst (λ (w : Place). After (tree (segment p) ts) 0 0 w xs) s.1 at_first in
    let e_zero = subst (λ (n : ℕ). slot_nth (tree (segment p) ts) n q ≡ Some x.1) s.0.0 e in
    let e_top = subst (λ (w : Place). slot_nth (tree (segment p) ts) 0 w ≡ Some x.1) s.1 e_zero in
    trigger_part l p ts x xs h.0.0 h.0.1 e_top f at_top

pub begins_derived : (ts : Trees) (m : ℕ) (q : Place) (x : Given) (xs : List Given) → AllTriggered ts
    → Enters ts m q → slot_nth ts m q ≡ Some x.1 → IsTrue (fits x.1 x.0) → After ts m 0 q xs
    → Derives ts (x ∷ xs)
begins_derived no_trees m q x xs h n e f k = absurd n
begins_derived (tree t ts) (suc m) q x xs h n e f k =
    ([], x ∷ xs, omega arith, omega arith, tt, begins_derived ts m q x xs h.1 n.1 e f k, refl)
begins_derived (tree t ts) zero q x xs h n e f (inner, parts, rest, least, most, in_it, all, d, is) = (
  (x ∷ inner) ∷ parts,
  rest,
  omega arith,
  omega arith,
  (start_part t q x inner h.0 n.1 e f in_it, all),
  d,
  ap (λ (l : List Given). x ∷ l) (is ∙ sym (append_assoc inner (joined parts) rest)),
)

mutual
  pub goes_after_in : (t : Tree) (q w : Place) (x : Given) (xs : List Given) → Triggered t → StepsIn t q w
      → slot_in t w ≡ Some x.1 → IsTrue (fits x.1 x.0) → AfterIn t w xs
      → AfterIn t q (x ∷ xs)
  goes_after_in (segment p) q w x xs h s e f k = absurd s
  goes_after_in (loop l ts) [] w x xs h s e f k = absurd s
  goes_after_in (loop l ts) (a ∷ q) [] x xs h s e f k = absurd s
  goes_after_in (loop l ts) (a ∷ q) (b ∷ w) x xs h s e f k =
      goes_after ts a.child a.use_no q b.child b.use_no w x xs h.1 s e f k

  pub goes_after : (ts : Trees) (n r : ℕ) (q : Place) (m u : ℕ) (w : Place) (x : Given) (xs : List Given)
      → AllTriggered ts → Steps ts n r q m u w
      → slot_nth ts m w ≡ Some x.1 → IsTrue (fits x.1 x.0) → After ts m u w xs → After ts n r q (x ∷ xs)
  goes_after no_trees n r q m u w x xs h s e f k = absurd s
  goes_after (tree t ts) (suc n) r q zero u w x xs h s e f k = absurd s
  goes_after (tree t ts) (suc n) r q (suc m) u w x xs h s e f k = goes_after ts n r q m u w x xs h.1 s e f k
  goes_after (tree t ts) zero r q (suc m) u w x xs h (c, least, most, z, n) e f k = (
    [],
    [],
    x ∷ xs,
    omega arith,
    omega arith,
    closes_after t q c,
    tt,
    begins_derived ts m w x xs h.1 n e f (subst (λ (v : ℕ). After ts m v w xs) z k),
    refl,
  )
  goes_after (tree t ts) zero r q zero u w x xs h (inl (z, s)) e f
      (inner, parts, rest, least, most, in_it, all, d, is) = (
        x ∷ inner,
        parts,
        rest,
        omega arith,
        omega arith,
        goes_after_in t q w x inner h.0 s e f in_it,
        all,
        d,
        ap (λ (l : List Given). x ∷ l) is,
      )
  goes_after (tree t ts) zero r q zero u w x xs h (inr (c, z, top, s)) e f
      (inner, parts, rest, least, most, in_it, all, d, is) = (
        [],
        (x ∷ inner) ∷ parts,
        rest,
        omega arith,
        omega arith,
        closes_after t q c,
        (start_part t w x inner h.0 s e f in_it, all),
        d,
        ap (λ (l : List Given). x ∷ l) (is ∙ sym (append_assoc inner (joined parts) rest)),
      )
