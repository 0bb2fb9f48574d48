-- Two different places that may follow one lead to paired slots.
use Rattle.std.proofs.Common.{◌≡◌, ◌≢◌, ℕ, zero, suc, ◌<◌, ◌≤◌, ◌⊎◌, inl, inr, Bool, true, false, IsTrue, [], ◌∷◌}
use Rattle.std.proofs.Common.{Option, Some, None, refl, sym, ap, subst, ◌∙◌, arith}
use Rattle.std.specs.List.{AllByRecursion}
use Rattle.std.proofs.lemmas.Bool.{cases_order}
use Rattle.guide_tree.specs.declared.slot.Slot.{Slot}
use Rattle.guide_tree.specs.declared.node.Loop.{Loop}
use Rattle.guide_tree.specs.Tree.{Tree, Trees, segment, loop, no_trees, tree, EachIn, EachNode}
use Rattle.guide_tree.specs.Conditions.{has_trigger, is_triggered}
use Rattle.guide_tree.specs.Places.{Pair, Place, use_of, IsFirst, MayRepeat, IsNext, Follows, slot_in, slot_nth}
use Rattle.guide_tree.specs.Rivals.{entry}
use Rattle.guide_tree.proofs.Pairs.{pair_is}
use Rattle.guide_tree.proofs.RivalPairs.{Enters, InsideIn, Inside, PairedIn, Paired}

abbrev tree_nth : Trees → ℕ → Option Tree
tree_nth no_trees n = None
tree_nth (tree t ts) zero = Some t
tree_nth (tree t ts) (suc n) = tree_nth ts n

record At (us : Trees) (n : ℕ) (q : Place) (s : Slot) : Type 0 where
  node : Tree
  nth : tree_nth us n ≡ Some node
  slot : slot_in node q ≡ Some s

at_nth : (us : Trees) (n : ℕ) (q : Place) (s : Slot) → slot_nth us n q ≡ Some s → At us n q s
at_nth no_trees n q s e = cc
at_nth (tree t ts) zero q s e = record { node = t; nth = refl; slot = e }
at_nth (tree t ts) (suc n) q s e = let r = at_nth ts n q s e in record { node = r.node; nth = r.nth; slot = r.slot }

same_tree : (t u : Tree) → Some t ≡ Some u → t ≡ u
same_tree t u e = cc

enters_nth : (us : Trees) (m : ℕ) (t : Tree) (u : Slot) → tree_nth us m ≡ Some t → entry t ≡ Some u → Enters us u
enters_nth no_trees m t u n e = cc
enters_nth (tree x us) zero t u n e = inl (ap entry (same_tree x t n) ∙ e)
enters_nth (tree x us) (suc m) t u n e = inr (enters_nth us m t u n e)

inside_nth : (us : Trees) (m : ℕ) (t : Tree) (s : Slot) → tree_nth us m ≡ Some t → InsideIn t s → Inside us s
inside_nth no_trees m t s n i = cc
inside_nth (tree x us) zero t s n i = inr (inl (subst (λ (y : Tree). InsideIn y s) (sym (same_tree x t n)) i))
inside_nth (tree x us) (suc m) t s n i = inr (inr (inside_nth us m t s n i))

inside_entry : (us : Trees) (m : ℕ) (t : Tree) (s : Slot) → tree_nth us m ≡ Some t → entry t ≡ Some s → Inside us s
inside_entry no_trees m t s n e = cc
inside_entry (tree x us) zero t s n e = inl (ap entry (same_tree x t n) ∙ e)
inside_entry (tree x us) (suc m) t s n e = inr (inr (inside_entry us m t s n e))

paired_tops : (us : Trees) (n m : ℕ) (t v : Tree) (s u : Slot) → tree_nth us n ≡ Some t → tree_nth us m ≡ Some v
    → n < m → entry t ≡ Some s → entry v ≡ Some u → Paired us s u
paired_tops no_trees n m t v s u a b l e f = cc
paired_tops (tree x us) zero zero t v s u a b l e f = absurd (omega arith)
paired_tops (tree x us) zero (suc m) t v s u a b l e f = inl (ap entry (same_tree x t a) ∙ e, enters_nth us m v u b f)
paired_tops (tree x us) (suc n) zero t v s u a b l e f = absurd (omega arith)
paired_tops (tree x us) (suc n) (suc m) t v s u a b l e f =
    inr (inr (inr (paired_tops us n m t v s u a b (omega arith) e f)))

paired_deep : (us : Trees) (n m : ℕ) (t v : Tree) (s u : Slot) → tree_nth us n ≡ Some t → tree_nth us m ≡ Some v
    → n ≤ m → InsideIn t s → entry v ≡ Some u → Paired us s u
paired_deep no_trees n m t v s u a b l i f = cc
paired_deep (tree x us) zero m t v s u a b l i f =
    inr (inl (subst (λ (y : Tree). InsideIn y s) (sym (same_tree x t a)) i, enters_nth (tree x us) m v u b f))
paired_deep (tree x us) (suc n) zero t v s u a b l i f = absurd (omega arith)
paired_deep (tree x us) (suc n) (suc m) t v s u a b l i f =
    inr (inr (inr (paired_deep us n m t v s u a b (omega arith) i f)))

paired_nth : (us : Trees) (n : ℕ) (t : Tree) (s u : Slot) → tree_nth us n ≡ Some t → PairedIn t s u → Paired us s u
paired_nth no_trees n t s u a p = cc
paired_nth (tree x us) zero t s u a p =
    inr (inr (inl (subst (λ (y : Tree). PairedIn y s u) (sym (same_tree x t a)) p)))
paired_nth (tree x us) (suc n) t s u a p = inr (inr (inr (paired_nth us n t s u a p)))

-- paired among the nodes of a list; in a loop, after its first child
abbrev pub PairedAt : Bool → Trees → Slot → Slot → Type 0
PairedAt false ts s u = Paired ts s u
PairedAt true no_trees s u = ⊥
PairedAt true (tree t ts) s u = Paired ts s u

abbrev Led : Bool → Trees → Type 0
Led false ts = Unit {0}
Led true ts = IsTrue (has_trigger ts)

tops_at : (il : Bool) (ts : Trees) (n m : ℕ) (t v : Tree) (s u : Slot) → MayRepeat il n → tree_nth ts n ≡ Some t
    → tree_nth ts m ≡ Some v → n < m → entry t ≡ Some s → entry v ≡ Some u → PairedAt il ts s u
tops_at false ts n m t v s u h a b l e f = paired_tops ts n m t v s u a b l e f
tops_at true no_trees n m t v s u h a b l e f = cc
tops_at true (tree x us) zero m t v s u h a b l e f = absurd (omega arith)
tops_at true (tree x us) (suc n) zero t v s u h a b l e f = absurd (omega arith)
tops_at true (tree x us) (suc n) (suc m) t v s u h a b l e f = paired_tops us n m t v s u a b (omega arith) e f

deep_at : (il : Bool) (ts : Trees) (n m : ℕ) (t v : Tree) (s u : Slot) → Led il ts → tree_nth ts n ≡ Some t
    → tree_nth ts m ≡ Some v → n ≤ m → InsideIn t s → entry v ≡ Some u → PairedAt il ts s u
deep_at false ts n m t v s u h a b l i f = paired_deep ts n m t v s u a b l i f
deep_at true no_trees n m t v s u h a b l i f = cc
deep_at true (tree (loop k ws) us) n m t v s u h a b l i f = cc
deep_at true (tree (segment x) us) zero m t v s u h a b l i f =
    absurd (subst (λ (y : Tree). InsideIn y s) (sym (same_tree (segment x) t a)) i)
deep_at true (tree (segment x) us) (suc n) zero t v s u h a b l i f = absurd (omega arith)
deep_at true (tree (segment x) us) (suc n) (suc m) t v s u h a b l i f =
    paired_deep us n m t v s u a b (omega arith) i f

nth_at : (il : Bool) (ts : Trees) (n : ℕ) (t : Tree) (s u : Slot) → Led il ts → tree_nth ts n ≡ Some t
    → PairedIn t s u → PairedAt il ts s u
nth_at false ts n t s u h a p = paired_nth ts n t s u a p
nth_at true no_trees n t s u h a p = cc
nth_at true (tree (loop k ws) us) n t s u h a p = cc
nth_at true (tree (segment x) us) zero t s u h a p =
    absurd (subst (λ (y : Tree). PairedIn y s u) (sym (same_tree (segment x) t a)) p)
nth_at true (tree (segment x) us) (suc n) t s u h a p = paired_nth us n t s u a p

paired_at_in : (l : Loop) (ts : Trees) (s u : Slot) → PairedAt true ts s u → PairedIn (loop l ts) s u
paired_at_in l no_trees s u p = p
paired_at_in l (tree t ts) s u p = p

abbrev pub IsLed : Tree → Type 0
IsLed t = IsTrue (is_triggered t)

each_nth : (us : Trees) (n : ℕ) (t : Tree) → EachNode IsLed us → tree_nth us n ≡ Some t → EachIn IsLed t
each_nth no_trees n t h a = cc
each_nth (tree x us) zero t h a = subst (EachIn IsLed) (same_tree x t a) h.0
each_nth (tree x us) (suc n) t h a = each_nth us n t h.1 a

first_entry : (ts : Trees) (n : ℕ) (q : Place) (s : Slot) → IsTrue (has_trigger ts) → n ≡ 0
    → AllByRecursion IsFirst q → slot_nth ts n q ≡ Some s → (l : Loop) → (entry (loop l ts) ≡ Some s) × (q ≡ [])
first_entry no_trees n q s h z f e l = cc
first_entry (tree (loop k ws) us) n q s h z f e l = cc
first_entry (tree (segment x) us) (suc n) q s h z f e l = absurd (omega arith)
first_entry (tree (segment x) us) zero [] s h z f e l = (e, refl)
first_entry (tree (segment x) us) zero (a ∷ q) s h z f e l = cc

led_here : (t : Tree) → EachIn IsLed t → IsLed t
led_here (segment x) h = h
led_here (loop l ts) h = h.0

entry_of : (t : Tree) (q : Place) (s : Slot) → IsLed t → AllByRecursion IsFirst q → slot_in t q ≡ Some s
    → entry t ≡ Some s
entry_of (segment x) [] s h f e = e
entry_of (segment x) (a ∷ q) s h f e = cc
entry_of (loop l ts) [] s h f e = cc
entry_of (loop l ts) (a ∷ q) s h f e = (first_entry ts a.child q s h f.0.0 f.1 e l).0

first_is : (a : Pair) → IsFirst a → a ≡ use_of 0 0
first_is a h = ap (λ (k : ℕ). use_of k a.use_no) h.0 ∙ ap (use_of 0) h.1

-- one way leads down to a node's first slot
one_way : (t : Tree) (p q : Place) (s u : Slot) → IsLed t → AllByRecursion IsFirst p → AllByRecursion IsFirst q
    → slot_in t p ≡ Some s → slot_in t q ≡ Some u → p ≡ q
one_way (segment x) [] [] s u h f g d e = refl
one_way (segment x) [] (b ∷ q) s u h f g d e = cc
one_way (segment x) (a ∷ p) q s u h f g d e = cc
one_way (loop l ts) [] q s u h f g d e = cc
one_way (loop l ts) (a ∷ p) [] s u h f g d e = cc
one_way (loop l ts) (a ∷ p) (b ∷ q) s u h f g d e =
    let x = (first_entry ts a.child p s h f.0.0 f.1 d l).1 in
    let y = (first_entry ts b.child q u h g.0.0 g.1 e l).1 in
    ap (λ (c : Pair). c ∷ p) (first_is a f.0 ∙ sym (first_is b g.0)) ∙ ap (λ (r : Place). b ∷ r) (x ∙ sym y)

next_enters : (il : Bool) (a b : Pair) → IsNext il a b → MayRepeat il b.child
next_enters false a b h = tt
next_enters true a b (inl h) = let l = h.0 in omega arith
next_enters true a b (inr h) = let e = h.0 in let l = h.2 in omega arith

next_from : (il : Bool) (a b : Pair) → IsNext il a b → a.child ≤ b.child
next_from il a b (inl h) = let l = h.0 in omega arith
next_from il a b (inr h) = let e = h.0 in omega arith

same_use : (il : Bool) (a b c : Pair) → IsNext il a b → IsNext il a c → b.child ≡ c.child → b.use_no ≡ c.use_no
same_use il a b c (inl h) (inl g) e = h.1 ∙ sym g.1
same_use il a b c (inl h) (inr g) e = let l = h.0 in let f = g.0 in absurd (omega arith)
same_use il a b c (inr h) (inl g) e = let l = g.0 in let f = h.0 in absurd (omega arith)
same_use il a b c (inr h) (inr g) e = h.1 ∙ sym g.1

inside_of_nth : (l : Loop) (ts : Trees) (n : ℕ) (t : Tree) (s : Slot) → IsTrue (has_trigger ts)
    → tree_nth ts n ≡ Some t → InsideIn t s → InsideIn (loop l ts) s
inside_of_nth l no_trees n t s h a i = cc
inside_of_nth l (tree (loop k ws) us) n t s h a i = cc
inside_of_nth l (tree (segment x) us) zero t s h a i =
    absurd (subst (λ (y : Tree). InsideIn y s) (sym (same_tree (segment x) t a)) i)
inside_of_nth l (tree (segment x) us) (suc n) t s h a i = inside_nth us n t s a i

entry_behind : (l : Loop) (ts : Trees) (n : ℕ) (t : Tree) (s : Slot) → 0 < n → tree_nth ts n ≡ Some t
    → entry t ≡ Some s → InsideIn (loop l ts) s
entry_behind l no_trees n t s h a e = cc
entry_behind l (tree x us) zero t s h a e = absurd (omega arith)
entry_behind l (tree x us) (suc n) t s h a e = inside_entry us n t s a e

-- a place that may follow in a node leads to a slot inside it
deep_inside : (p : Place) (t : Tree) (v : Place) (s : Slot) → EachIn IsLed t → Follows true p v
    → slot_in t v ≡ Some s → InsideIn t s
deep_inside [] t v s h f e = absurd f
deep_inside (a ∷ p) t [] s h f e = absurd f
deep_inside (a ∷ p) (segment x) (b ∷ v) s h f e = cc
deep_inside (a ∷ p) (loop l ts) (b ∷ v) s h (inl f) e =
    let x = at_nth ts b.child v s e in
    inside_of_nth l ts b.child x.node s h.0 x.nth
    (deep_inside p x.node v s (each_nth ts b.child x.node h.1 x.nth) f.1 x.slot)
deep_inside (a ∷ p) (loop l ts) (b ∷ v) s h (inr f) e =
    let x = at_nth ts b.child v s e in
    entry_behind l ts b.child x.node s (next_enters true a b f.0) x.nth
    (entry_of x.node v s (led_here x.node (each_nth ts b.child x.node h.1 x.nth)) f.1 x.slot)

abbrev Both : (Slot → Slot → Type 0) → Slot → Slot → Type 0
Both P s u = P s u ⊎ P u s

-- two nodes of a list that are come to for the first time or again
level : (il : Bool) (ts : Trees) (b c : Pair) (v w : Place) (s u : Slot) → EachNode IsLed ts → MayRepeat il b.child
    → MayRepeat il c.child → (b.child ≡ c.child → b.use_no ≡ c.use_no)
    → AllByRecursion IsFirst v → AllByRecursion IsFirst w → slot_nth ts b.child v ≡ Some s
    → slot_nth ts c.child w ≡ Some u → (b ∷ v) ≢ (c ∷ w) → Both (PairedAt il ts) s u
level il ts b c v w s u h mb mc one fv fw e f d =
    let x = at_nth ts b.child v s e in
    let y = at_nth ts c.child w u f in
    let hx = led_here x.node (each_nth ts b.child x.node h x.nth) in
    let hy = led_here y.node (each_nth ts c.child y.node h y.nth) in
    let ex = entry_of x.node v s hx fv x.slot in
    let ey = entry_of y.node w u hy fw y.slot in
    elim (cases_order b.child c.child) [
      | inl q ↦ (let same : x.node ≡ y.node = same_tree x.node y.node (sym x.nth ∙ ap (tree_nth ts) q ∙ y.nth) in
          let vw = one_way x.node v w s u hx fv fw x.slot (subst (λ (z : Tree). slot_in z w ≡ Some u) (sym same) y.slot) in
          absurd (d (ap (λ (z : Pair). z ∷ v) (pair_is b c q (one q)) ∙ ap (λ (z : Place). c ∷ z) vw)))
      | inr g ↦ (elim g [
        | inl l ↦ inl (tops_at il ts b.child c.child x.node y.node s u mb x.nth y.nth l ex ey)
        | inr l ↦ inr (tops_at il ts c.child b.child y.node x.node u s mc y.nth x.nth l ey ex)
      ])
    ]

abbrev Deeper : Place → Slot → Slot → Type 0
Deeper p s u =
    (t : Tree) (v w : Place) → EachIn IsLed t → Follows true p v → Follows true p w → slot_in t v ≡ Some s
    → slot_in t w ≡ Some u → v ≢ w → Both (PairedIn t) s u

both_at : (il : Bool) (ts : Trees) (a b c : Pair) (p v w : Place) (s u : Slot) → EachNode IsLed ts → Led il ts
    → Follows il (a ∷ p) (b ∷ v) → Follows il (a ∷ p) (c ∷ w)
    → slot_nth ts b.child v ≡ Some s → slot_nth ts c.child w ≡ Some u → (b ∷ v) ≢ (c ∷ w) → Deeper p s u
    → Both (PairedAt il ts) s u
both_at il ts a b c p v w s u h k (inl f) (inl g) e d n deeper =
    let bc : b ≡ c = sym f.0 ∙ g.0 in
    let x = at_nth ts b.child v s e in
    let y = at_nth ts c.child w u d in
    let same : x.node ≡ y.node =
    same_tree x.node y.node (sym x.nth ∙ ap (λ (z : Pair). tree_nth ts z.child) bc ∙ y.nth) in
    let vw : v ≢ w = λ q. n (ap (λ (z : Pair). z ∷ v) bc ∙ ap (λ (z : Place). c ∷ z) q) in
    elim (deeper x.node v w (each_nth ts b.child x.node h x.nth) f.1 g.1 x.slot
    (subst (λ (z : Tree). slot_in z w ≡ Some u) (sym same) y.slot) vw) [
      | inl r ↦ inl (nth_at il ts b.child x.node s u k x.nth r)
      | inr r ↦ inr (nth_at il ts b.child x.node u s k x.nth r)
    ]
both_at il ts a b c p v w s u h k (inl f) (inr g) e d n deeper =
    let x = at_nth ts b.child v s e in
    let y = at_nth ts c.child w u d in
    let le : b.child ≤ c.child =
    (let q = ap (λ (z : Pair). z.child) f.0 in let r = next_from il a c g.0 in omega arith) in
    inl (deep_at il ts b.child c.child x.node y.node s u k x.nth y.nth le
    (deep_inside p x.node v s (each_nth ts b.child x.node h x.nth) f.1 x.slot)
    (entry_of y.node w u (led_here y.node (each_nth ts c.child y.node h y.nth)) g.1 y.slot))
both_at il ts a b c p v w s u h k (inr f) (inl g) e d n deeper =
    let x = at_nth ts b.child v s e in
    let y = at_nth ts c.child w u d in
    let le : c.child ≤ b.child =
    (let q = ap (λ (z : Pair). z.child) g.0 in let r = next_from il a b f.0 in omega arith) in
    inr (deep_at il ts c.child b.child y.node x.node u s k y.nth x.nth le
    (deep_inside p y.node w u (each_nth ts c.child y.node h y.nth) g.1 y.slot)
    (entry_of x.node v s (led_here x.node (each_nth ts b.child x.node h x.nth)) f.1 x.slot))
both_at il ts a b c p v w s u h k (inr f) (inr g) e d n deeper =
    level il ts b c v w s u h (next_enters il a b f.0) (next_enters il a c g.0) (same_use il a b c f.0 g.0) f.1 g.1 e
    d n

both_in : (p : Place) (s u : Slot) → Deeper p s u
both_in [] s u t v w h f g e d n = absurd f
both_in (a ∷ p) s u t [] w h f g e d n = absurd f
both_in (a ∷ p) s u t (b ∷ v) [] h f g e d n = absurd g
both_in (a ∷ p) s u (segment x) (b ∷ v) (c ∷ w) h f g e d n = cc
both_in (a ∷ p) s u (loop l ts) (b ∷ v) (c ∷ w) h f g e d n =
    elim (both_at true ts a b c p v w s u h.1 h.0 f g e d n (both_in p s u)) [
      | inl r ↦ inl (paired_at_in l ts s u r)
      | inr r ↦ inr (paired_at_in l ts u s r)
    ]

pub both_follow : (ts : Trees) (a b c : Pair) (p v w : Place) (s u : Slot) → EachNode IsLed ts
    → Follows false (a ∷ p) (b ∷ v) → Follows false (a ∷ p) (c ∷ w)
    → slot_nth ts b.child v ≡ Some s → slot_nth ts c.child w ≡ Some u → (b ∷ v) ≢ (c ∷ w)
    → Paired ts s u ⊎ Paired ts u s
both_follow ts a b c p v w s u h f g e d n = both_at false ts a b c p v w s u h tt f g e d n (both_in p s u)

pub both_begin : (ts : Trees) (b c : Pair) (v w : Place) (s u : Slot) → EachNode IsLed ts → b.use_no ≡ 0
    → c.use_no ≡ 0 → AllByRecursion IsFirst v → AllByRecursion IsFirst w
    → slot_nth ts b.child v ≡ Some s → slot_nth ts c.child w ≡ Some u → (b ∷ v) ≢ (c ∷ w)
    → Paired ts s u ⊎ Paired ts u s
both_begin ts b c v w s u h x y f g e d n = level false ts b c v w s u h tt tt (λ q. x ∙ sym y) f g e d n
