-- Where a condition holds by masks, it holds by positions: one lemma a relation.
use Rattle.std.proofs.Common.{◌≡◌, ℕ, zero, suc, ◌*◌, ◌%◌, ◌^◌, ◌<◌, ◌≤◌, ◌==◌, ◌∙◌, List, [], ◌∷◌, length, take, drop, Bool, true, false}
use Rattle.std.proofs.Common.{refl, sym, ap, subst, arith}
use Rattle.std.specs.Prelude.{min, ◌&&◌, ◌||◌, not, nat_lt, bit_and, if◌then◌else◌}
use mathlib.Core.Logic.{◌⊎◌, inl, inr}
use Rattle.std.specs.Int.{bit_at, trailing_zeros, w64}
use Rattle.std.specs.List.{All, Contains, list_any, list_all, filter}
use Rattle.std.proofs.lemmas.Bool.{cases_Bool, cases_eq, eqb-true, lt-ltb, ltb-true, le-leb, false≢true}
use Rattle.std.proofs.lemmas.Bool.Decides.{nat_tests}
use Rattle.std.proofs.lemmas.Nat.{and_le_l, one_shl}
use Rattle.std.proofs.lemmas.Nat.Bits.{bit_at_and, bit_at-zero, bit_at-lt, bit_at-pow_other, bit_at-trailing_zeros, same_from_bits_below}
use Rattle.std.proofs.lemmas.List.Elements.{All-nil, All-cons, All-head, All-tail, Contains-append_left, Contains-append_right}
use Rattle.std.proofs.lemmas.List.Elements.{Contains-append_cases}
use Rattle.guide_tree.specs.Words.{is_distinct}
use Rattle.guide_tree.specs.declared.slot.Relation.{Relation}
use Rattle.guide_tree.specs.declared.slot.Relation.TheVariants as relation
use Rattle.moment.proofs.ForAbove.{both}
use Rattle.elem_rules.specs.Clean.{is_set, holds}
use Rattle.elem_rules.specs.Flat.{is_single, holds_by}
use Rattle.elem_rules.specs.Marks.{AreBits}
use Rattle.elem_rules.proofs.Members.{no_member, one_contains, contains_one}

-- of all items
all_in : (P : ℕ → Type 0) (ps : List ℕ) → ((p : ℕ) → Contains ps p → P p) → All P ps
all_in P [] h = All-nil P
all_in P (p ∷ ps) h = All-cons P p ps (h p (Contains-append_left (p ∷ []) ps p (one_contains p)))
    (all_in P ps (λ q there. h q (Contains-append_right (p ∷ []) ps q there)))

none_from : (q : ℕ → Bool) (ps : List ℕ) → All (λ p. q p ≡ false) ps → list_any q ps ≡ false
none_from q [] h = refl
none_from q (p ∷ ps) h = ap (λ b. b || list_any q ps) (All-head (λ p. q p ≡ false) p ps h)
    ∙ none_from q ps (All-tail (λ p. q p ≡ false) p ps h)

all_from : (q : ℕ → Bool) (ps : List ℕ) → All (λ p. q p ≡ true) ps → list_all q ps ≡ true
all_from q [] h = refl
all_from q (p ∷ ps) h = ap (λ b. b && list_all q ps) (All-head (λ p. q p ≡ true) p ps h)
    ∙ all_from q ps (All-tail (λ p. q p ≡ true) p ps h)

neither : (a b : Bool) → (a || b) ≡ false → (a ≡ false) × (b ≡ false)
neither true b h = cc
neither false b h = (refl, h)

none_to : (q : ℕ → Bool) (ps : List ℕ) (p : ℕ) → list_any q ps ≡ false → Contains ps p → q p ≡ false
none_to q [] p h there = absurd (no_member p there)
none_to q (x ∷ ps) p h there =
    let e = neither (q x) (list_any q ps) h in
    elim (Contains-append_cases (x ∷ []) ps p there) [
      | inl here ↦ ap q (contains_one x p here) ∙ e.0
      | inr there ↦ none_to q ps p e.1 there
    ]

-- a bit that is set, and one that isn't
set_is : (bits p : ℕ) → is_set bits p ≡ true → (p < 64) × (bit_at bits p ≡ 1)
set_is bits p h =
    let e = both (nat_lt p 64) (bit_at bits p == 1) h in
    (ltb-true p 64 e.0, eqb-true (bit_at bits p) 1 e.1)

set_from : (bits p : ℕ) → p < 64 → bit_at bits p ≡ 1 → is_set bits p ≡ true
set_from bits p lt is = ap (λ b. b && (bit_at bits p == 1)) (lt-ltb p 64 lt) ∙ ap (λ n. n == 1) is

unset : (bits p : ℕ) → p < 64 → is_set bits p ≡ false → bit_at bits p ≡ 0
unset bits p lt h = elim (cases_eq (bit_at bits p) 1) [
  | inl e ↦ absurd (false≢true (sym h ∙ set_from bits p lt e))
  | inr e ↦ let small = bit_at-lt bits p in omega (arith, e, small)
]

-- a bit of a mask that lies within
pub set_within : (bits mask : ℕ) → bit_and bits mask ≡ mask → (p : ℕ) → is_set mask p ≡ true → is_set bits p ≡ true
set_within bits mask e p h =
    let m = set_is mask p h in
    let x = bit_at_and bits mask p in
    let y = ap (λ x. bit_at x p) e in
    let z = bit_at-lt bits p in
    set_from bits p m.0 (omega (arith, x, y, z, m.1))

module _ (bits mask : ℕ) (ps : List ℕ) (are : AreBits mask ps) where
  at_position : (p : ℕ) → Contains ps p → (p < 64) × (bit_at mask p ≡ 1)
  at_position p there = set_is mask p ((are p).1 there)

  none_at : bit_and bits mask ≡ 0 → (p : ℕ) → Contains ps p → is_set bits p ≡ false
  none_at e p there =
      let m = at_position p there in
      elim (cases_Bool (is_set bits p)) [
        | inl s ↦
            let b = set_is bits p s in
            let x = bit_at_and bits mask p in
            let y = ap (λ x. bit_at x p) e in
            let z = bit_at-zero p in
            absurd (omega (arith, x, y, z, b.1, m.1))
        | inr s ↦ s
      ]

  none_of : bit_and bits mask ≡ 0 → list_any (is_set bits) ps ≡ false
  none_of e = none_from (is_set bits) ps (all_in (λ p. is_set bits p ≡ false) ps (none_at e))

  all_at : bit_and bits mask ≡ mask → (p : ℕ) → Contains ps p → is_set bits p ≡ true
  all_at e p there =
      let m = at_position p there in
      let x = bit_at_and bits mask p in
      let y = ap (λ x. bit_at x p) e in
      let z = bit_at-lt bits p in
      set_from bits p m.0 (omega (arith, x, y, z, m.1))

  all_of : bit_and bits mask ≡ mask → list_all (is_set bits) ps ≡ true
  all_of e = all_from (is_set bits) ps (all_in (λ p. is_set bits p ≡ true) ps (all_at e))

  no_bit : bits < 2 ^ 64 → list_any (is_set bits) ps ≡ false → (i : ℕ) → i < 64 → bit_at (bit_and bits mask) i ≡ bit_at 0 i
  no_bit few e i lt =
      let x = bit_at_and bits mask i in
      let z = bit_at-zero i in
      elim (cases_Bool (is_set mask i)) [
        | inl s ↦ let b = unset bits i lt (none_to (is_set bits) ps i e ((are i).0 s)) in omega (arith, x, z, b)
        | inr s ↦ let b = unset mask i lt s in omega (arith, x, z, b)
      ]

  some_of : bits < 2 ^ 64 → (bit_and bits mask ≡ 0 → ⊥) → list_any (is_set bits) ps ≡ true
  some_of few some = elim (cases_Bool (list_any (is_set bits) ps)) [
    | inl e ↦ e
    | inr e ↦
        let l = and_le_l bits mask in
        absurd (some (same_from_bits_below 64 (bit_and bits mask) 0 (omega (arith, l, few)) (omega arith) (no_bit few e)))
  ]

-- a list that names nothing twice has no more than one item that is a given one
none_kept : (q : ℕ → Bool) (p t : ℕ) (ps : List ℕ) → list_any (λ y. p == y) ps ≡ false → p ≡ t → All (λ x. q x ≡ true → x ≡ t) ps
    → filter q ps ≡ []
none_kept q p t [] h e each = refl
none_kept q p t (x ∷ ps) h e each =
    let o = neither (p == x) (list_any (λ y. p == y) ps) h in
    let rest = none_kept q p t ps o.1 e (All-tail (λ x. q x ≡ true → x ≡ t) x ps each) in
    elim (cases_Bool (q x)) [
      | inl s ↦
          let is : x ≡ p = All-head (λ x. q x ≡ true → x ≡ t) x ps each s ∙ sym e in
          let same : (p == p) ≡ false = ap (λ (y : ℕ). p == y) (sym is) ∙ o.0 in
          absurd (not_other p same)
      | inr s ↦ ap (λ b. if b then x ∷ filter q ps else filter q ps) s ∙ rest
    ]
  where
    not_other : (p : ℕ) → (p == p) ≡ false → ⊥
    not_other p h = let yes : (p == p) ≡ true = grind (arith, nat_tests) in false≢true (sym h ∙ yes)

one_kept : (q : ℕ → Bool) (t : ℕ) (ps : List ℕ) → is_distinct ps ≡ true → All (λ x. q x ≡ true → x ≡ t) ps → length (filter q ps) ≤ 1
one_kept q t [] h each = omega arith
one_kept q t (p ∷ ps) h each =
    let d = both (not (list_any (λ y. p == y) ps)) (is_distinct ps) h in
    elim (cases_Bool (q p)) [
      | inl s ↦
          let is : p ≡ t = All-head (λ x. q x ≡ true → x ≡ t) p ps each s in
          let none : filter q ps ≡ [] = none_kept q p t ps (is_not (list_any (λ y. p == y) ps) d.0) is
          (All-tail (λ x. q x ≡ true → x ≡ t) p ps each) in
          let one : length (filter q (p ∷ ps)) ≡ 1 =
          ap (λ b. length (if b then p ∷ filter q ps else filter q ps)) s ∙ ap (λ l. length (p ∷ l)) none in
          omega (arith, one)
      | inr s ↦
          let same : length (filter q (p ∷ ps)) ≡ length (filter q ps) = ap (λ b. length (if b then p ∷ filter q ps else filter q ps)) s in
          let rest = one_kept q t ps d.1 (All-tail (λ x. q x ≡ true → x ≡ t) p ps each) in
          omega (arith, same, rest)
    ]
  where
    is_not : (b : Bool) → not b ≡ true → b ≡ false
    is_not true h = cc
    is_not false h = refl

-- bits of which no more than one is set
single_place : (x p : ℕ) → x < 2 ^ 64 → is_single x ≡ true → bit_at x p ≡ 1 → p ≡ trailing_zeros w64 x
single_place x p few h set = elim (cases_Bool (x == 0)) [
  | inl e ↦
      let y = ap (λ (x : ℕ). bit_at x p) (eqb-true x 0 e) in
      let z = bit_at-zero p in
      absurd (omega (arith, y, z, set))
  | inr e ↦ elim (cases_eq p (trailing_zeros w64 x)) [
    | inl same ↦ same
    | inr other ↦
        let t = trailing_zeros w64 x in
        let is : x ≡ 1 * 2 ^ t % 2 ^ 64 = eqb-true x (1 * 2 ^ t % 2 ^ 64) (sym (ap (λ b. b || (x == 1 * 2 ^ t % 2 ^ 64)) e) ∙ h) in
        let y = ap (λ (n : ℕ). bit_at n p) (is ∙ below t (lowest x few e)) in
        let z = bit_at-pow_other t p other in
        absurd (omega (arith, y, z, set))
  ]
]
  where
    lowest : (x : ℕ) → x < 2 ^ 64 → (x == 0) ≡ false → trailing_zeros w64 x < 64
    lowest zero few e = cc
    lowest (suc x) few e = (bit_at-trailing_zeros w64 (suc x) (omega arith) few).0

    below : (t : ℕ) → t < 64 → 1 * 2 ^ t % 2 ^ 64 ≡ 2 ^ t
    below t lt = one_shl t 64 lt

right_one : (a b : Bool) → b ≡ true → (a || b) ≡ true
right_one true b h = refl
right_one false b h = h

second : (a b : Bool) → (a || b) ≡ true → a ≡ false → b ≡ true
second true b h e = cc
second false b h e = h

not_zero : (n : ℕ) → not (n == 0) ≡ true → n ≡ 0 → ⊥
not_zero zero h e = false≢true h
not_zero (suc n) h e = absurd (omega (arith, e))

module _ (bits : ℕ) (few : bits < 2 ^ 64) where
  paired : (mask : ℕ) (ps : List ℕ) → AreBits mask ps → holds_by relation.Paired 0 mask bits ≡ true
      → holds (is_set bits) relation.Paired ps ≡ true
  paired mask ps are h = elim (cases_Bool (bit_and bits mask == 0)) [
    | inl e ↦ ap (λ b. not b || list_all (is_set bits) ps) (none_of bits mask ps are (eqb-true (bit_and bits mask) 0 e))
    | inr e ↦ right_one (not (list_any (is_set bits) ps)) (list_all (is_set bits) ps)
        (all_of bits mask ps are (eqb-true (bit_and bits mask) mask (second (bit_and bits mask == 0) (bit_and bits mask == mask) h e)))
  ]

  required : (mask : ℕ) (ps : List ℕ) → AreBits mask ps → holds_by relation.Required 0 mask bits ≡ true
      → holds (is_set bits) relation.Required ps ≡ true
  required mask ps are h = some_of bits mask ps are few (not_zero (bit_and bits mask) h)

  one_place : (mask : ℕ) (ps : List ℕ) → AreBits mask ps → is_single (bit_and bits mask) ≡ true → (p : ℕ) → Contains ps p
      → is_set bits p ≡ true → p ≡ trailing_zeros w64 (bit_and bits mask)
  one_place mask ps are h p there s =
      let m = at_position bits mask ps are p there in
      let b = set_is bits p s in
      let x = bit_at_and bits mask p in
      let l = and_le_l bits mask in
      single_place (bit_and bits mask) p (omega (arith, l, few)) h (omega (arith, x, m.1, b.1))

  exclusion : (mask : ℕ) (ps : List ℕ) → is_distinct ps ≡ true → AreBits mask ps → holds_by relation.Exclusion 0 mask bits ≡ true
      → holds (is_set bits) relation.Exclusion ps ≡ true
  exclusion mask ps distinct are h =
      let t = trailing_zeros w64 (bit_and bits mask) in
      le-leb (length (filter (is_set bits) ps)) 1
      (one_kept (is_set bits) t ps distinct (all_in (λ x. is_set bits x ≡ true → x ≡ t) ps (one_place mask ps are h)))

  conditional : (first rest : ℕ) (ps : List ℕ) → AreBits first (take 1 ps) → AreBits rest (drop 1 ps)
      → holds_by relation.Conditional first rest bits ≡ true → holds (is_set bits) relation.Conditional ps ≡ true
  conditional first rest ps head others h = elim (cases_Bool (bit_and bits first == 0)) [
    | inl e ↦
        ap (λ b. not b || list_all (is_set bits) (drop 1 ps)) (none_of bits first (take 1 ps) head (eqb-true (bit_and bits first) 0 e))
    | inr e ↦ right_one (not (list_any (is_set bits) (take 1 ps))) (list_all (is_set bits) (drop 1 ps))
        (all_of bits rest (drop 1 ps) others
        (eqb-true (bit_and bits rest) rest (second (bit_and bits first == 0) (bit_and bits rest == rest) h e)))
  ]

  list_conditional : (first rest : ℕ) (ps : List ℕ) → AreBits first (take 1 ps) → AreBits rest (drop 1 ps)
      → holds_by relation.ListConditional first rest bits ≡ true → holds (is_set bits) relation.ListConditional ps ≡ true
  list_conditional first rest ps head others h = elim (cases_Bool (bit_and bits first == 0)) [
    | inl e ↦
        ap (λ b. not b || list_any (is_set bits) (drop 1 ps)) (none_of bits first (take 1 ps) head (eqb-true (bit_and bits first) 0 e))
    | inr e ↦ right_one (not (list_any (is_set bits) (take 1 ps))) (list_any (is_set bits) (drop 1 ps))
        (some_of bits rest (drop 1 ps) others few
        (not_zero (bit_and bits rest) (second (bit_and bits first == 0) (not (bit_and bits rest == 0)) h e)))
  ]

  pub whole_mask : (r : Relation) (mask : ℕ) (ps : List ℕ) → is_distinct ps ≡ true → AreBits mask ps
      → (r ≡ relation.Paired) ⊎ ((r ≡ relation.Required) ⊎ (r ≡ relation.Exclusion))
      → holds_by r 0 mask bits ≡ true → holds (is_set bits) r ps ≡ true
  whole_mask r mask ps distinct are one = elim one [
    | inl e ↦ subst (λ (r : Relation). holds_by r 0 mask bits ≡ true → holds (is_set bits) r ps ≡ true) (sym e) (paired mask ps are)
    | inr e ↦ elim e [
      | inl e ↦ subst (λ (r : Relation). holds_by r 0 mask bits ≡ true → holds (is_set bits) r ps ≡ true) (sym e) (required mask ps are)
      | inr e ↦
          subst (λ (r : Relation). holds_by r 0 mask bits ≡ true → holds (is_set bits) r ps ≡ true) (sym e) (exclusion mask ps distinct are)
    ]
  ]

  pub head_mask : (r : Relation) (first rest : ℕ) (ps : List ℕ) → AreBits first (take 1 ps) → AreBits rest (drop 1 ps)
      → (r ≡ relation.Conditional) ⊎ (r ≡ relation.ListConditional)
      → holds_by r first rest bits ≡ true → holds (is_set bits) r ps ≡ true
  head_mask r first rest ps head others one = elim one [
    | inl e ↦ subst (λ (r : Relation). holds_by r first rest bits ≡ true → holds (is_set bits) r ps ≡ true) (sym e)
        (conditional first rest ps head others)
    | inr e ↦ subst (λ (r : Relation). holds_by r first rest bits ≡ true → holds (is_set bits) r ps ≡ true) (sym e)
        (list_conditional first rest ps head others)
  ]

-- the first item, and the others
pub take_first : (ps : List ℕ) → take (min (length ps) 1) ps ≡ take 1 ps
take_first [] = refl
take_first (p ∷ ps) = let one : min (suc (length ps)) 1 ≡ 1 = omega arith in ap (λ n. take n (p ∷ ps)) one

pub drop_first : (ps : List ℕ) → drop (min (length ps) 1) ps ≡ drop 1 ps
drop_first [] = refl
drop_first (p ∷ ps) = let one : min (suc (length ps)) 1 ≡ 1 = omega arith in ap (λ n. drop n (p ∷ ps)) one
