-- Facts of places computed by tests: which begins so, which is given, and where a node that is missing is reported.
use Rattle.std.proofs.Common.{◌≡◌, ℕ, zero, suc, ◌+◌, ◌⊎◌, inl, inr, List, [], ◌∷◌, Bool, true, false, Option, Some, None, refl, ap, sym}
use Rattle.std.proofs.Common.{◌∙◌, subst, arith}
use Rattle.std.specs.Prelude.{◌==◌, ◌&&◌, ◌||◌, nat_lt, if◌then◌else◌, IfSome}
use Rattle.std.specs.Cmp.Derive.{both_true}
use Rattle.std.proofs.lemmas.Bool.{and_parts, or_left, or_right, eq-eqb, or_cases, cases_Bool, eqb-true, ltb-true, lt-ltb, false≢true}
use Rattle.guide_tree.specs.Words.{Pair, Place, Begins, Has, IsFirstAt, IsNowhere, IsBefore, IsBehind, IsReportedAt}
use Rattle.guide_tree.proofs.ForAbove.{pair_is}

abbrev pub same : Pair → Pair → Bool
same a b = (a.child == b.child) && (a.use_no == b.use_no)

same_is : (a b : Pair) → same a b ≡ true → a ≡ b
same_is a b h =
    let e = and_parts (a.child == b.child) (a.use_no == b.use_no) h in
    pair_is a b (eqb-true a.child b.child e.0) (eqb-true a.use_no b.use_no e.1)

is_same : (a b : Pair) → a ≡ b → same a b ≡ true
is_same a b e = subst (λ (b : Pair). same a b ≡ true) e (both_true (eq-eqb a.child a.child refl) (eq-eqb a.use_no a.use_no refl))

abbrev pub begins : Place → Place → Bool
begins [] q = true
begins (a ∷ pre) [] = false
begins (a ∷ pre) (b ∷ q) = same a b && begins pre q

pub begins_is : (pre q : Place) → begins pre q ≡ true → Begins pre q
begins_is [] q h = tt
begins_is (a ∷ pre) [] h = absurd (false≢true h)
begins_is (a ∷ pre) (b ∷ q) h = let e = and_parts (same a b) (begins pre q) h in (same_is a b e.0, begins_is pre q e.1)

pub is_begun : (pre q : Place) → Begins pre q → begins pre q ≡ true
is_begun [] q h = refl
is_begun (a ∷ pre) [] h = absurd h
is_begun (a ∷ pre) (b ∷ q) h = both_true (is_same a b h.0) (is_begun pre q h.1)

abbrev pub has : List (Option Place) → Place → Bool
has [] pre = false
has (None ∷ given) pre = has given pre
has (Some q ∷ given) pre = begins pre q || has given pre

pub has_is : (given : List (Option Place)) (pre : Place) → has given pre ≡ true → Has given pre
has_is [] pre h = absurd (false≢true h)
has_is (None ∷ given) pre h = has_is given pre h
has_is (Some q ∷ given) pre h = elim (or_cases (begins pre q) (has given pre) h) [
  | inl e ↦ inl (begins_is pre q e)
  | inr e ↦ inr (has_is given pre e)
]

is_had : (given : List (Option Place)) (pre : Place) → Has given pre → has given pre ≡ true
is_had [] pre h = absurd h
is_had (None ∷ given) pre h = is_had given pre h
is_had (Some q ∷ given) pre h = elim h [
  | inl e ↦ or_left (begins pre q) (has given pre) (is_begun pre q e)
  | inr e ↦ or_right (begins pre q) (has given pre) (is_had given pre e)
]

pub has_not : (given : List (Option Place)) (pre : Place) → has given pre ≡ false → Has given pre → ⊥
has_not given pre none h = false≢true (sym none ∙ is_had given pre h)

abbrev pub is_before : Pair → Pair → Bool
is_before a b = nat_lt a.child b.child || ((a.child == b.child) && nat_lt a.use_no b.use_no)

before_is : (a b : Pair) → is_before a b ≡ true → IsBefore a b
before_is a b h = elim (or_cases (nat_lt a.child b.child) ((a.child == b.child) && nat_lt a.use_no b.use_no) h) [
  | inl e ↦ inl (ltb-true a.child b.child e)
  | inr e ↦ let p = and_parts (a.child == b.child) (nat_lt a.use_no b.use_no) e in
      inr (eqb-true a.child b.child p.0, ltb-true a.use_no b.use_no p.1)
]

is_less : (a b : Pair) → IsBefore a b → is_before a b ≡ true
is_less a b h = elim h [
  | inl e ↦ or_left (nat_lt a.child b.child) ((a.child == b.child) && nat_lt a.use_no b.use_no) (lt-ltb a.child b.child e)
  | inr e ↦ or_right (nat_lt a.child b.child) ((a.child == b.child) && nat_lt a.use_no b.use_no)
      (both_true (subst (λ (n : ℕ). (a.child == n) ≡ true) e.0 (eq-eqb a.child a.child refl)) (lt-ltb a.use_no b.use_no e.1))
]

abbrev pub behind : (parent : Place) → (k : ℕ) → Place → Bool
behind [] k [] = false
behind [] k (b ∷ q) = nat_lt k b.child
behind (a ∷ parent) k [] = false
behind (a ∷ parent) k (b ∷ q) = is_before a b || (same a b && behind parent k q)

behind_is : (parent : Place) (k : ℕ) (q : Place) → behind parent k q ≡ true → IsBehind parent k q
behind_is [] k [] h = absurd (false≢true h)
behind_is [] k (b ∷ q) h = ltb-true k b.child h
behind_is (a ∷ parent) k [] h = absurd (false≢true h)
behind_is (a ∷ parent) k (b ∷ q) h = elim (or_cases (is_before a b) (same a b && behind parent k q) h) [
  | inl e ↦ inl (before_is a b e)
  | inr e ↦ let p = and_parts (same a b) (behind parent k q) e in inr (same_is a b p.0, behind_is parent k q p.1)
]

is_behind : (parent : Place) (k : ℕ) (q : Place) → IsBehind parent k q → behind parent k q ≡ true
is_behind [] k [] h = absurd h
is_behind [] k (b ∷ q) h = lt-ltb k b.child h
is_behind (a ∷ parent) k [] h = absurd h
is_behind (a ∷ parent) k (b ∷ q) h = elim h [
  | inl e ↦ or_left (is_before a b) (same a b && behind parent k q) (is_less a b e)
  | inr e ↦ or_right (is_before a b) (same a b && behind parent k q) (both_true (is_same a b e.0) (is_behind parent k q e.1))
]

-- the index is the first at which a place passes a test
abbrev pub first_at : (Place → Bool) → List (Option Place) → ℕ → Bool
first_at test [] i = false
first_at test (None ∷ given) zero = false
first_at test (Some q ∷ given) zero = test q
first_at test (None ∷ given) (suc i) = first_at test given i
first_at test (Some q ∷ given) (suc i) = if test q then false else first_at test given i

pub first_begun : (pre : Place) (given : List (Option Place)) (i : ℕ) → first_at (begins pre) given i ≡ true
    → IsFirstAt (Begins pre) given i
first_begun pre [] i h = absurd (false≢true h)
first_begun pre (None ∷ given) zero h = absurd (false≢true h)
first_begun pre (Some q ∷ given) zero h = begins_is pre q h
first_begun pre (None ∷ given) (suc i) h = (tt, first_begun pre given i h)
first_begun pre (Some q ∷ given) (suc i) h = elim (cases_Bool (begins pre q)) [
  | inl e ↦ absurd (false≢true (ap (λ (b : Bool). if b then false else first_at (begins pre) given i) (sym e) ∙ h))
  | inr e ↦ (
    λ b. false≢true (sym e ∙ is_begun pre q b),
    first_begun pre given i (ap (λ (b : Bool). if b then false else first_at (begins pre) given i) (sym e) ∙ h),
  )
]

-- where a child of a parent that is missing or short is reported: at the first place after it, or at the end
abbrev pub reported_at : List (Option Place) → (next end : ℕ) → (parent : Place) → (k : ℕ) → ℕ
reported_at [] next end parent k = end
reported_at (None ∷ given) next end parent k = reported_at given (suc next) end parent k
reported_at (Some q ∷ given) next end parent k = if behind parent k q then next else reported_at given (suc next) end parent k

-- the relation, with the position of the first
abbrev Reported : List (Option Place) → (next end : ℕ) → (parent : Place) → (k position : ℕ) → Type 0
Reported given next end parent k position =
    ((i : ℕ) × (IsFirstAt (IsBehind parent k) given i) × (position ≡ i + next)) ⊎ (IsNowhere (IsBehind parent k) given × (position ≡ end))

further : (x : Option Place) (given : List (Option Place)) (next end : ℕ) (parent : Place) (k position : ℕ)
    → IfSome x (λ q. IsBehind parent k q → ⊥) → Reported given (suc next) end parent k position
    → Reported (x ∷ given) next end parent k position
further x given next end parent k position none h = elim h [
  | inl e ↦ inl (suc e.0, (none, e.1), let i = e.2 in omega (arith, i))
  | inr e ↦ inr ((none, e.0), e.1)
]

there : (given : List (Option Place)) (next end : ℕ) (parent : Place) (k : ℕ)
    → Reported given next end parent k (reported_at given next end parent k)
there [] next end parent k = inr (tt, refl)
there (None ∷ given) next end parent k = further None given next end parent k _ tt (there given (suc next) end parent k)
there (Some q ∷ given) next end parent k =
    let rest = there given (suc next) end parent k in
    elim (cases_Bool (behind parent k q)) [
      | inl e ↦ subst (λ (b : Bool). Reported (Some q ∷ given) next end parent k
          (if b then next else reported_at given (suc next) end parent k)) (sym e)
          (let same : next ≡ 0 + next = omega arith in inl (0, behind_is parent k q e, same))
      | inr e ↦ subst (λ (b : Bool). Reported (Some q ∷ given) next end parent k
          (if b then next else reported_at given (suc next) end parent k)) (sym e)
          (further (Some q) given next end parent k _ (λ h. false≢true (sym e ∙ is_behind parent k q h)) rest)
    ]

pub reported_there : (given : List (Option Place)) (end : ℕ) (parent : Place) (k : ℕ)
    → IsReportedAt given end parent k (reported_at given 2 end parent k)
reported_there given end parent k = there given 2 end parent k

not_behind : (q : Place) (parent : Place) (k : ℕ) → (IsBehind parent k q → ⊥) → behind parent k q ≡ false
not_behind q parent k none = elim (cases_Bool (behind parent k q)) [
  | inl e ↦ absurd (none (behind_is parent k q e))
  | inr e ↦ e
]

-- and nowhere else
only : (given : List (Option Place)) (next end : ℕ) (parent : Place) (k position : ℕ) → Reported given next end parent k position
    → position ≡ reported_at given next end parent k
only [] next end parent k position (inl h) = absurd h.1
only [] next end parent k position (inr h) = h.1
only (None ∷ given) next end parent k position (inl (zero, f, e)) = absurd f
only (None ∷ given) next end parent k position (inl (suc i, f, e)) =
    only given (suc next) end parent k position (inl (i, f.1, omega (arith, e)))
only (None ∷ given) next end parent k position (inr h) = only given (suc next) end parent k position (inr (h.0.1, h.1))
only (Some q ∷ given) next end parent k position (inl (zero, f, e)) =
    let at : position ≡ next = omega (arith, e) in
    at ∙ ap (λ (b : Bool). if b then next else reported_at given (suc next) end parent k) (sym (is_behind parent k q f))
only (Some q ∷ given) next end parent k position (inl (suc i, f, e)) =
    only given (suc next) end parent k position (inl (i, f.1, omega (arith, e)))
    ∙ ap (λ (b : Bool). if b then next else reported_at given (suc next) end parent k) (sym (not_behind q parent k f.0))
only (Some q ∷ given) next end parent k position (inr h) =
    only given (suc next) end parent k position (inr (h.0.1, h.1))
    ∙ ap (λ (b : Bool). if b then next else reported_at given (suc next) end parent k) (sym (not_behind q parent k h.0.0))

pub reported_once : (given : List (Option Place)) (end : ℕ) (parent : Place) (k position : ℕ) → IsReportedAt given end parent k position
    → position ≡ reported_at given 2 end parent k
reported_once given end parent k position h = only given 2 end parent k position h
