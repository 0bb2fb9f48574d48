-- What is begun, with the rest of a made header after it, is a header.
use Rattle.std.proofs.Common.{◌≡◌, ℕ, zero, suc, ◌+◌, ◌-◌, ◌<◌, ◌≤◌, List, ◌∷◌, Bool, true, false, not, ◌&&◌, ◌||◌}
use Rattle.std.proofs.Common.{nat_eq, leb, cond, length, take, drop, get_or, refl, sym, ap, subst, ◌∙◌, arith, inl, inr}
use Rattle.std.specs.Prelude.{codes, slice_index}
use Rattle.std.specs.List.{list_all}
use Rattle.std.specs.Str.{bytes_eq}
use Rattle.std.specs.Cmp.Lexicographic.{bytes_decides}
use Rattle.std.proofs.lemmas.Bool.{and_from, and_parts, both_ways, cases_Bool, cases_lt, eq-eqb, eqb-true, false≢true}
use Rattle.std.proofs.lemmas.Bool.{leb-true, lt-leb, ne_eqb, not-true, or_cases, true_from_ne_false}
use Rattle.std.proofs.lemmas.List.{drop_more}
use Rattle.std.proofs.lemmas.List.Folds.{list_all_at}
use Rattle.x12_bytes.specs.Bytes.{may_separate, may_terminate}
use Rattle.x12_bytes.specs.Header.{element_separator_of, component_separator_of, terminator_of, field_of, separator_place, width_of}
use Rattle.x12_bytes.specs.HeaderTest.{is_field_byte, is_field_at, has_fields, has_delims, is_header}
use Rattle.whole_interchanges.specs.Begun.{is_field_begun, are_fields_begun, are_delims_begun}
use Rattle.whole_interchanges.proofs.Absent.{is_absent}
use Rattle.whole_interchanges.proofs.Mixed.{mixed, mixed_first, mixed_second, mixed_length, mixed_take, stretch_all, both_all}
use Rattle.whole_interchanges.proofs.Sample.{is_plain_field, are_plain_fields, all_plain, made, made_component, made_terminator}
use Rattle.whole_interchanges.proofs.Sample.{made_length, made_separator, made_field}

-- no letter, digit or space is that high
pub high_terminates : (t : ℕ) → 128 ≤ t → may_terminate t ≡ true
high_terminates t low =
    ap (λ (x : Bool). tested x (leb t 90) (leb t 122) (nat_eq t 32)) (lt-leb t 57 (omega (arith, low)))
    ∙ ap (λ (y : Bool). tested false y (leb t 122) (nat_eq t 32)) (lt-leb t 90 (omega (arith, low)))
    ∙ ap (λ (z : Bool). tested false false z (nat_eq t 32)) (lt-leb t 122 (omega (arith, low)))
    ∙ ap (tested false false false) (ne_eqb t 32 (λ is. omega (arith, is, low)))
    ∙ by_tests (leb 48 t) (leb 65 t) (leb 97 t)
  where
    tested : (x y z s : Bool) → Bool
    tested x y z s = not (((leb 48 t && x) || (leb 65 t && y) || (leb 97 t && z)) || s)

    by_tests : (a b c : Bool) → not (((a && false) || (b && false) || (c && false)) || false) ≡ true
    by_tests true true true = refl
    by_tests true true false = refl
    by_tests true false true = refl
    by_tests true false false = refl
    by_tests false true true = refl
    by_tests false true false = refl
    by_tests false false true = refl
    by_tests false false false = refl

pub absent_at : (t : ℕ) (xs : List ℕ) (k : ℕ) → k < length xs → is_absent t xs ≡ true → nat_eq (get_or xs k 0) t ≡ false
absent_at t xs k lt all = not-true (nat_eq (get_or xs k 0) t) (true_from_ne_false (not (nat_eq (get_or xs k 0) t))
    (λ fails. both_ways (is_absent t xs) (list_all_at (λ b. not (nat_eq b t)) xs k 0 lt fails) all))

-- a component separator that may stand beside these
record IsBeside (e t c : ℕ) : Type 0 where
  element : nat_eq c e ≡ false
  terminator : nat_eq c t ≡ false
  allowed : may_separate c ≡ true

-- one that is none of the element separator
abbrev pub other_of : ℕ → ℕ
other_of e = cond (nat_eq e 62) 58 62

pub other_small : (e : ℕ) → other_of e < 256
other_small e = elim (cases_Bool (nat_eq e 62)) [
  | inl holds ↦ (let is : other_of e ≡ 58 = ap (λ (b : Bool). cond b 58 62) holds in omega arith)
  | inr fails ↦ (let is : other_of e ≡ 62 = ap (λ (b : Bool). cond b 58 62) fails in omega arith)
]

differ_sym : (a b : ℕ) → nat_eq a b ≡ false → nat_eq b a ≡ false
differ_sym a b fails = ne_eqb b a (λ is. both_ways (nat_eq a b) fails (eq-eqb a b (sym is)))

other_beside : (e t : ℕ) → 128 ≤ t → IsBeside e t (other_of e)
other_beside e t low = elim (cases_Bool (nat_eq e 62)) [
  | inl holds ↦
      let e_is : e ≡ 62 = eqb-true e 62 holds in
      subst (IsBeside e t) (sym (ap (λ (b : Bool). cond b 58 62) holds)) (record {
        element = ne_eqb 58 e (λ is. omega (arith, is, e_is));
        terminator = ne_eqb 58 t (λ is. omega (arith, is, low));
        allowed = refl;
      })
  | inr fails ↦
      subst (IsBeside e t) (sym (ap (λ (b : Bool). cond b 58 62) fails)) (record {
        element = differ_sym e 62 fails;
        terminator = ne_eqb 62 t (λ is. omega (arith, is, low));
        allowed = refl;
      })
]

abbrev delims_test : (e c t : ℕ) → Bool
delims_test e c t =
    (not (nat_eq e c) && (not (nat_eq e t) && not (nat_eq c t))) && (may_separate e && (may_separate c && may_terminate t))

delims_from : (e c t : ℕ) → IsBeside e t c → nat_eq e t ≡ false → may_separate e ≡ true → may_terminate t ≡ true
    → delims_test e c t ≡ true
delims_from e c t beside differ element terminator =
    and_from (not (nat_eq e c) && (not (nat_eq e t) && not (nat_eq c t))) (may_separate e && (may_separate c && may_terminate t))
    (and_from (not (nat_eq e c)) (not (nat_eq e t) && not (nat_eq c t)) (ap not (differ_sym c e beside.element))
    (and_from (not (nat_eq e t)) (not (nat_eq c t)) (ap not differ) (ap not beside.terminator)))
    (and_from (may_separate e) (may_separate c && may_terminate t) element
    (and_from (may_separate c) (may_terminate t) beside.allowed terminator))

-- what a header may begin with, past its element separator, and a terminator that it hasn't
pub record IsOpen (b : List ℕ) (t : ℕ) : Type 0 where
  pub far : 3 < length b
  pub short : length b < 106
  pub front : take 3 b ≡ take (length b) (codes "ISA")
  pub delims : are_delims_begun b ≡ true
  pub fields : are_fields_begun b 16 ≡ true
  pub low : 128 ≤ t
  pub absent : is_absent t b ≡ true

module _ (b : List ℕ) (t : ℕ) (is_open : IsOpen b t) where
  abbrev e : ℕ
  e = element_separator_of b

  abbrev c : ℕ
  c = other_of e

  abbrev pub rest : List ℕ
  rest = made e c t

  abbrev h : List ℕ
  h = mixed b rest

  short : length b < 106
  short = is_open.short

  element : element_separator_of h ≡ e
  element = mixed_first b rest 3 is_open.far

  terminator : terminator_of h ≡ t
  terminator = mixed_second b rest 105 (omega (arith, short)) ∙ made_terminator e c t

  element_ends : nat_eq e t ≡ false
  element_ends = absent_at t b 3 is_open.far is_open.absent

  element_allowed : may_separate e ≡ true
  element_allowed = (and_parts (may_separate e) (leb (length b) 104 || may_separate (component_separator_of b)) is_open.delims).0

  -- a component separator that is there
  there_differs : 104 < length b → nat_eq (component_separator_of b) e ≡ false
  unfolding are_fields_begun
  there_differs lt =
      let last = and_parts (is_field_begun b 16) (are_fields_begun b 15) is_open.fields in
      let bytes = and_parts (leb (length b) 103 || nat_eq (slice_index b 103) e)
      (list_all (λ x. not (nat_eq x e)) (take 1 (drop 104 b))) last.0 in
      let shown : list_all (λ x. not (nat_eq x e)) (take 1 (get_or b 104 0 ∷ drop 105 b)) ≡ true =
      sym (ap (λ (l : List ℕ). list_all (λ x. not (nat_eq x e)) (take 1 l)) (drop_more b 104 0 lt)) ∙ bytes.1 in
      not-true (nat_eq (component_separator_of b) e) (and_parts (not (nat_eq (component_separator_of b) e)) true shown).0

  there_allowed : 104 < length b → may_separate (component_separator_of b) ≡ true
  there_allowed lt =
      let allowed = and_parts (may_separate e) (leb (length b) 104 || may_separate (component_separator_of b)) is_open.delims in
      elim (or_cases (leb (length b) 104) (may_separate (component_separator_of b)) allowed.1) [
        | inl few ↦ absurd (omega (arith, leb-true (length b) 104 few, lt))
        | inr holds ↦ holds
      ]

  beside : IsBeside e t (component_separator_of h)
  beside = elim (cases_lt 104 (length b)) [
    | inl lt ↦ subst (IsBeside e t) (sym (mixed_first b rest 104 lt)) (record {
      element = there_differs lt;
      terminator = absent_at t b 104 lt is_open.absent;
      allowed = there_allowed lt;
    })
    | inr ge ↦ subst (IsBeside e t) (sym (mixed_second b rest 104 ge ∙ made_component e c t)) (other_beside e t is_open.low)
  ]

  delims_done : has_delims h ≡ true
  delims_done =
      ap (λ (x : ℕ). delims_test x (component_separator_of h) (terminator_of h)) element
      ∙ ap (λ (x : ℕ). delims_test e (component_separator_of h) x) terminator
      ∙ delims_from e (component_separator_of h) t beside element_ends element_allowed (high_terminates t is_open.low)

  abbrev may_stand : ℕ → Bool
  may_stand x = not (nat_eq x e) && not (nat_eq x t)

  zero_stands : may_stand 48 ≡ true
  zero_stands =
      let low : 128 ≤ t = is_open.low in
      and_from (not (nat_eq 48 e)) (not (nat_eq 48 t))
      (ap not (ne_eqb 48 e (λ is. false≢true (ap may_separate is ∙ element_allowed))))
      (ap not (ne_eqb 48 t (λ is. omega (arith, is, low))))

  other_stands : may_stand c ≡ true
  other_stands =
      let facts : IsBeside e t c = other_beside e t is_open.low in
      and_from (not (nat_eq c e)) (not (nat_eq c t)) (ap not facts.element) (ap not facts.terminator)

  separator_done : (k : ℕ) → is_field_begun b k ≡ true → is_plain_field k ≡ true
      → nat_eq (slice_index h (separator_place k)) (element_separator_of h) ≡ true
  separator_done k begun plain =
      let place : ℕ = separator_place k in
      let parts = and_parts (leb (length b) place || nat_eq (slice_index b place) e)
      (list_all (λ x. not (nat_eq x e)) (field_of b k)) begun in
      let is : slice_index h place ≡ e = elim (cases_lt place (length b)) [
        | inl lt ↦ mixed_first b rest place lt ∙ (elim (or_cases (leb (length b) place) (nat_eq (slice_index b place) e) parts.0) [
          | inl few ↦ absurd (omega (arith, leb-true (length b) place few, lt))
          | inr holds ↦ eqb-true (slice_index b place) e holds
        ])
        | inr ge ↦ mixed_second b rest place ge ∙ made_separator e c t k plain
      ] in
      eq-eqb (slice_index h place) (element_separator_of h) (is ∙ sym element)

  bytes_done : (k : ℕ) → is_field_begun b k ≡ true → is_plain_field k ≡ true → list_all (is_field_byte h) (field_of h k) ≡ true
  bytes_done k begun plain =
      let s : ℕ = separator_place k + 1 in
      let w : ℕ = s + width_of k - s in
      let parts = and_parts (leb (length b) (separator_place k) || nat_eq (slice_index b (separator_place k)) e)
      (list_all (λ x. not (nat_eq x e)) (field_of b k)) begun in
      ap (λ (x : ℕ). list_all (λ y. not (nat_eq y x) && not (nat_eq y (terminator_of h))) (field_of h k)) element
      ∙ ap (λ (x : ℕ). list_all (λ y. not (nat_eq y e) && not (nat_eq y x)) (field_of h k)) terminator
      ∙ stretch_all may_stand s w b rest
      (both_all (λ x. not (nat_eq x e)) (λ x. not (nat_eq x t)) s w b parts.1 is_open.absent)
      (made_field e c t may_stand zero_stands other_stands k plain)

  fields_done : (k : ℕ) → are_fields_begun b k ≡ true → are_plain_fields k ≡ true → has_fields h k ≡ true
  unfolding has_fields are_fields_begun are_plain_fields
  fields_done zero begun plain = refl
  fields_done (suc k) begun plain =
      let begins = and_parts (is_field_begun b (k + 1)) (are_fields_begun b k) begun in
      let plains = and_parts (is_plain_field (k + 1)) (are_plain_fields k) plain in
      and_from (is_field_at h (k + 1)) (has_fields h k)
      (and_from (nat_eq (slice_index h (separator_place (k + 1))) (element_separator_of h)) (list_all (is_field_byte h) (field_of h
      (k + 1)))
      (separator_done (k + 1) begins.0 plains.0) (bytes_done (k + 1) begins.0 plains.0))
      (fields_done k begins.1 plains.1)

  isa_done : bytes_eq (take 3 h) (codes "ISA") ≡ true
  isa_done = (bytes_decides (take 3 h) (codes "ISA")).1 (mixed_take 3 b rest is_open.front)

  pub header_size : length h ≡ 106
  header_size = mixed_length b rest (omega (arith, short, made_length e c t)) ∙ made_length e c t

  pub header_done : is_header h ≡ true
  unfolding is_header
  header_done =
      let last : Bool = has_delims h && has_fields h 16 in
      and_from (nat_eq (length h) 106) (bytes_eq (take 3 h) (codes "ISA") && last) (eq-eqb (length h) 106 header_size)
      (and_from (bytes_eq (take 3 h) (codes "ISA")) last isa_done
      (and_from (has_delims h) (has_fields h 16) delims_done (fields_done 16 is_open.fields all_plain)))
