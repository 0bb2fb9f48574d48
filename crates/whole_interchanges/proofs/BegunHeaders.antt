-- What is read of a header is what one may begin with.
use Rattle.std.proofs.Common.{◌≡◌, ℕ, zero, suc, ◌+◌, ◌-◌, ◌<◌, ◌≤◌, List, [], ◌∷◌, Bool, true, not, ◌&&◌, ◌||◌, nat_eq, leb, ltb}
use Rattle.std.proofs.Common.{length, take, drop, get_or, refl, sym, ap, ◌∙◌, arith, inl, inr}
use Rattle.std.specs.Prelude.{codes, slice_index}
use Rattle.std.specs.List.{list_all}
use Rattle.std.specs.Str.{bytes_eq}
use Rattle.std.specs.Cmp.Lexicographic.{bytes_decides}
use Rattle.std.proofs.lemmas.Bool.{and_parts, and_from, cases_lt, eq-eqb, eqb-true, le-leb, leb-true, lt-ltb, ltb-true, or_cases, or_left}
use Rattle.std.proofs.lemmas.Bool.{or_right}
use Rattle.std.proofs.lemmas.List.{drop-take, drop_all, get_or-take, length-take, length-take-le, take-take}
use Rattle.x12_bytes.specs.Bytes.{may_separate, may_terminate}
use Rattle.x12_bytes.specs.Header.{element_separator_of, component_separator_of, terminator_of, field_of, separator_place, width_of}
use Rattle.x12_bytes.specs.HeaderTest.{is_field_byte, is_field_at, has_fields, has_delims, is_header}
use Rattle.whole_interchanges.specs.Begun.{is_field_begun, are_fields_begun, are_delims_begun, is_begun}

take_comm : (m n : ℕ) (xs : List ℕ) → take m (take n xs) ≡ take n (take m xs)
take_comm zero zero xs = refl
take_comm zero (suc n) [] = refl
take_comm zero (suc n) (x ∷ xs) = refl
take_comm (suc m) zero xs = refl
take_comm (suc m) (suc n) [] = refl
take_comm (suc m) (suc n) (x ∷ xs) = ap (λ (l : List ℕ). x ∷ l) (take_comm m n xs)

-- what is read of a stretch
drop_read : (n s : ℕ) (h : List ℕ) → drop s (take n h) ≡ take (n - s) (drop s h)
drop_read n s h = elim (cases_lt n s) [
  | inl lt ↦
      let short : length (take n h) ≤ s = omega (arith, length-take n h) in
      let none : n - s ≡ 0 = omega (arith, lt) in
      drop_all s (take n h) short ∙ sym (ap (λ (k : ℕ). take k (drop s h)) none)
  | inr ge ↦
      let n_is : n ≡ s + (n - s) = omega (arith, ge) in
      ap (λ (k : ℕ). drop s (take k h)) n_is ∙ drop-take s (n - s) h
]

all_taken : (p : ℕ → Bool) (m : ℕ) (xs : List ℕ) → list_all p xs ≡ true → list_all p (take m xs) ≡ true
all_taken p zero xs all = refl
all_taken p (suc m) [] all = refl
all_taken p (suc m) (x ∷ xs) all =
    let parts = and_parts (p x) (list_all p xs) all in
    and_from (p x) (list_all p (take m xs)) parts.0 (all_taken p m xs parts.1)

all_weaker : (p q : ℕ → Bool) → ((x : ℕ) → p x ≡ true → q x ≡ true) → (xs : List ℕ) → list_all p xs ≡ true → list_all q xs ≡ true
all_weaker p q weaker [] all = refl
all_weaker p q weaker (x ∷ xs) all =
    let parts = and_parts (p x) (list_all p xs) all in
    and_from (q x) (list_all q xs) (weaker x parts.0) (all_weaker p q weaker xs parts.1)

module _ (h : List ℕ) (n : ℕ) (size : length h ≡ 106) (short : n < 106) where
  long : length (take n h) ≡ n
  long = length-take-le n h (omega arith)

  same_byte : (k : ℕ) → k < n → get_or (take n h) k 0 ≡ get_or h k 0
  same_byte k lt = get_or-take n h k 0 lt

  isa_begun : bytes_eq (take 3 h) (codes "ISA") ≡ true → bytes_eq (take 3 (take n h)) (take (length (take n h)) (codes "ISA")) ≡ true
  isa_begun isa =
      let text : take 3 h ≡ codes "ISA" = (bytes_decides (take 3 h) (codes "ISA")).0 isa in
      let same : take 3 (take n h) ≡ take (length (take n h)) (codes "ISA") =
      take_comm 3 n h ∙ ap (take n) text ∙ ap (λ (k : ℕ). take k (codes "ISA")) (sym long) in
      (bytes_decides (take 3 (take n h)) (take (length (take n h)) (codes "ISA"))).1 same

  element_same : 3 < n → element_separator_of (take n h) ≡ element_separator_of h
  element_same lt = same_byte 3 lt

  delims_begun : 3 < n → may_separate (element_separator_of h) ≡ true → may_separate (component_separator_of h) ≡ true
      → are_delims_begun (take n h) ≡ true
  delims_begun lt element component =
      and_from (may_separate (element_separator_of (take n h)))
      (leb (length (take n h)) 104 || may_separate (component_separator_of (take n h)))
      (ap may_separate (element_same lt) ∙ element)
      (elim (cases_lt 104 n) [
        | inl far ↦ or_right (leb (length (take n h)) 104) (may_separate (component_separator_of (take n h)))
            (ap may_separate (same_byte 104 far) ∙ component)
        | inr near ↦ or_left (leb (length (take n h)) 104) (may_separate (component_separator_of (take n h)))
            (le-leb (length (take n h)) 104 (omega (arith, long, near)))
      ])

  field_begun : 3 < n → (k : ℕ) → is_field_at h k ≡ true → is_field_begun (take n h) k ≡ true
  field_begun lt k is =
      let place : ℕ = separator_place k in
      let b : List ℕ = take n h in
      let parts = and_parts (nat_eq (slice_index h place) (element_separator_of h)) (list_all (is_field_byte h) (field_of h k)) is in
      let separator : slice_index h place ≡ element_separator_of h = eqb-true (slice_index h place) (element_separator_of h) parts.0 in
      let bytes : list_all (λ x. not (nat_eq x (element_separator_of b))) (field_of h k) ≡ true =
      all_weaker (is_field_byte h) (λ x. not (nat_eq x (element_separator_of b)))
      (λ x yes. ap (λ (e : ℕ). not (nat_eq x e)) (element_same lt)
      ∙ (and_parts (not (nat_eq x (element_separator_of h))) (not (nat_eq x (terminator_of h))) yes).0)
      (field_of h k) parts.1 in
      let w : ℕ = place + 1 + width_of k - (place + 1) in
      let field : field_of b k ≡ take (n - (place + 1)) (field_of h k) =
      ap (take w) (drop_read n (place + 1) h) ∙ take_comm w (n - (place + 1)) (drop (place + 1) h) in
      and_from (leb (length b) place || nat_eq (slice_index b place) (element_separator_of b))
      (list_all (λ x. not (nat_eq x (element_separator_of b))) (field_of b k))
      (elim (cases_lt place n) [
        | inl there ↦ or_right (leb (length b) place) (nat_eq (slice_index b place) (element_separator_of b))
            (eq-eqb (slice_index b place) (element_separator_of b) (same_byte place there ∙ separator ∙ sym (element_same lt)))
        | inr past ↦ or_left (leb (length b) place) (nat_eq (slice_index b place) (element_separator_of b))
            (le-leb (length b) place (omega (arith, long, past)))
      ])
      (ap (list_all (λ x. not (nat_eq x (element_separator_of b)))) field
      ∙ all_taken (λ x. not (nat_eq x (element_separator_of b))) (n - (place + 1)) (field_of h k) bytes)

  fields_begun : 3 < n → (k : ℕ) → has_fields h k ≡ true → are_fields_begun (take n h) k ≡ true
  unfolding has_fields are_fields_begun
  fields_begun lt zero has = refl
  fields_begun lt (suc k) has =
      let parts = and_parts (is_field_at h (k + 1)) (has_fields h k) has in
      and_from (is_field_begun (take n h) (k + 1)) (are_fields_begun (take n h) k) (field_begun lt (k + 1) parts.0)
      (fields_begun lt k parts.1)

pub header_begun : (h : List ℕ) (n : ℕ) → n < 106 → is_header h ≡ true → is_begun (take n h) ≡ true
unfolding is_header is_begun
header_begun h n short is =
    let rest : Bool = has_delims h && has_fields h 16 in
    let isa : Bool = bytes_eq (take 3 h) (codes "ISA") in
    let first = and_parts (nat_eq (length h) 106) (isa && rest) is in
    let second = and_parts isa rest first.1 in
    let third = and_parts (has_delims h) (has_fields h 16) second.1 in
    let size : length h ≡ 106 = eqb-true (length h) 106 first.0 in
    let e : ℕ = element_separator_of h in
    let c : ℕ = component_separator_of h in
    let t : ℕ = terminator_of h in
    let differ : Bool = not (nat_eq e c) && (not (nat_eq e t) && not (nat_eq c t)) in
    let ends : Bool = may_separate c && may_terminate t in
    let allowed = and_parts (may_separate e) ends (and_parts differ (may_separate e && ends) third.0).1 in
    let component = and_parts (may_separate c) (may_terminate t) allowed.1 in
    let b : List ℕ = take n h in
    let l : length b ≡ n = length-take-le n h (omega arith) in
    let few : Bool = leb (length b) 3 in
    let begun : Bool = are_delims_begun b && are_fields_begun b 16 in
    let isa_b : Bool = bytes_eq (take 3 b) (take (length b) (codes "ISA")) in
    and_from (ltb (length b) 106) (isa_b && (few || begun)) (lt-ltb (length b) 106 (omega arith))
    (and_from isa_b (few || begun) (isa_begun h n size short second.0)
    (elim (cases_lt 3 n) [
      | inl far ↦ or_right few begun (and_from (are_delims_begun b) (are_fields_begun b 16)
          (delims_begun h n size short far allowed.0 component.0) (fields_begun h n size short far 16 third.1))
      | inr near ↦ or_left few begun (le-leb (length b) 3 (omega (arith, near, l)))
    ]))

-- what a header may begin with, cut short, is what one may begin with
module _ (h : List ℕ) (n : ℕ) (le : n ≤ length h) (far : 3 < n) where
  cut_long : length (take n h) ≡ n
  cut_long = length-take-le n h le

  cut_byte : (k : ℕ) → k < n → get_or (take n h) k 0 ≡ get_or h k 0
  cut_byte k lt = get_or-take n h k 0 lt

  field_cut : (k : ℕ) → is_field_begun h k ≡ true → is_field_begun (take n h) k ≡ true
  field_cut k is =
      let place : ℕ = separator_place k in
      let b : List ℕ = take n h in
      let parts = and_parts (leb (length h) place || nat_eq (slice_index h place) (element_separator_of h))
      (list_all (λ x. not (nat_eq x (element_separator_of h))) (field_of h k)) is in
      let element : element_separator_of b ≡ element_separator_of h = cut_byte 3 far in
      let bytes : list_all (λ x. not (nat_eq x (element_separator_of b))) (field_of h k) ≡ true =
      all_weaker (λ x. not (nat_eq x (element_separator_of h))) (λ x. not (nat_eq x (element_separator_of b)))
      (λ x yes. ap (λ (e : ℕ). not (nat_eq x e)) element ∙ yes) (field_of h k) parts.1 in
      let w : ℕ = place + 1 + width_of k - (place + 1) in
      let field : field_of b k ≡ take (n - (place + 1)) (field_of h k) =
      ap (take w) (drop_read n (place + 1) h) ∙ take_comm w (n - (place + 1)) (drop (place + 1) h) in
      and_from (leb (length b) place || nat_eq (slice_index b place) (element_separator_of b))
      (list_all (λ x. not (nat_eq x (element_separator_of b))) (field_of b k))
      (elim (cases_lt place n) [
        | inl there ↦ or_right (leb (length b) place) (nat_eq (slice_index b place) (element_separator_of b))
            (ap (λ (x : ℕ). nat_eq x (element_separator_of b)) (cut_byte place there) ∙ ap (nat_eq (slice_index h place)) element
            ∙ (elim (or_cases (leb (length h) place) (nat_eq (slice_index h place) (element_separator_of h)) parts.0) [
              | inl short ↦ absurd (omega (arith, leb-true (length h) place short, there, le))
              | inr same ↦ same
            ]))
        | inr past ↦ or_left (leb (length b) place) (nat_eq (slice_index b place) (element_separator_of b))
            (le-leb (length b) place (omega (arith, cut_long, past)))
      ])
      (ap (list_all (λ x. not (nat_eq x (element_separator_of b)))) field
      ∙ all_taken (λ x. not (nat_eq x (element_separator_of b))) (n - (place + 1)) (field_of h k) bytes)

  fields_cut : (k : ℕ) → are_fields_begun h k ≡ true → are_fields_begun (take n h) k ≡ true
  unfolding are_fields_begun
  fields_cut zero has = refl
  fields_cut (suc k) has =
      let parts = and_parts (is_field_begun h (k + 1)) (are_fields_begun h k) has in
      and_from (is_field_begun (take n h) (k + 1)) (are_fields_begun (take n h) k) (field_cut (k + 1) parts.0) (fields_cut k parts.1)

  delims_cut : are_delims_begun h ≡ true → are_delims_begun (take n h) ≡ true
  delims_cut is =
      let parts = and_parts (may_separate (element_separator_of h)) (leb (length h) 104 || may_separate (component_separator_of h)) is in
      let b : List ℕ = take n h in
      and_from (may_separate (element_separator_of b)) (leb (length b) 104 || may_separate (component_separator_of b))
      (ap may_separate (cut_byte 3 far) ∙ parts.0)
      (elim (cases_lt 104 n) [
        | inl there ↦ or_right (leb (length b) 104) (may_separate (component_separator_of b))
            (ap may_separate (cut_byte 104 there)
            ∙ (elim (or_cases (leb (length h) 104) (may_separate (component_separator_of h)) parts.1) [
              | inl short ↦ absurd (omega (arith, leb-true (length h) 104 short, there, le))
              | inr allowed ↦ allowed
            ]))
        | inr near ↦ or_left (leb (length b) 104) (may_separate (component_separator_of b)) (le-leb (length b) 104 (omega
            (arith, cut_long, near)))
      ])

pub begun_cut : (h : List ℕ) (n : ℕ) → n ≤ length h → is_begun h ≡ true → is_begun (take n h) ≡ true
unfolding is_begun
begun_cut h n le is =
    let b : List ℕ = take n h in
    let long : length b ≡ n = length-take-le n h le in
    let few_h : Bool = leb (length h) 3 in
    let begun_h : Bool = are_delims_begun h && are_fields_begun h 16 in
    let isa_h : Bool = bytes_eq (take 3 h) (take (length h) (codes "ISA")) in
    let first = and_parts (ltb (length h) 106) (isa_h && (few_h || begun_h)) is in
    let second = and_parts isa_h (few_h || begun_h) first.1 in
    let few : Bool = leb (length b) 3 in
    let begun : Bool = are_delims_begun b && are_fields_begun b 16 in
    let isa_b : Bool = bytes_eq (take 3 b) (take (length b) (codes "ISA")) in
    let text : take 3 h ≡ take (length h) (codes "ISA") = (bytes_decides (take 3 h) (take (length h) (codes "ISA"))).0 second.0 in
    let same : take 3 b ≡ take (length b) (codes "ISA") =
    take_comm 3 n h ∙ ap (take n) text ∙ take-take n (length h) (codes "ISA") le ∙ ap (λ (k : ℕ). take k (codes "ISA")) (sym long) in
    let short : length h < 106 = ltb-true (length h) 106 first.0 in
    and_from (ltb (length b) 106) (isa_b && (few || begun)) (lt-ltb (length b) 106 (omega arith))
    (and_from isa_b (few || begun) ((bytes_decides (take 3 b) (take (length b) (codes "ISA"))).1 same)
    (elim (cases_lt 3 n) [
      | inl far ↦ or_right few begun (elim (or_cases few_h begun_h second.1) [
        | inl small ↦ absurd (omega (arith, leb-true (length h) 3 small, far, le))
        | inr all ↦
            let parts = and_parts (are_delims_begun h) (are_fields_begun h 16) all in
            and_from (are_delims_begun b) (are_fields_begun b 16) (delims_cut h n le far parts.0) (fields_cut h n le far 16 parts.1)
      ])
      | inr near ↦ or_left few begun (le-leb (length b) 3 (omega (arith, near, long)))
    ]))
