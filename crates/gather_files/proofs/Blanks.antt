-- No header can turn out to begin before sixteen spaces.
use Rattle.std.proofs.Common.{◌≡◌, ℕ, zero, suc, ◌+◌, ◌-◌, ◌<◌, ◌≤◌, List, ◌++◌, Bool, true, false, not, ◌&&◌, ◌||◌, nat_eq}
use Rattle.std.proofs.Common.{leb, ltb, length, take, drop, get_or, refl, sym, ap, ◌∙◌, arith, inl, inr}
use Rattle.std.specs.Prelude.{codes, slice_index}
use Rattle.std.specs.List.{list_all}
use Rattle.std.specs.Str.{bytes_eq}
use Rattle.std.specs.Cmp.Lexicographic.{bytes_decides}
use Rattle.std.proofs.lemmas.Bool.{and_parts, both_ways, cases_lt, eqb-true, false_from_ne_true, leb-true, ltb-true, or_cases}
use Rattle.std.proofs.lemmas.List.{get_or-drop, get_or-take, get_or-append-add, get_or_append_left, get_or-replicate, length-append}
use Rattle.std.proofs.lemmas.List.{length-drop, length-replicate}
use Rattle.x12_bytes.specs.Bytes.{may_separate}
use Rattle.x12_bytes.specs.Header.{element_separator_of, component_separator_of, field_of, separator_place}
use Rattle.whole_interchanges.specs.Begun.{is_field_begun, are_fields_begun, are_delims_begun, is_begun, may_begin}
use Rattle.gather_files.specs.ClosingBytes.{blanked, blanks}

field_at : (b : List ℕ) (n k : ℕ) → k < n → are_fields_begun b n ≡ true → is_field_begun b (k + 1) ≡ true
unfolding are_fields_begun
field_at b zero k lt all = absurd (omega (arith, lt))
field_at b (suc n) k lt all =
    let parts = and_parts (is_field_begun b (n + 1)) (are_fields_begun b n) all in
    elim (cases_lt k n) [
      | inl low ↦ field_at b n k low parts.1
      | inr high ↦
          let same : n + 1 ≡ k + 1 = omega (arith, lt, high) in
          ap (is_field_begun b) (sym same) ∙ parts.0
    ]

-- what is known of the bytes of a header that begins
record Begins (b : List ℕ) : Type 0 where
  short : length b < 106
  isa : take 3 b ≡ take (length b) (codes "ISA")
  delims : 3 < length b → may_separate (element_separator_of b) ≡ true
  fields : (k : ℕ) → k < 16 → separator_place (k + 1) < length b → 3 < length b
      → get_or b (separator_place (k + 1)) 0 ≡ element_separator_of b

begins : (b : List ℕ) → is_begun b ≡ true → Begins b
unfolding is_begun
begins b is =
    let few : Bool = leb (length b) 3 in
    let begun : Bool = are_delims_begun b && are_fields_begun b 16 in
    let isa : Bool = bytes_eq (take 3 b) (take (length b) (codes "ISA")) in
    let first = and_parts (ltb (length b) 106) (isa && (few || begun)) is in
    let second = and_parts isa (few || begun) first.1 in
    let both : 3 < length b → begun ≡ true = λ far. elim (or_cases few begun second.1) [
      | inl small ↦ absurd (omega (arith, leb-true (length b) 3 small, far))
      | inr holds ↦ holds
    ] in
    record {
      short = ltb-true (length b) 106 first.0;
      isa = (bytes_decides (take 3 b) (take (length b) (codes "ISA"))).0 second.0;
      delims = λ far. (and_parts (may_separate (element_separator_of b)) (leb (length b) 104 || may_separate (component_separator_of b))
          (and_parts (are_delims_begun b) (are_fields_begun b 16) (both far)).0).0;
      fields = λ k lt within far.
          (let place : ℕ = separator_place (k + 1) in
          let field : is_field_begun b (k + 1) ≡ true =
          field_at b 16 k lt (and_parts (are_delims_begun b) (are_fields_begun b 16) (both far)).1 in
          let separator = and_parts (leb (length b) place || nat_eq (slice_index b place) (element_separator_of b))
          (list_all (λ x. not (nat_eq x (element_separator_of b))) (field_of b (k + 1))) field in
          elim (or_cases (leb (length b) place) (nat_eq (slice_index b place) (element_separator_of b)) separator.0) [
            | inl past ↦ absurd (omega (arith, leb-true (length b) place past, within))
            | inr same ↦ eqb-true (slice_index b place) (element_separator_of b) same
          ]);
    }

-- it begins with the letter I
other_letter : (b : List ℕ) → 0 < length b → nat_eq (get_or b 0 0) 73 ≡ false → is_begun b ≡ false
other_letter b some other = false_from_ne_true (is_begun b) (λ is. (
    let w : Begins b = begins b is in
    let front : get_or (take (length b) (codes "ISA")) 0 0 ≡ 73 = get_or-take (length b) (codes "ISA") 0 0 some in
    let first : get_or b 0 0 ≡ 73 =
    sym (get_or-take 3 b 0 0 (omega arith)) ∙ ap (λ (xs : List ℕ). get_or xs 0 0) w.isa ∙ front in
    both_ways (nat_eq (get_or b 0 0) 73) other (ap (λ (n : ℕ). nat_eq n 73) first)))

-- of sixteen places one is a separator's
record HasPlace (n : ℕ) : Type 0 where
  k : ℕ
  field : k < 16
  low : n ≤ separator_place (k + 1)
  high : separator_place (k + 1) < n + 16

place_in : (n : ℕ) → n < 90 → HasPlace n
place_in n lt = elim (cases_lt n 4) [
  | inl a ↦ record { k = 0; field = omega arith; low = omega (arith, a); high = omega arith }
  | inr a ↦ elim (cases_lt n 18) [
    | inl b ↦ record { k = 2; field = omega arith; low = omega (arith, b); high = omega (arith, a) }
    | inr b ↦ elim (cases_lt n 32) [
      | inl c ↦ record { k = 4; field = omega arith; low = omega (arith, c); high = omega (arith, b) }
      | inr c ↦ elim (cases_lt n 35) [
        | inl d ↦ record { k = 5; field = omega arith; low = omega (arith, d); high = omega (arith, c) }
        | inr d ↦ elim (cases_lt n 51) [
          | inl e ↦ record { k = 6; field = omega arith; low = omega (arith, e); high = omega (arith, d) }
          | inr e ↦ elim (cases_lt n 54) [
            | inl f ↦ record { k = 7; field = omega arith; low = omega (arith, f); high = omega (arith, e) }
            | inr f ↦ elim (cases_lt n 70) [
              | inl g ↦ record { k = 8; field = omega arith; low = omega (arith, g); high = omega (arith, f) }
              | inr g ↦ elim (cases_lt n 84) [
                | inl h ↦ record { k = 11; field = omega arith; low = omega (arith, h); high = omega (arith, g) }
                | inr h ↦ record { k = 12; field = omega arith; low = omega (arith, lt); high = omega (arith, h) }
              ]
            ]
          ]
        ]
      ]
    ]
  ]
]

broken : (b : List ℕ) (n : ℕ) → n + 16 ≤ length b → ((k : ℕ) → k < 16 → get_or b (n + k) 0 ≡ 32) → is_begun b ≡ false
broken b n long blank = false_from_ne_true (is_begun b) (λ is. (
    let w : Begins b = begins b is in
    let far : 3 < length b = omega (arith, long) in
    let p : HasPlace n = place_in n (omega (arith, w.short, long)) in
    let place : ℕ = separator_place (p.k + 1) in
    let n_is : n + (place - n) ≡ place = omega (arith, p.low) in
    let at : get_or b place 0 ≡ 32 =
    ap (λ (j : ℕ). get_or b j 0) (sym n_is) ∙ blank (place - n) (omega (arith, p.low, p.high)) in
    let element : element_separator_of b ≡ 32 = sym (w.fields p.k p.field (omega (arith, p.high, long)) far) ∙ at in
    let none : may_separate 32 ≡ false = refl in
    both_ways (may_separate (element_separator_of b)) (ap may_separate element ∙ none) (w.delims far)))

pub blanks_break : (body tail : List ℕ) → ((k : ℕ) → k < length tail → nat_eq (get_or tail k 0) 73 ≡ false)
    → (q : ℕ) → q < length (blanked body tail) → may_begin (blanked body tail) q ≡ false
blanks_break body tail other q lt =
    let text : List ℕ = blanked body tail in
    let n : ℕ = length body in
    let sixteen : length blanks ≡ 16 = length-replicate {A = ℕ} 16 32 in
    let long : length text ≡ n + (16 + length tail) =
    length-append body (blanks ++ tail) ∙ ap (λ (k : ℕ). n + k) (length-append blanks tail ∙ ap (λ (k : ℕ). k + length tail) sixteen) in
    let room : length (drop q text) ≡ length text - q = length-drop q text in
    let blank : (k : ℕ) → k < 16 → get_or text (n + k) 0 ≡ 32 =
    λ k low. get_or-append-add body (blanks ++ tail) k 0 ∙ get_or_append_left blanks tail 0 k (omega (arith, low, sixteen))
    ∙ get_or-replicate 16 k 32 0 low in
    let first : (b : ℕ) → get_or text q 0 ≡ b → nat_eq b 73 ≡ false → may_begin text q ≡ false =
    λ b is out. (
    let z : q + 0 ≡ q = omega arith in
    let at : get_or (drop q text) 0 0 ≡ b = get_or-drop q text 0 0 ∙ ap (λ (k : ℕ). get_or text k 0) z ∙ is in
    other_letter (drop q text) (omega (arith, room, lt)) (ap (λ (x : ℕ). nat_eq x 73) at ∙ out)) in
    elim (cases_lt q n) [
      | inl inside ↦ broken (drop q text) (n - q) (omega (arith, room, long, inside))
          (λ k low. (let place : q + (n - q + k) ≡ n + k = omega (arith, inside) in
          get_or-drop q text (n - q + k) 0 ∙ ap (λ (j : ℕ). get_or text j 0) place ∙ blank k low))
      | inr past ↦ elim (cases_lt q (n + 16)) [
        | inl among ↦
            let place : n + (q - n) ≡ q = omega (arith, past) in
            first 32 (ap (λ (j : ℕ). get_or text j 0) (sym place) ∙ blank (q - n) (omega (arith, among, past))) refl
        | inr behind ↦
            let j : ℕ = q - n - 16 in
            let place : n + (16 + j) ≡ q = omega (arith, behind, past) in
            let inner : length blanks + j ≡ 16 + j = ap (λ (k : ℕ). k + j) sixteen in
            let at : get_or text q 0 ≡ get_or tail j 0 =
            ap (λ (k : ℕ). get_or text k 0) (sym place) ∙ get_or-append-add body (blanks ++ tail) (16 + j) 0
            ∙ ap (λ (k : ℕ). get_or (blanks ++ tail) k 0) (sym inner) ∙ get_or-append-add blanks tail j 0 in
            first (get_or tail j 0) at (other j (omega (arith, lt, long, behind, past)))
      ]
    ]
