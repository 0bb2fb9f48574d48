-- The next header in what is read of a text.
use Rattle.std.proofs.Common.{◌≡◌, ℕ, ◌+◌, ◌-◌, ◌<◌, ◌≤◌, List, [], Bool, true, false, ◌&&◌, ◌||◌, leb, ltb, length, take}
use Rattle.std.proofs.Common.{drop, get_or, refl, sym, ap, subst, ◌∙◌, arith, inl, inr}
use Rattle.std.specs.Prelude.{codes, slice_range}
use Rattle.std.specs.Str.{bytes_eq}
use Rattle.std.specs.Cmp.Lexicographic.{bytes_decides}
use Rattle.std.proofs.lemmas.Bool.{and_parts, cases_eq, cases_lt, eq-eqb, false_from_ne_true, ltb-true}
use Rattle.std.proofs.lemmas.List.{get_or-drop, get_or-take, length-drop, take_rest}
use Rattle.memchr.specs.Find.{Nowhere, Passes, is_byte}
use Rattle.x12_bytes.specs.HeaderTest.{is_head}
use Rattle.env_index.specs.Words.{IsNextHead}
use Rattle.env_index.proofs.ForAbove.{no_head_ahead, head_within}
use Rattle.whole_interchanges.specs.Begun.{are_delims_begun, are_fields_begun, is_begun, may_begin}
use Rattle.whole_interchanges.specs.Batches.{WholeUpTo}
use Rattle.whole_interchanges.specs.Seeking.{NoneRead}

-- what a header may begin with begins with the letter I, if a byte is there
begun_letter : (h : List ℕ) → 0 < length h → is_begun h ≡ true → get_or h 0 0 ≡ 73
unfolding is_begun
begun_letter h some is =
    let isa : Bool = bytes_eq (take 3 h) (take (length h) (codes "ISA")) in
    let rest : Bool = leb (length h) 3 || (are_delims_begun h && are_fields_begun h 16) in
    let text : take 3 h ≡ take (length h) (codes "ISA") = (bytes_decides (take 3 h) (take (length h) (codes "ISA"))).0
    (and_parts isa rest (and_parts (ltb (length h) 106) (isa && rest) is).1).0 in
    sym (get_or-take 3 h 0 0 (omega arith)) ∙ ap (λ (xs : List ℕ). get_or xs 0 0) text
    ∙ get_or-take (length h) (codes "ISA") 0 0 some

begun_short : (h : List ℕ) → is_begun h ≡ true → length h < 106
unfolding is_begun
begun_short h is =
    let isa : Bool = bytes_eq (take 3 h) (take (length h) (codes "ISA")) in
    let rest : Bool = leb (length h) 3 || (are_delims_begun h && are_fields_begun h 16) in
    ltb-true (length h) 106 (and_parts (ltb (length h) 106) (isa && rest) is).0

-- where no letter I stands none may begin
no_letter : (read : List ℕ) (at ahead q : ℕ) → Nowhere (Passes (is_byte 73) (slice_range read at (length read))) 0 ahead
    → at ≤ q → q < at + ahead → q < length read → may_begin read q ≡ false
no_letter read at ahead q nowhere low high within = false_from_ne_true (may_begin read q) (λ may.
    let room : length (drop q read) ≡ length read - q = length-drop q read in
    let place : at + (q - at) ≡ q = omega arith in
    let zero_place : q + 0 ≡ q = omega arith in
    let letter : get_or read q 0 ≡ 73 =
    sym (get_or-drop q read 0 0 ∙ ap (λ (k : ℕ). get_or read k 0) zero_place) ∙ begun_letter (drop q read) (omega arith) may in
    let there : get_or (slice_range read at (length read)) (q - at) 0 ≡ 73 =
    ap (λ (xs : List ℕ). get_or xs (q - at) 0) (take_rest read at) ∙ get_or-drop at read (q - at) 0
    ∙ ap (λ (k : ℕ). get_or read k 0) place ∙ letter in
    nowhere (q - at) (omega arith) (omega arith) (eq-eqb (get_or (slice_range read at (length read)) (q - at) 0) 73 there))

-- a gap goes on up to the next letter I
pub gap_on : (read : List ℕ) (from at ahead : ℕ) → WholeUpTo read from at []
    → Nowhere (Passes (is_byte 73) (slice_range read at (length read))) 0 ahead → at + ahead ≤ length read
    → WholeUpTo read from (at + ahead) []
gap_on read from at ahead gap nowhere within = (
  omega (arith, gap.0),
  within,
  λ q low lt. elim (cases_lt q at) [
    | inl near ↦ gap.2 q low near
    | inr far ↦ (no_head_ahead read at ahead q nowhere far lt, no_letter read at ahead q nowhere far lt (omega (arith, lt, within)))
  ],
)

-- and past one at which no header begins and none may
pub gap_past : (read : List ℕ) (from at : ℕ) → WholeUpTo read from at [] → at < length read → is_head read at ≡ false
    → may_begin read at ≡ false → WholeUpTo read from (at + 1) []
gap_past read from at gap within none closed = (
  omega (arith, gap.0),
  omega (arith, within),
  λ q low lt. elim (cases_eq q at) [
    | inl same ↦ (subst (λ (k : ℕ). is_head read k ≡ false) (sym same) none, subst (λ (k : ℕ). may_begin read k ≡ false) (sym same) closed)
    | inr other ↦ gap.2 q low (omega (arith, lt, other))
  ],
)

pub gap_to_head : (read : List ℕ) (from at : ℕ) → WholeUpTo read from at [] → is_head read at ≡ true → IsNextHead read from at
gap_to_head read from at gap head = record { behind = gap.0; head = head; least = λ q low lt. (gap.2 q low lt).0 }

-- where one may begin none is read
pub gap_to_begun : (read : List ℕ) (from at : ℕ) → WholeUpTo read from at [] → may_begin read at ≡ true → NoneRead read from at
gap_to_begun read from at gap may =
    let room : length (drop at read) ≡ length read - at = length-drop at read in
    record {
      gap = gap;
      none = λ q low. false_from_ne_true (is_head read q)
          (λ is. absurd (omega (arith, head_within read q is, begun_short (drop at read) may, room, low, gap.1)));
      as_far = inr may;
    }

-- all that is read
pub gap_to_end : (read : List ℕ) (from at : ℕ) → WholeUpTo read from at []
    → Nowhere (Passes (is_byte 73) (slice_range read at (length read))) 0 (length (slice_range read at (length read)))
    → NoneRead read from (length read)
gap_to_end read from at gap nowhere =
    let rest : length (slice_range read at (length read)) ≡ length read - at =
    ap (λ (xs : List ℕ). length xs) (take_rest read at) ∙ length-drop at read in
    let end : at + length (slice_range read at (length read)) ≡ length read = omega (arith, gap.1) in
    record {
      gap = subst (λ (k : ℕ). WholeUpTo read from k []) end
          (gap_on read from at (length (slice_range read at (length read))) gap nowhere (omega (arith, end)));
      none = λ q low. false_from_ne_true (is_head read q) (λ is. absurd (omega (arith, head_within read q is, low)));
      as_far = inl refl;
    }
