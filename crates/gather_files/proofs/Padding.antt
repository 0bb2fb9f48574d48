-- A file without the padding at its end, of which the front was written already.
use Rattle.std.proofs.Common.{◌≡◌, ◌∙◌, ℕ, ◌+◌, ◌-◌, ◌<◌, ◌≤◌, List, ◌++◌, Bool, true, false, not, ◌||◌, nat_eq}
use Rattle.std.proofs.Common.{◌&&◌, length, take, drop, get_or, refl, sym, ap, arith, inl, inr}
use Rattle.std.specs.List.{suffix_len}
use Rattle.std.proofs.lemmas.Bool.{and_parts, both_ways, cases_lt, eq-eqb}
use Rattle.std.proofs.lemmas.List.{get_or-append-add, get_or_append_left, get_or-take, length-append, length-take-le}
use Rattle.std.proofs.Math.Seq.{take-append-add}
use Rattle.std.proofs.lemmas.List.Sums.{suffix_len-le-length}
use Rattle.x12_bytes.specs.Bytes.{is_line_end}
use Rattle.x12_bytes.specs.Header.{header_at, terminator_of}
use Rattle.x12_bytes.specs.HeaderTest.{is_head}
use Rattle.env_index.proofs.ForAbove.{head_within}
use Rattle.whole_interchanges.proofs.ForAbove.{head_kept}
use Rattle.gather_files.specs.Gathering.{is_end}
use Rattle.gather_files.specs.Lead.{is_padding, pads, unpadded}
use Rattle.gather_files.proofs.Ends.{looked, passes, stops, suffix_all, suffix_some}

or_true : (b : Bool) → (b || true) ≡ true
or_true true = refl
or_true false = refl

padding_ends : (t b : ℕ) → pads t b ≡ true → is_end b ≡ true
padding_ends t b is =
    let padding = and_parts (is_padding b) (not (nat_eq b t)) is in
    ap (λ (p : Bool). is_line_end b || p) padding.0 ∙ or_true (is_line_end b)

line_end_ends : (b : ℕ) → is_line_end b ≡ true → is_end b ≡ true
line_end_ends b is = ap (λ (p : Bool). p || is_padding b) is

-- the terminator of the header at the front
pub first_terminator : (text : List ℕ) → terminator_of (header_at text 0) ≡ get_or text 105 0
first_terminator text = get_or-take 106 text 105 0 (omega arith)

-- a header is kept whole
pub header_stays : (file : List ℕ) → is_head file 0 ≡ true → is_head (unpadded (terminator_of (header_at file 0)) file) 0 ≡ true
header_stays file head = elim (cases_lt (length file - suffix_len (pads t) file) 106) [
  | inl few ↦ absurd (both_ways (pads t (get_or file 105 0)) none (passes (pads t) file 105 0 (omega (arith, few)) (omega (arith, fits))))
  | inr all ↦ head_kept file (length file - suffix_len (pads t) file) (omega arith) 0 (omega (arith, all)) ∙ head
]
  where
    t : ℕ
    t = terminator_of (header_at file 0)

    fits : 106 ≤ length file
    fits = omega (arith, head_within file 0 head)

    and_false : (b : Bool) → (b && false) ≡ false
    and_false true = refl
    and_false false = refl

    none : pads t (get_or file 105 0) ≡ false
    none =
        ap (λ (e : Bool). is_padding (get_or file 105 0) && not e) (eq-eqb (get_or file 105 0) t (sym (first_terminator file)))
        ∙ and_false (is_padding (get_or file 105 0))

module _ (front held : List ℕ) (seen ends : ℕ) (within : seen ≤ length held) (few : ends ≤ seen)
    (all : suffix_len is_end (front ++ take seen held) ≡ ends) where
  -- the last byte that was looked at is neither padding nor CR nor LF
  last_looked : (at : ℕ) → at + 1 ≡ length front + (seen - ends) → is_end (get_or (front ++ held) at 0) ≡ false
  last_looked at is =
      let xs : List ℕ = front ++ take seen held in
      let size : length xs ≡ length front + seen = omega (arith, length-append front (take seen held), length-take-le seen held within) in
      let place : length xs - 1 - suffix_len is_end xs ≡ at = omega (arith, size, all, few, is) in
      ap (λ (l : List ℕ). is_end (get_or l at 0)) (looked front held seen)
      ∙ ap is_end (get_or_append_left xs (drop seen held) 0 at (omega (arith, size, is, few)))
      ∙ ap (λ (k : ℕ). is_end (get_or xs k 0)) (sym place) ∙ stops is_end xs 0 (omega (arith, size, all, few, is))

  module _ (t : ℕ) where
    abbrev size : ℕ
    size = length held - suffix_len (pads t) held

    abbrev body : List ℕ
    body = unpadded t held

    body_size : length body ≡ size
    body_size = length-take-le size held (omega arith)

    -- what is left out at the end wasn't looked at
    ends_at : (k : ℕ) → length body - suffix_len is_line_end body ≤ k → k < length held → is_end (get_or held k 0) ≡ true
    ends_at k low lt = elim (cases_lt k size) [
      | inl near ↦
          ap is_end (sym (get_or-take size held k 0 near))
          ∙ line_end_ends (get_or body k 0) (passes is_line_end body k 0 low (omega (arith, near, body_size)))
      | inr far ↦ padding_ends t (get_or held k 0) (passes (pads t) held k 0 far lt)
    ]

    pub not_looked : seen - ends ≤ length body - suffix_len is_line_end body
    not_looked = elim (cases_lt (length body - suffix_len is_line_end body) (seen - ends)) [
      | inl lt ↦
          let k : ℕ = seen - ends - 1 in
          let there : is_end (get_or (front ++ held) (length front + k) 0) ≡ false =
          last_looked (length front + k) (omega (arith, lt)) in
          absurd (both_ways (is_end (get_or held k 0)) (ap is_end (sym (get_or-append-add front held k 0)) ∙ there)
          (ends_at k (omega (arith, lt)) (omega (arith, lt, within))))
      | inr le ↦ le
    ]

    none_before : suffix_len (pads t) held ≡ length held → suffix_len (pads t) front ≡ 0
    none_before is = elim (cases_lt 0 (suffix_len (pads t) front)) [
      | inl some ↦
          let n : ℕ = length front in
          let least : suffix_len (pads t) front ≤ n = suffix_len-le-length (pads t) front in
          let there : is_end (get_or (front ++ held) (n - 1) 0) ≡ false =
          last_looked (n - 1) (omega (arith, some, least, not_looked, body_size, is)) in
          absurd (both_ways (is_end (get_or front (n - 1) 0))
          (ap is_end (sym (get_or_append_left front held 0 (n - 1) (omega (arith, some, least)))) ∙ there)
          (padding_ends t (get_or front (n - 1) 0) (passes (pads t) front (n - 1) 0 (omega (arith, some)) (omega (arith, some, least)))))
      | inr none ↦ omega (arith, none)
    ]

    pub padding_held : suffix_len (pads t) (front ++ held) ≡ suffix_len (pads t) held
    padding_held = elim (cases_lt (suffix_len (pads t) held) (length held)) [
      | inl lt ↦ suffix_some (pads t) front held lt
      | inr le ↦
          let is : suffix_len (pads t) held ≡ length held = omega (arith, le, suffix_len-le-length (pads t) held) in
          omega (arith, suffix_all (pads t) front held is, none_before is, is)
    ]

    pub unpadded_past : unpadded t (front ++ held) ≡ front ++ body
    unpadded_past =
        let count : length (front ++ held) - suffix_len (pads t) (front ++ held) ≡ length front + size =
        omega (arith, padding_held, length-append front held, suffix_len-le-length (pads t) held) in
        ap (λ (k : ℕ). take k (front ++ held)) count ∙ take-append-add front held size
