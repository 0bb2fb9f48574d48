-- What may begin a header can be completed to one, and nothing else can.
use Rattle.std.proofs.Common.{◌≡◌, ℕ, suc, ◌+◌, ◌-◌, ◌<◌, ◌≤◌, List, [], ◌∷◌, ◌++◌, true, false, ◌&&◌, not, leb, nat_eq}
use Rattle.std.proofs.Common.{length, take, drop, refl, sym, ap, ◌∙◌, arith, inl, inr}
use Rattle.std.specs.Prelude.{◌↔◌, codes}
use Rattle.std.proofs.lemmas.Bool.{and_from, and_parts, both_ways, cases_Bool, cases_lt, le-leb, leb-true, ne_eqb, or_cases}
use Rattle.std.proofs.lemmas.Bool.{true_from_ne_false}
use Rattle.std.proofs.lemmas.List.{append_assoc, drop-append-le, length-append, length-drop, take-append-drop, take_all, take-take}
use Rattle.x12_bytes.specs.Header.{header_at}
use Rattle.x12_bytes.specs.HeaderTest.{is_head, is_header}
use Rattle.whole_interchanges.specs.Begun.{are_fields_begun, are_delims_begun, is_begun, may_begin}
use Rattle.whole_interchanges.proofs.ForAbove.{IsBegun, IsOpen, begun_parts, header_done, header_size, is_absent, mixed, mixed_is}
use Rattle.whole_interchanges.proofs.ForAbove.{none_behind, rest}
use Rattle.night_equal.proofs.ForAbove.{heads}
use Rattle.env_index.proofs.ForAbove.{head_within}
use Rattle.gather_files.specs.Unfinished.{MayBegin}

-- a number above each of these, and above each letter, digit and space
above : List ℕ → ℕ
above [] = 128
above (x ∷ xs) = suc (x + above xs)

above_low : (xs : List ℕ) → 128 ≤ above xs
unfolding above
above_low [] = omega arith
above_low (x ∷ xs) = omega (arith, above_low xs)

above_absent : (xs : List ℕ) (t : ℕ) → above xs ≤ t → is_absent t xs ≡ true
unfolding above
above_absent [] t le = refl
above_absent (x ∷ xs) t le =
    and_from (not (nat_eq x t)) (is_absent t xs) (ap not (ne_eqb x t (λ is. omega (arith, is, le))))
    (above_absent xs t (omega (arith, le)))

-- bytes with which these are a header
record Completes (b more : List ℕ) : Type 0 where
  header : is_header (b ++ more) ≡ true
  size : length (b ++ more) ≡ 106

far_done : (b : List ℕ) → 3 < length b → is_begun b ≡ true → (more : List ℕ) × Completes b more
far_done b far begun =
    let all : IsBegun b = begun_parts b begun in
    let t : ℕ = above b in
    let parts : (are_delims_begun b ≡ true) × (are_fields_begun b 16 ≡ true) =
    elim (or_cases (leb (length b) 3) (are_delims_begun b && are_fields_begun b 16) all.parts) [
      | inl few ↦ absurd (omega (arith, leb-true (length b) 3 few, far))
      | inr holds ↦ and_parts (are_delims_begun b) (are_fields_begun b 16) holds
    ] in
    let is_open : IsOpen b t = record {
      far = far;
      short = all.short;
      front = all.front;
      delims = parts.0;
      fields = parts.1;
      low = above_low b;
      absent = above_absent b t (omega arith);
    } in
    let ys : List ℕ = rest b t is_open in
    let joined : mixed b ys ≡ b ++ drop (length b) ys = mixed_is b ys in (
      drop (length b) ys,
      record {
        header = sym (ap is_header joined) ∙ header_done b t is_open;
        size = sym (ap length joined) ∙ header_size b t is_open;
      },
    )

-- the least that names an element separator
abbrev least : List ℕ
least = codes "ISA*"

least_begun : is_begun least ≡ true
unfolding is_begun are_fields_begun
least_begun = refl

near_done : (b : List ℕ) → length b ≤ 3 → is_begun b ≡ true → (more : List ℕ) × Completes b more
near_done b near begun =
    let all : IsBegun b = begun_parts b begun in
    let n : ℕ = length b in
    let front : b ≡ take n least = sym (take_all 3 b near) ∙ all.front ∙ take-take n 3 least near in
    let joined : b ++ drop n least ≡ least = ap (λ (l : List ℕ). l ++ drop n least) front ∙ take-append-drop n least in
    let done : (more : List ℕ) × Completes least more = far_done least (omega arith) least_begun in
    let same : b ++ (drop n least ++ done.0) ≡ least ++ done.0 =
    sym (append_assoc b (drop n least) done.0) ∙ ap (λ (l : List ℕ). l ++ done.0) joined in (
      drop n least ++ done.0,
      record { header = ap is_header same ∙ done.1.header; size = ap length same ∙ done.1.size },
    )

begun_done : (b : List ℕ) → is_begun b ≡ true → (more : List ℕ) × Completes b more
begun_done b begun = elim (cases_lt 3 (length b)) [ inl far ↦ far_done b far begun | inr near ↦ near_done b near begun ]

-- with them a header begins at the offset of a text at which they follow
head_from : (read more : List ℕ) (at : ℕ) → at ≤ length read → Completes (drop at read) more → is_head (read ++ more) at ≡ true
head_from read more at le done =
    let text : List ℕ = read ++ more in
    let front : List ℕ = drop at read ++ more in
    let here : drop at text ≡ front = drop-append-le at read more le in
    let size : length front ≡ 106 = done.size in
    let long : length text ≡ length read + length more = length-append read more in
    let parts : length front ≡ length (drop at read) + length more = length-append (drop at read) more in
    let room : length (drop at read) ≡ length read - at = length-drop at read in
    let same : header_at text at ≡ front = ap (take (at + 106 - at)) here ∙ take_all (at + 106 - at) front (omega arith) in
    and_from (leb (at + 106) (length text)) (is_header (header_at text at)) (le-leb (at + 106) (length text) (omega arith))
    (ap is_header same ∙ done.header)

pub completed : (read : List ℕ) (at : ℕ) → at ≤ length read → may_begin read at ≡ true
    → (more : List ℕ) × (is_head (read ++ more) at ≡ true)
completed read at le begun =
    let done : (more : List ℕ) × Completes (drop at read) more = begun_done (drop at read) begun in
    (done.0, head_from read done.0 at le done.1)

-- what may begin isn't there yet
pub not_yet : (read : List ℕ) (at : ℕ) → at ≤ length read → may_begin read at ≡ true → is_head read at ≡ false
not_yet read at le begun = elim (cases_Bool (is_head read at)) [
  | inl is ↦
      let short : length (drop at read) < 106 = (begun_parts (drop at read) begun).short in
      absurd (omega (arith, short, length-drop at read, head_within read at is))
  | inr missing ↦ missing
]

pub begun_is_one : (text : List ℕ) (offset : ℕ) → offset ≤ length text → MayBegin text offset ↔ (may_begin text offset ≡ true)
begun_is_one text offset le = (
  λ may. true_from_ne_false (may_begin text offset) (λ closed. both_ways (is_head (text ++ may.more) offset)
      (none_behind text may.more offset le (sym (heads text offset) ∙ may.not_yet) closed)
      (sym (heads (text ++ may.more) offset) ∙ may.completed)),
  λ begun. (
      let done = completed text offset le begun in
      record {
        not_yet = heads text offset ∙ not_yet text offset le begun;
        more = done.0;
        completed = heads (text ++ done.0) offset ∙ done.1;
      }),
)
