-- The parts of what is read of a text, and those of the text.
use Rattle.std.proofs.Common.{◌≡◌, ℕ, zero, suc, ◌+◌, ◌-◌, ◌<◌, ◌≤◌, List, ◌++◌, Bool, true, nat_eq, Option, Some, None}
use Rattle.std.proofs.Common.{length, take, drop, get_or, slice_range, refl, sym, ap, subst, ◌∙◌, arith, append_assoc, inl, inr}
use Rattle.std.specs.List.{position_or_len}
use Rattle.std.proofs.lemmas.Bool.{cases_lt, false≢true}
use Rattle.std.proofs.lemmas.List.{drop-take, get_or-drop, get_or-take, length-drop, length-take-le, take-take, take_rest}
use Rattle.std.proofs.lemmas.List.Sums.{fails_before_first, passes_at_first}
use Rattle.memchr.specs.Find.{IsFirstByte, is_byte}
use Rattle.x12_segs.specs.Words.{Seg, part_at, segs_from, rest_from, without_line_ends}
use Rattle.x12_segs.proofs.ForAbove.{IsCut, cut_found, segs_from-found, rest_from-found, segs_from-none, rest_from-none}

-- the search that always has an answer
pub first_byte : (t : ℕ) (xs : List ℕ) → (r : Option ℕ) × IsFirstByte (is_byte t) xs r
first_byte t xs =
    let p : ℕ → Bool = λ b. nat_eq b t in
    let k : ℕ = position_or_len p xs in
    elim (cases_lt k (length xs)) [
      | inl lt ↦ (
        Some k,
        (
          record {
            low = omega arith;
            high = lt;
            before = λ j low below yes. false≢true (sym (fails_before_first p xs j 0 below) ∙ yes);
          },
          passes_at_first p xs 0 lt,
        ),
      )
      | inr ge ↦ (None, λ j low below yes. false≢true (sym (fails_before_first p xs j 0 (omega (arith, below, ge))) ∙ yes))
    ]

pub from_rest : (text : List ℕ) (t from : ℕ) (r : Option ℕ) → IsFirstByte (is_byte t) (drop from text) r
    → IsFirstByte (is_byte t) (slice_range text from (length text)) r
from_rest text t from r h = subst (λ hay. IsFirstByte (is_byte t) hay r) (sym (take_rest text from)) h

-- what is read from an offset on
pub read_rest : (text : List ℕ) (c from : ℕ) → from ≤ c → drop from (take c text) ≡ take (c - from) (drop from text)
read_rest text c from le =
    let n : c ≡ from + (c - from) = omega arith in
    ap (λ (k : ℕ). drop from (take k text)) n ∙ drop-take from (c - from) text

pub read_range : (text : List ℕ) (c from to : ℕ) → from ≤ to → to ≤ c → slice_range (take c text) from to ≡ slice_range text from to
read_range text c from to le within =
    ap (take (to - from)) (read_rest text c from (omega arith)) ∙ take-take (to - from) (c - from) (drop from text) (omega arith)

-- a byte that is first in what is read is first in the text
more_found : (text : List ℕ) (c t from len : ℕ) → from ≤ c → c ≤ length text
    → IsFirstByte (is_byte t) (drop from (take c text)) (Some len) → IsFirstByte (is_byte t) (drop from text) (Some len)
more_found text c t from len le within h =
    let room : length (drop from (take c text)) ≡ length (take c text) - from = length-drop from (take c text) in
    let size : length (take c text) ≡ c = length-take-le c text within in
    let all : length (drop from text) ≡ length text - from = length-drop from text in
    let high : len < length (drop from (take c text)) = h.0.high in
    let same : (j : ℕ) → j ≤ len → get_or (drop from (take c text)) j 0 ≡ get_or (drop from text) j 0 =
    λ j lt. get_or-drop from (take c text) j 0 ∙ get_or-take c text (from + j) 0 (omega (arith, lt)) ∙ sym (get_or-drop from text j 0) in (
      record {
        low = omega arith;
        high = omega arith;
        before = λ j low lt yes. h.0.before j low lt (subst (λ b. nat_eq b t ≡ true) (sym (same j (omega (arith, lt)))) yes);
      },
      subst (λ b. nat_eq b t ≡ true) (same len (omega arith)) h.1,
    )

-- the segments of what is read come first among those of the text, and the part that is open goes on
pub record IsSplit (text : List ℕ) (c t from : ℕ) : Type 0 where
  pub open_at : ℕ
  pub behind : from ≤ open_at
  pub within : open_at ≤ c
  pub segs : segs_from text t from ≡ segs_from (take c text) t from ++ segs_from text t open_at
  pub rest : rest_from text t from ≡ rest_from text t open_at
  pub left : rest_from (take c text) t from ≡ without_line_ends open_at (drop open_at (take c text))
  pub none : IsFirstByte (is_byte t) (drop open_at (take c text)) None

split_none : (text : List ℕ) (c t from : ℕ) → from ≤ c → IsFirstByte (is_byte t) (drop from (take c text)) None → IsSplit text c t from
split_none text c t from le h =
    let none = from_rest (take c text) t from None h in
    record {
      open_at = from;
      behind = omega arith;
      within = le;
      segs = ap (λ (xs : List Seg). xs ++ segs_from text t from) (sym (segs_from-none (take c text) t from none));
      rest = refl;
      left = rest_from-none (take c text) t from none;
      none = h;
    }

split_some : (text : List ℕ) (c t from len : ℕ) → from ≤ c → c ≤ length text
    → IsFirstByte (is_byte t) (drop from (take c text)) (Some len) → from + len + 1 ≤ c
    → IsSplit text c t (from + len + 1) → IsSplit text c t from
split_some text c t from len le within h fits later =
    let read : List ℕ = take c text in
    let size : length read ≡ c = length-take-le c text within in
    let cut : IsCut read t from len = cut_found read t from len (omega arith) (from_rest read t from (Some len) h) in
    let cut_text : IsCut text t from len = cut_found text t from len (omega arith)
    (from_rest text t from (Some len) (more_found text c t from len le within h)) in
    let part : List Seg = part_at from (slice_range read from (from + len)) in
    let same : part_at from (slice_range text from (from + len)) ≡ part =
    ap (part_at from) (sym (read_range text c from (from + len) (omega arith) (omega arith))) in
    let next : ℕ = from + len + 1 in
    let open_behind : next ≤ later.open_at = later.behind in
    record {
      open_at = later.open_at;
      behind = omega arith;
      within = later.within;
      segs = segs_from-found text t from len cut_text
          ∙ ap (λ (xs : List Seg). xs ++ segs_from text t next) same
          ∙ ap (λ (xs : List Seg). part ++ xs) later.segs
          ∙ sym (append_assoc part (segs_from read t next) (segs_from text t later.open_at))
          ∙ ap (λ (xs : List Seg). xs ++ segs_from text t later.open_at) (sym (segs_from-found read t from len cut));
      rest = rest_from-found text t from len cut_text ∙ later.rest;
      left = rest_from-found read t from len cut ∙ later.left;
      none = later.none;
    }

split_by : (fuel : ℕ) (text : List ℕ) (c t from : ℕ) → c - from ≤ fuel → from ≤ c → c ≤ length text
    → (r : Option ℕ) → IsFirstByte (is_byte t) (drop from (take c text)) r → IsSplit text c t from
split_by fuel text c t from measure le within None h = split_none text c t from le h
split_by zero text c t from measure le within (Some len) h =
    let room : length (drop from (take c text)) ≡ length (take c text) - from = length-drop from (take c text) in
    let size : length (take c text) ≡ c = length-take-le c text within in
    let high : len < length (drop from (take c text)) = h.0.high in
    absurd (omega arith)
split_by (suc fuel) text c t from measure le within (Some len) h =
    let room : length (drop from (take c text)) ≡ length (take c text) - from = length-drop from (take c text) in
    let size : length (take c text) ≡ c = length-take-le c text within in
    let high : len < length (drop from (take c text)) = h.0.high in
    let found = first_byte t (drop (from + len + 1) (take c text)) in
    split_some text c t from len le within h (omega arith)
    (split_by fuel text c t (from + len + 1) (omega arith) (omega arith) within found.0 found.1)

pub split_at : (text : List ℕ) (c t from : ℕ) → from ≤ c → c ≤ length text → IsSplit text c t from
split_at text c t from le within =
    let found = first_byte t (drop from (take c text)) in
    split_by (c - from) text c t from (omega arith) le within found.0 found.1
