-- The first segment after an offset.
use Rattle.std.proofs.Common.{ℕ, zero, suc, ◌≡◌, ◌≤◌, ◌<◌, ◌+◌, ◌-◌, Bool, true, false, List, [], ◌∷◌, ◌++◌, Option, Some, None, length}
use Rattle.std.proofs.Common.{drop, get_or, slice_range, refl, sym, ap, subst, ◌∙◌, ◌⊎◌, inl, inr, arith, nat_eq}
use Rattle.std.specs.List.{prefix_len, position_or_len}
use Rattle.std.proofs.lemmas.Bool.{cases_lt, false≢true, eqb-true}
use Rattle.std.proofs.lemmas.List.{drop-drop, get_or-drop, length-drop, length-take-le, take_rest}
use Rattle.std.proofs.lemmas.List.Sums.{fails_before_first, passes_at_first, prefix_len-drop_no, prefix_len_stops}
use Rattle.memchr.specs.Find.{IsFirstByte, TakesFirst, first_of, is_byte, places}
use Rattle.memchr.proofs.lemmas.ValueLemmas.{IsFirstByte-value}
use Rattle.x12_bytes.specs.Bytes.{is_line_end}
use Rattle.x12_segs.specs.Segs.{Seg, seg_at, without_line_ends, part_at, segs_from}
use Rattle.x12_segs.proofs.SegLemmas.{IsCut, cut_found, drop-slice_range, part_at-none, part_at-some, segs_from-found, segs_from-none}
use Rattle.x12_segs.proofs.SegLemmas.{without_line_ends-slice}

-- what is taken from the front of a list is its first
taken-first : (r : Option ℕ) (all left : List ℕ) → TakesFirst all r left → r ≡ first_of all
unfolding first_of
taken-first None all left took = sym (ap first_of took.0)
taken-first (Some k) all left took = sym (ap first_of took)

-- the search that always has an answer
pub first_byte : (t : ℕ) (xs : List ℕ) → (r : Option ℕ) × IsFirstByte (is_byte t) xs r
first_byte t xs =
    let p : ℕ → Bool = λ b. nat_eq b t in
    let k : ℕ = position_or_len p xs in
    elim (cases_lt k (length xs)) [
      | inl lt ↦ (
        Some k,
        (
          record {
            low = omega arith;
            high = lt;
            before = λ j low below yes. false≢true (sym (fails_before_first p xs j 0 below) ∙ yes);
          },
          passes_at_first p xs 0 lt,
        ),
      )
      | inr ge ↦ (None, λ j low below yes. false≢true (sym (fails_before_first p xs j 0 (omega (arith, below, ge))) ∙ yes))
    ]

-- the first of all places is what the search answers
pub first_byte-taken : (t : ℕ) (xs : List ℕ) (r : Option ℕ) (all left : List ℕ) → all ≡ places (is_byte t) xs → TakesFirst all r left
    → IsFirstByte (is_byte t) xs r
first_byte-taken t xs r all left given took =
    let found = first_byte t xs in
    let same : r ≡ found.0 = taken-first r all left took ∙ ap first_of given ∙ sym (IsFirstByte-value (is_byte t) xs found.0 found.1) in
    subst (IsFirstByte (is_byte t) xs) (sym same) found.1

-- a search from further on
first_byte-drop : (t : ℕ) (xs : List ℕ) (k l : ℕ) → l ≤ k → IsFirstByte (is_byte t) xs (Some k)
    → IsFirstByte (is_byte t) (drop l xs) (Some (k - l))
first_byte-drop t xs k l le h =
    let below : k < length xs = h.0.high in
    let room : length (drop l xs) ≡ length xs - l = length-drop l xs in
    let same : (j : ℕ) → get_or (drop l xs) j 0 ≡ get_or xs (l + j) 0 = λ j. get_or-drop l xs j 0 in
    let place : l + (k - l) ≡ k = omega arith in (
      record {
        low = omega arith;
        high = omega arith;
        before = λ j low lt yes. h.0.before (l + j) (omega arith) (omega arith) (subst (λ b. nat_eq b t ≡ true) (same j) yes);
      },
      subst (λ b. nat_eq b t ≡ true) (sym (same (k - l) ∙ ap (λ n. get_or xs n 0) place)) h.1,
    )

-- the first segment after an offset, and the segments after it
pub record IsFirstSeg (text : List ℕ) (t from : ℕ) (seg : Seg) (more : List Seg) : Type 0 where
  pub start : from ≤ seg.start
  pub end : seg.start + length seg.bytes < length text
  pub terminated : get_or text (seg.start + length seg.bytes) 0 ≡ t
  pub alone : segs_from text t seg.start ≡ seg ∷ more
  pub behind : segs_from text t (seg.start + length seg.bytes + 1) ≡ more
  pub is : seg ≡ seg_at text seg.start (seg.start + length seg.bytes)
  pub some : 0 < length seg.bytes

-- a part without CR and LF at its front is its segment
segs_from-here : (text : List ℕ) (t at len : ℕ) → IsCut text t at len → 0 < len
    → prefix_len is_line_end (slice_range text at (at + len)) ≡ 0
    → segs_from text t at ≡ seg_at text at (at + len) ∷ segs_from text t (at + len + 1)
segs_from-here text t at len cut some none =
    let part : List ℕ = slice_range text at (at + len) in
    let width : length part ≡ len = cut.width in
    let shape : part_at at part ≡ without_line_ends at part ∷ [] = part_at-some at part (omega (arith, none)) in
    let seg : without_line_ends at part
    ≡ seg_at text (at + 0) (at + len) = without_line_ends-slice text at (at + len) 0 (sym none) (omega arith) in
    let still : at + 0 ≡ at = omega arith in
    let whole : part_at at part ≡ seg_at text at (at + len) ∷ [] = shape
    ∙ ap (λ (s : Seg). s ∷ []) (seg ∙ ap (λ n. seg_at text n (at + len)) still) in
    segs_from-found text t at len cut ∙ ap (λ (s : List Seg). s ++ segs_from text t (at + len + 1)) whole

-- a search from the front of the text's rest, as code makes it
from_rest : (text : List ℕ) (t from : ℕ) (r : Option ℕ) → IsFirstByte (is_byte t) (drop from text) r
    → IsFirstByte (is_byte t) (slice_range text from (length text)) r
from_rest text t from r h = subst (λ hay. IsFirstByte (is_byte t) hay r) (sym (take_rest text from)) h

-- a segment after the CR and LF of a part
segs_from-inside : (text : List ℕ) (t from len : ℕ) → from ≤ length text → IsFirstByte (is_byte t) (drop from text) (Some len)
    → (lead : ℕ) → lead ≡ prefix_len is_line_end (slice_range text from (from + len)) → lead < len
    → segs_from text t (from + lead) ≡ seg_at text (from + lead) (from + len) ∷ segs_from text t (from + len + 1)
segs_from-inside text t from len fits h lead is lt =
    let cut : IsCut text t from len = cut_found text t from len fits (from_rest text t from (Some len) h) in
    let part : List ℕ = slice_range text from (from + len) in
    let width : length part ≡ len = cut.width in
    let below : from + len < length text = cut.below in
    let later : IsFirstByte (is_byte t) (drop (from + lead) text) (Some (len - lead)) =
    subst (λ hay. IsFirstByte (is_byte t) hay (Some (len - lead))) (drop-drop lead from text)
    (first_byte-drop t (drop from text) len lead (omega arith) h) in
    let cut_inside : IsCut text t (from + lead) (len - lead) = cut_found text t (from + lead) (len - lead) (omega arith)
    (from_rest text t (from + lead) (Some (len - lead)) later) in
    let end : from + lead + (len - lead) ≡ from + len = omega arith in
    let stops = prefix_len_stops is_line_end part 0 (let stop : prefix_len is_line_end part < length part = omega arith in stop) in
    let dropped : prefix_len is_line_end (drop lead part)
    ≡ 0 = prefix_len-drop_no is_line_end part lead 0 (omega arith)
    (subst (λ n. is_line_end (get_or part n 0) ≡ false) (sym is) stops) in
    let inside : drop lead part
    ≡ slice_range text (from + lead) (from + len) = drop-slice_range lead from (from + len) text (omega arith) in
    let none : prefix_len is_line_end (slice_range text (from + lead) (from + len))
    ≡ 0 = subst (λ (b : List ℕ). prefix_len is_line_end b ≡ 0) inside dropped in
    let here = segs_from-here text t (from + lead) (len - lead) cut_inside (omega arith) (rw end none) in
    subst (λ n. segs_from text t (from + lead) ≡ seg_at text (from + lead) n ∷ segs_from text t (n + 1)) end here

-- a part that has a segment
seg_found : (text : List ℕ) (t from len : ℕ) (seg : Seg) (more : List Seg) → from ≤ length text
    → IsFirstByte (is_byte t) (drop from text) (Some len)
    → prefix_len is_line_end (slice_range text from (from + len)) < length (slice_range text from (from + len))
    → segs_from text t from ≡ seg ∷ more → IsFirstSeg text t from seg more
seg_found text t from len seg more fits h lt is =
    let cut : IsCut text t from len = cut_found text t from len fits (from_rest text t from (Some len) h) in
    let part : List ℕ = slice_range text from (from + len) in
    let lead : ℕ = prefix_len is_line_end part in
    let width : length part ≡ len = cut.width in
    let below : from + len < length text = cut.below in
    let here : Seg = seg_at text (from + lead) (from + len) in
    let later : List Seg = segs_from text t (from + len + 1) in
    let shape : part_at from part ≡ here ∷ [] = part_at-some from part lt
    ∙ ap (λ (s : Seg). s ∷ []) (without_line_ends-slice text from (from + len) lead refl (omega arith)) in
    let both : here ∷ later ≡ seg ∷ more = sym (segs_from-found text t from len cut ∙ ap (λ (s : List Seg). s ++ later) shape) ∙ is in
    let same_seg : here ≡ seg = cc in
    let same_more : later ≡ more = cc in
    let room : length (drop (from + lead) text) ≡ length text - (from + lead) = length-drop (from + lead) text in
    let size : length here.bytes
    ≡ from + len - (from + lead) = length-take-le (from + len - (from + lead)) (drop (from + lead) text) (omega arith) in
    let stop : from + lead + length here.bytes ≡ from + len = omega arith in
    let byte : get_or (drop from text) len 0 ≡ t = eqb-true (get_or (drop from text) len 0) t h.1 in
    let base : IsFirstSeg text t from here later = record {
      start = omega arith;
      end = omega arith;
      terminated = rw stop (sym (get_or-drop from text len 0) ∙ byte);
      alone = segs_from-inside text t from len fits h lead refl (omega arith);
      behind = ap (λ n. segs_from text t (n + 1)) stop;
      is = ap (seg_at text (from + lead)) (sym stop);
      some = omega arith;
    } in
    subst (λ (s : Seg). IsFirstSeg text t from s more) same_seg (subst (λ (m : List Seg). IsFirstSeg text t from here m) same_more base)

-- the segment stands in the first part, or the same segments are left further on
first_part : (text : List ℕ) (t from : ℕ) (seg : Seg) (more : List Seg) (r : Option ℕ) → from ≤ length text
    → IsFirstByte (is_byte t) (drop from text) r → segs_from text t from ≡ seg ∷ more
    → IsFirstSeg text t from seg more ⊎ ((next : ℕ) × (from < next) × (next ≤ length text) × (segs_from text t next ≡ seg ∷ more))
first_part text t from seg more None fits h is =
    let none : segs_from text t from ≡ [] = segs_from-none text t from (from_rest text t from None h) in
    absurd (let no : ⊥ = (cc) in no)
first_part text t from seg more (Some len) fits h is =
    let cut : IsCut text t from len = cut_found text t from len fits (from_rest text t from (Some len) h) in
    let part : List ℕ = slice_range text from (from + len) in
    let below : from + len < length text = cut.below in
    elim (cases_lt (prefix_len is_line_end part) (length part)) [
      | inl lt ↦ inl (seg_found text t from len seg more fits h lt is)
      | inr ge ↦ inr (
        from + len + 1,
        omega arith,
        omega arith,
        sym
            (ap (λ (s : List Seg). s ++ segs_from text t (from + len + 1)) (part_at-none from part ge))
            ∙ sym (segs_from-found text t from len cut) ∙ is,
      )
    ]

pub first_seg : (fuel : ℕ) (text : List ℕ) (t from : ℕ) (seg : Seg) (more : List Seg) → length text - from ≤ fuel → from ≤ length text
    → segs_from text t from ≡ seg ∷ more → IsFirstSeg text t from seg more
first_seg zero text t from seg more measure fits is =
    elim (first_part text t from seg more (first_byte t (drop from text)).0 fits (first_byte t (drop from text)).1 is) [
      | inl found ↦ found
      | inr w ↦ absurd (omega (arith, w.1, w.2, measure))
    ]
first_seg (suc fuel) text t from seg more measure fits is =
    elim (first_part text t from seg more (first_byte t (drop from text)).0 fits (first_byte t (drop from text)).1 is) [
      | inl found ↦ found
      | inr w ↦
          let found : IsFirstSeg text t w.0 seg more = first_seg fuel text t w.0 seg more (omega (arith, w.1, w.2, measure)) w.2 w.3 in
          let start : w.0 ≤ seg.start = found.start in
          record {
            start = omega (arith, w.1);
            end = found.end;
            terminated = found.terminated;
            alone = found.alone;
            behind = found.behind;
            is = found.is;
            some = found.some;
          }
    ]
