-- The last part of what is read of an interchange, and its terminator after it.
use Rattle.std.proofs.Common.{◌≡◌, ◌∙◌, ℕ, ◌+◌, ◌-◌, ◌<◌, ◌≤◌, List, [], ◌∷◌, ◌++◌, true, false}
use Rattle.std.proofs.Common.{nat_eq, Some, length, take, drop, get_or, sym, ap, subst, arith}
use Rattle.std.proofs.lemmas.Bool.Decides.{Decides-eqb}
use Rattle.std.proofs.lemmas.List.{drop-append-le, get_or-append-add, get_or_append_left, get_or-drop, length-append}
use Rattle.std.proofs.lemmas.List.{length-drop, take-append-le}
use Rattle.x12_bytes.specs.Bytes.{is_line_end}
use Rattle.x12_bytes.specs.HeaderTest.{is_head}
use Rattle.x12_bytes.specs.declared.delims.Delims.{Delims}
use Rattle.x12_segs.specs.Words.{Seg, seg_at, view_of, kind_of}
use Rattle.env_index.specs.Words.{ends_interchange}
use Rattle.whole_interchanges.specs.Begun.{may_begin}
use Rattle.whole_interchanges.specs.Batches.{end_from}
use Rattle.whole_interchanges.proofs.ForAbove.{none_behind}
use Rattle.whole_interchanges.specs.Open.{GoesOn}
use Rattle.whole_interchanges.proofs.ForAbove.{IsPart, closed_stays, end_at_segment, part_stays, passes_empty}

-- no header begins at a place, nor can one turn out to, and it holds no CR and no LF
pub record IsInner (read : List ℕ) (lead : ℕ) : Type 0 where
  pub other : is_line_end (get_or read lead 0) ≡ false
  pub no_head : is_head read lead ≡ false
  pub none_begins : may_begin read lead ≡ false

-- the last part of what is read, which no terminator ends: CR and LF, and then nothing, or a segment that is open
pub record IsLastPart (read : List ℕ) (t at lead : ℕ) : Type 0 where
  pub order : at ≤ lead
  pub within : lead ≤ length read
  pub line_ends : (k : ℕ) → k < lead - at → is_line_end (get_or (drop at read) k 0) ≡ true
  pub none : (k : ℕ) → k < length read - at → nat_eq (get_or (drop at read) k 0) t ≡ false
  pub inner : lead < length read → IsInner read lead

-- with its terminator after it
module _ (read : List ℕ) (d : Delims) (at lead : ℕ) (p : IsLastPart read d.terminator at lead) where
  abbrev t : ℕ
  t = d.terminator

  abbrev n : ℕ
  n = length read

  abbrev b : List ℕ
  b = read ++ t ∷ []

  size : length b ≡ n + 1
  size = length-append read (t ∷ [])

  order : at ≤ lead
  order = p.order

  within : lead ≤ n
  within = p.within

  same : (k : ℕ) → at + k < n → get_or (drop at b) k 0 ≡ get_or (drop at read) k 0
  same k lt = get_or-drop at b k 0 ∙ get_or_append_left read (t ∷ []) 0 (at + k) lt ∙ sym (get_or-drop at read k 0)

  last : get_or (drop at b) (n - at) 0 ≡ t
  last =
      let place : at + (n - at) ≡ n + 0 = omega (arith, order, within) in
      get_or-drop at b (n - at) 0 ∙ ap (λ (k : ℕ). get_or b k 0) place ∙ get_or-append-add read (t ∷ []) 0 0

  part : IsPart b t at lead n
  part = record {
    order = order;
    later = within;
    below = omega (arith, size);
    line_ends = λ k lt. ap is_line_end (same k (omega (arith, lt, within))) ∙ p.line_ends k lt;
    stops = λ lt. (let place : at + (lead - at) ≡ lead = omega (arith, order) in
        ap is_line_end (same (lead - at) (omega (arith, lt, order)) ∙ get_or-drop at read (lead - at) 0
        ∙ ap (λ (k : ℕ). get_or read k 0) place) ∙ (p.inner lt).other);
    none = λ k lt. ap (λ (x : ℕ). nat_eq x t) (same k (omega (arith, lt, order, within))) ∙ p.none k lt;
    ended = (Decides-eqb (get_or (drop at b) (n - at) 0) t).1 last;
  }

  -- CR and LF alone
  pub passes_blank : n ≤ lead → GoesOn b d at (n + 1)
  passes_blank all =
      let is : lead ≡ n = omega (arith, all, within) in
      let blank : IsPart b t at n n = subst (λ (k : ℕ). IsPart b t at k n) is part in
      λ more. passes_empty (b ++ more) d at n (part_stays b more t at n n blank)

  -- a segment
  module _ (some : lead < n) where
    no_head : is_head b lead ≡ false
    no_head = none_behind read (t ∷ []) lead within (p.inner some).no_head (p.inner some).none_begins

    none_begins : may_begin b lead ≡ false
    none_begins = closed_stays read (t ∷ []) lead within (p.inner some).none_begins

    low : lead ≤ length b
    low = omega (arith, size, within)

    same_seg : (more : List ℕ) → seg_at (b ++ more) lead n ≡ seg_at b lead n
    same_seg more =
        let long : length (drop lead b) ≡ length b - lead = length-drop lead b in
        ap (λ (bytes : List ℕ). let seg : Seg = record { start = lead; bytes = bytes } in seg)
        (ap (take (n - lead)) (drop-append-le lead b more low)
        ∙ take-append-le (n - lead) (drop lead b) more (omega (arith, long, size)))

    pub passes_segment : ends_interchange (kind_of (view_of d (seg_at b lead n))) ≡ false → GoesOn b d at (n + 1)
    passes_segment is = λ more. end_at_segment (b ++ more) d at lead n false (part_stays b more t at lead n part) some
        (none_behind b more lead low no_head none_begins) (closed_stays b more lead low none_begins)
        (ap (λ (seg : Seg). ends_interchange (kind_of (view_of d seg))) (same_seg more) ∙ is)

    pub ends_there : ends_interchange (kind_of (view_of d (seg_at b lead n))) ≡ true → end_from b d at ≡ Some (n + 1)
    ends_there is = end_at_segment b d at lead n true part some no_head none_begins is
