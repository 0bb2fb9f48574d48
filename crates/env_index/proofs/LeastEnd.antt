-- An interchange ends at the least offset at which it may.
use Rattle.std.proofs.Common.{◌≡◌, ℕ, zero, suc, ◌+◌, ◌≤◌, ◌⊎◌, inl, inr, List, [], ◌∷◌, Bool, true, false, cond, length, map, refl}
use Rattle.std.proofs.Common.{sym, ap, subst, ◌∙◌, arith}
use Rattle.std.specs.Prelude.{Contains}
use Rattle.std.proofs.lemmas.Bool.{both_ways}
use Rattle.x12_bytes.specs.HeaderTest.{is_head}
use Rattle.x12_bytes.specs.declared.delims.Delims.{Delims}
use Rattle.x12_segs.specs.Words.{Seg, segs_from, rest_from, view_of, kind_of}
use Rattle.x12_segs.specs.declared.kind.Kind.{Kind}
use Rattle.x12_segs.specs.declared.kind.Kind.TheVariants.{InterchangeTrailer, GroupHeader, GroupTrailer, SetHeader, SetTrailer, Ta1}
use Rattle.x12_segs.specs.declared.kind.Kind.TheVariants.{Other}
use Rattle.x12_segs.proofs.ForAbove.{StandInOrder, segs_in_order}
use Rattle.env_index.specs.Ends.{MayEnd, IsLeastEnd}
use Rattle.env_index.specs.Extents.{Reach, behind, onto_reach, ends_interchange, reach_of, reach_from}

contains_cases : (seg : Seg) (segs : List Seg) (x : Seg) → Contains (seg ∷ segs) x → (seg ≡ x) ⊎ Contains segs x
contains_cases seg segs x (zero, lt, is) = inl is
contains_cases seg segs x (suc k, lt, is) = inr (k, omega (arith, lt), is)

contains_behind : (seg : Seg) (segs : List Seg) (x : Seg) → Contains segs x → Contains (seg ∷ segs) x
contains_behind seg segs x (k, lt, is) = (suc k, omega (arith, lt), is)

trailer_ends : (k : Kind) → ends_interchange k ≡ true → k ≡ InterchangeTrailer
trailer_ends InterchangeTrailer is = refl
trailer_ends GroupHeader is = cc
trailer_ends GroupTrailer is = cc
trailer_ends SetHeader is = cc
trailer_ends SetTrailer is = cc
trailer_ends Ta1 is = cc
trailer_ends Other is = cc

module _ (text : List ℕ) (d : Delims) (rest : Seg) where
  abbrev May : List Seg → ℕ → Type 0
  May segs q = MayEnd text d segs rest q

  abbrev end_in : List Seg → ℕ
  end_in segs = (reach_of text (map (view_of d) segs) rest).end

  -- what may end it among more segments
  later : (seg : Seg) (segs : List Seg) (q : ℕ) → May segs q → May (seg ∷ segs) q
  later seg segs q (inl w) = inl (w.0, contains_behind seg segs w.0 w.1, w.2, w.3)
  later seg segs q (inr (inl (head, inl w))) = inr (inl (head, inl (w.0, contains_behind seg segs w.0 w.1, w.2)))
  later seg segs q (inr (inl (head, inr w))) = inr (inl (head, inr w))
  later seg segs q (inr (inr w)) = inr (inr w)

  -- the first segment may end it, or what is after it
  abbrev FirstEnds : Seg → ℕ → Type 0
  FirstEnds seg q =
      ((ends_interchange (kind_of (view_of d seg)) ≡ true) × (q ≡ seg.start + length seg.bytes + 1))
      ⊎ ((is_head text seg.start ≡ true) × (q ≡ seg.start))

  first_or_later : (seg : Seg) (segs : List Seg) (q : ℕ) → May (seg ∷ segs) q → FirstEnds seg q ⊎ May segs q
  first_or_later seg segs q (inl (x, in_it, trailer, is)) = elim (contains_cases seg segs x in_it) [
    | inl same ↦ inl (inl (
      ap (λ (s : Seg). ends_interchange (kind_of (view_of d s))) same ∙ ap ends_interchange trailer,
      is ∙ ap (λ (s : Seg). s.start + length s.bytes + 1) (sym same),
    ))
    | inr more ↦ inr (inl (x, more, trailer, is))
  ]
  first_or_later seg segs q (inr (inl (head, inl (x, in_it, is)))) = elim (contains_cases seg segs x in_it) [
    | inl same ↦
        let at : q ≡ seg.start = is ∙ ap (λ (s : Seg). s.start) (sym same) in
        inl (inr (subst (λ (n : ℕ). is_head text n ≡ true) at head, at))
    | inr more ↦ inr (inr (inl (head, inl (x, more, is))))
  ]
  first_or_later seg segs q (inr (inl (head, inr w))) = inr (inr (inl (head, inr w)))
  first_or_later seg segs q (inr (inr w)) = inr (inr (inr w))

  rest_alone : (q : ℕ) → May [] q → ((is_head text q ≡ true) × (q ≡ rest.start)) ⊎ (q ≡ length text)
  rest_alone q (inl (x, (k, lt, e), trailer, is)) = absurd (omega (arith, lt))
  rest_alone q (inr (inl (head, inl (x, (k, lt, e), is)))) = absurd (omega (arith, lt))
  rest_alone q (inr (inl (head, inr w))) = inl (head, w)
  rest_alone q (inr (inr w)) = inr w

  -- none of them lies before what they stand after
  none_before : (segs : List Seg) (low q : ℕ) → StandInOrder low segs rest (length text) → May segs q → low ≤ q
  none_before [] low q order may = elim (rest_alone q may) [
    | inl w ↦ omega (arith, order.0, w.1)
    | inr w ↦ omega (arith, order.0, order.1, w)
  ]
  none_before (seg ∷ segs) low q order may = elim (first_or_later seg segs q may) [
    | inl (inl w) ↦ omega (arith, order.0, w.1)
    | inl (inr w) ↦ omega (arith, order.0, w.1)
    | inr more ↦
        let le : seg.start + length seg.bytes + 1 ≤ q =
        none_before segs (seg.start + length seg.bytes + 1) q order.1 more in
        omega (arith, order.0)
  ]

  record IsLeast (segs : List Seg) (end : ℕ) : Type 0 where
    may : May segs end
    least : (q : ℕ) → May segs q → end ≤ q

  at_rest : (b : Bool) → is_head text rest.start ≡ b → rest.start ≤ length text → IsLeast [] (cond b rest.start (length text))
  at_rest true is le = record {
    may = inr (inl (is, inr refl));
    least = λ q may. elim (rest_alone q may) [ inl w ↦ omega (arith, w.1) | inr w ↦ omega (arith, w) ];
  }
  at_rest false is le = record {
    may = inr (inr refl);
    least = λ q may. elim (rest_alone q may) [
      | inl w ↦ absurd (both_ways (is_head text rest.start) is (ap (is_head text) (sym w.1) ∙ w.0))
      | inr w ↦ omega (arith, w)
    ];
  }

  abbrev end_by : (head trailer : Bool) → Seg → List Seg → ℕ
  end_by head trailer seg segs = (cond head (let r : Reach = record { segs = []; end = seg.start } in r)
      (cond trailer (record { segs = view_of d seg ∷ []; end = behind (view_of d seg) })
      (onto_reach (view_of d seg) (reach_of text (map (view_of d) segs) rest)))).end

  at_segment : (head trailer : Bool) (seg : Seg) (segs : List Seg) → is_head text seg.start ≡ head
      → ends_interchange (kind_of (view_of d seg)) ≡ trailer
      → StandInOrder (seg.start + length seg.bytes + 1) segs rest (length text)
      → IsLeast segs (end_in segs) → IsLeast (seg ∷ segs) (end_by head trailer seg segs)
  at_segment true trailer seg segs is_h is_t order more = record {
    may = inr (inl (is_h, inl (seg, (0, omega arith, refl), refl)));
    least = λ q may. elim (first_or_later seg segs q may) [
      | inl (inl w) ↦ omega (arith, w.1)
      | inl (inr w) ↦ omega (arith, w.1)
      | inr w ↦ omega (arith, none_before segs (seg.start + length seg.bytes + 1) q order w)
    ];
  }
  at_segment false true seg segs is_h is_t order more = record {
    may = inl (seg, (0, omega arith, refl), trailer_ends (kind_of (view_of d seg)) is_t, refl);
    least = λ q may. elim (first_or_later seg segs q may) [
      | inl (inl w) ↦ omega (arith, w.1)
      | inl (inr w) ↦ absurd (both_ways (is_head text seg.start) is_h w.0)
      | inr w ↦ none_before segs (seg.start + length seg.bytes + 1) q order w
    ];
  }
  at_segment false false seg segs is_h is_t order more = record {
    may = later seg segs (end_in segs) more.may;
    least = λ q may. elim (first_or_later seg segs q may) [
      | inl (inl w) ↦ absurd (both_ways (ends_interchange (kind_of (view_of d seg))) is_t w.0)
      | inl (inr w) ↦ absurd (both_ways (is_head text seg.start) is_h w.0)
      | inr w ↦ more.least q w
    ];
  }

  ends_least : (segs : List Seg) (low : ℕ) → StandInOrder low segs rest (length text) → IsLeast segs (end_in segs)
  ends_least [] low order = at_rest (is_head text rest.start) refl order.1
  ends_least (seg ∷ segs) low order =
      at_segment (is_head text seg.start) (ends_interchange (kind_of (view_of d seg))) seg segs refl refl order.1
      (ends_least segs (seg.start + length seg.bytes + 1) order.1)

pub least_end : (text : List ℕ) (d : Delims) (from : ℕ) → from ≤ length text → IsLeastEnd text d from (reach_from text d from).end
least_end text d from fits =
    let segs : List Seg = segs_from text d.terminator from in
    let rest : Seg = rest_from text d.terminator from in
    let least : IsLeast text d rest segs (reach_from text d from).end =
    ends_least text d rest segs from (segs_in_order text d.terminator from fits) in
    record { may = least.may; least = least.least }
