-- Stretches of small texts that are a set's, and such as aren't, on which the definition is computed.
use Rattle.std.proofs.Common.{◌≡◌, ℕ, ◌+◌, ◌≤◌, Bool, true, false, ◌&&◌, cond, List, [], ◌∷◌, ◌++◌, codes, map, None, refl, sym, ap}
use Rattle.std.proofs.Common.{◌∙◌, arith, lit≤, add_assoc, zero-add}
use Rattle.std.specs.List.{list_all}
use Rattle.x12_bytes.specs.declared.delims.Delims.{Delims}
use Rattle.x12_segs.specs.Kinds.{kind_of, may_stand_in_set}
use Rattle.x12_segs.specs.Spans.{IsSetSpan, span_views, trailer_kinds}
use Rattle.x12_segs.specs.declared.kind.Kind.{Kind}
use Rattle.x12_segs.specs.declared.kind.Kind.TheVariants.{Ta1, Other}
use Rattle.x12_segs.specs.declared.set_span.SetSpan.{SetSpan}

abbrev plain : Delims
plain = record { element = 42; component = 62; repetition = None; terminator = 126 }

abbrev unclosed : ℕ → ℕ → SetSpan
unclosed start end = record { start = start; end = end; delims = plain; closed = false }

abbrev closed : ℕ → ℕ → SetSpan
closed start end = record { start = start; end = end; delims = plain; closed = true }

-- the kinds of a span's segments
abbrev kinds_in : List ℕ → SetSpan → List Kind
kinds_in text span = map kind_of (span_views text span)

-- a set in its group
abbrev whole : List ℕ
whole = codes "GS~ST*1~BEG~SE*3~GE~"

-- a set without SE in its group
abbrev cut : List ℕ
cut = codes "GS~ST*1~BEG~GE~"

pub closed_is_span : IsSetSpan whole (closed 3 17)
unfolding kind_of
closed_is_span = record { within = lit≤ tt; start = refl; end = refl; inner = Other ∷ []; kinds = refl; plain = refl }

pub open_is_span : IsSetSpan cut (unclosed 3 12)
unfolding kind_of
open_is_span = record { within = lit≤ tt; start = refl; end = refl; inner = Other ∷ []; kinds = refl; plain = refl }

-- line ends between its segments, and a TA1 among them
pub lines_are_span : IsSetSpan (codes "ST*1~" ++ 10 ∷ (codes "TA1~" ++ 13 ∷ 10 ∷ codes "SE*3~")) (closed 0 17)
unfolding kind_of
lines_are_span = record { within = lit≤ tt; start = refl; end = refl; inner = Ta1 ∷ []; kinds = refl; plain = refl }

-- its ST alone
pub header_is_span : IsSetSpan (codes "ST*1~") (unclosed 0 5)
unfolding kind_of
header_is_span = record { within = lit≤ tt; start = refl; end = refl; inner = []; kinds = refl; plain = refl }

-- how many are none that stand inside a set
abbrev outer : List Kind → ℕ
outer [] = 0
outer (kind ∷ kinds) = cond (may_stand_in_set kind) (outer kinds) (1 + outer kinds)

outer-append : (xs ys : List Kind) → outer (xs ++ ys) ≡ outer xs + outer ys
outer-append [] ys = sym (zero-add (outer ys))
outer-append (x ∷ xs) ys = by_test (may_stand_in_set x) (outer-append xs ys)
  where
    by_test : (b : Bool) → outer (xs ++ ys) ≡ outer xs + outer ys
        → cond b (outer (xs ++ ys)) (1 + outer (xs ++ ys)) ≡ cond b (outer xs) (1 + outer xs) + outer ys
    by_test true more = more
    by_test false more = ap (λ n. 1 + n) more ∙ sym (add_assoc 1 (outer xs) (outer ys))

inner_none : (xs : List Kind) → list_all may_stand_in_set xs ≡ true → outer xs ≡ 0
inner_none [] all = refl
inner_none (x ∷ xs) all = by_test (may_stand_in_set x) (inner_none xs) all
  where
    by_test : (b : Bool) → (list_all may_stand_in_set xs ≡ true → outer xs ≡ 0) → (b && list_all may_stand_in_set xs) ≡ true
        → cond b (outer xs) (1 + outer xs) ≡ 0
    by_test true more all = more all
    by_test false more all = cc

-- a span has its ST and its SE, where it is closed, and no other such segment
spans_outer : (text : List ℕ) (span : SetSpan) → IsSetSpan text span
    → outer (kinds_in text span) ≡ 1 + outer (trailer_kinds span.closed)
spans_outer text span is =
    ap outer is.kinds
    ∙ ap (λ n. 1 + n) (outer-append is.inner (trailer_kinds span.closed)
    ∙ ap (λ n. n + outer (trailer_kinds span.closed)) (inner_none is.inner is.plain) ∙ zero-add (outer (trailer_kinds span.closed)))

-- two sets
abbrev two : List ℕ
two = codes "ST*1~BEG~SE*3~ST*2~SE*2~"

-- two sets without SE
abbrev two_cut : List ℕ
two_cut = codes "ST*1~BEG~ST*2~"

-- the next ST is in it
pub next_set_taken : IsSetSpan two (closed 0 24) → ⊥
unfolding kind_of
next_set_taken is = let n : 4 ≡ 2 = spans_outer two (closed 0 24) is in omega (arith, n)

pub next_header_taken : IsSetSpan two_cut (unclosed 0 14) → ⊥
unfolding kind_of
next_header_taken is = let n : 2 ≡ 1 = spans_outer two_cut (unclosed 0 14) is in omega (arith, n)

-- it begins before ST: with the segment before it, or with a line end
pub begins_at_group : IsSetSpan whole (closed 0 17) → ⊥
unfolding kind_of
begins_at_group is = let kinds = is.kinds in cc

pub begins_at_line_end : IsSetSpan (10 ∷ codes "ST*1~SE*2~") (closed 0 11) → ⊥
begins_at_line_end is = let n : 1 ≡ 0 = is.start in omega (arith, n)

-- it begins after ST
pub begins_inside : IsSetSpan whole (closed 8 17) → ⊥
unfolding kind_of
begins_inside is = let kinds = is.kinds in cc

-- closed, and yet it ends before its SE, or has none
pub ends_before_trailer : IsSetSpan whole (closed 3 12) → ⊥
unfolding kind_of
ends_before_trailer is = let n : 1 ≡ 2 = spans_outer whole (closed 3 12) is in omega (arith, n)

pub has_no_trailer : IsSetSpan cut (closed 3 12) → ⊥
unfolding kind_of
has_no_trailer is = let n : 1 ≡ 2 = spans_outer cut (closed 3 12) is in omega (arith, n)

-- open, and yet it ends with SE
pub open_with_trailer : IsSetSpan whole (unclosed 3 17) → ⊥
unfolding kind_of
open_with_trailer is = let n : 2 ≡ 1 = spans_outer whole (unclosed 3 17) is in omega (arith, n)

-- an SE stands in the middle
pub trailer_inside : IsSetSpan (codes "ST*1~SE*2~BEG~") (unclosed 0 14) → ⊥
unfolding kind_of
trailer_inside is = let n : 2 ≡ 1 = spans_outer (codes "ST*1~SE*2~BEG~") (unclosed 0 14) is in omega (arith, n)

pub trailer_twice : IsSetSpan (codes "ST*1~SE*2~SE*3~") (closed 0 15) → ⊥
unfolding kind_of
trailer_twice is = let n : 3 ≡ 2 = spans_outer (codes "ST*1~SE*2~SE*3~") (closed 0 15) is in omega (arith, n)

-- GE, GS or IEA stand in it
pub group_trailer_inside : IsSetSpan cut (unclosed 3 15) → ⊥
unfolding kind_of
group_trailer_inside is = let n : 2 ≡ 1 = spans_outer cut (unclosed 3 15) is in omega (arith, n)

pub group_header_inside : IsSetSpan (codes "ST*1~GS~SE*2~") (closed 0 13) → ⊥
unfolding kind_of
group_header_inside is = let n : 3 ≡ 2 = spans_outer (codes "ST*1~GS~SE*2~") (closed 0 13) is in omega (arith, n)

pub interchange_trailer_inside : IsSetSpan (codes "ST*1~IEA~SE*2~") (closed 0 14) → ⊥
unfolding kind_of
interchange_trailer_inside is = let n : 3 ≡ 2 = spans_outer (codes "ST*1~IEA~SE*2~") (closed 0 14) is in omega (arith, n)

-- it ends in the middle of a segment, or after a line end, or after the text
pub ends_inside_segment : IsSetSpan cut (unclosed 3 10) → ⊥
ends_inside_segment is = let n : 8 ≡ 10 = is.end in omega (arith, n)

pub ends_behind_line_end : IsSetSpan (codes "ST*1~" ++ 10 ∷ codes "GE~") (unclosed 0 6) → ⊥
ends_behind_line_end is = let n : 5 ≡ 6 = is.end in omega (arith, n)

pub ends_behind_text : IsSetSpan whole (closed 3 21) → ⊥
ends_behind_text is = let n : 21 ≤ 20 = is.within in omega (arith, n)

-- no segment is none
pub nothing_is_none : IsSetSpan whole (unclosed 3 3) → ⊥
nothing_is_none is = let kinds = is.kinds in cc
