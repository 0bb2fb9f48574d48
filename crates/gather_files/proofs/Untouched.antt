-- Nothing is put after a file that stands apart.
use Rattle.std.proofs.Common.{◌≡◌, ◌∙◌, ℕ, zero, suc, ◌+◌, ◌-◌, ◌<◌, ◌≤◌, List, [], ◌∷◌, ◌++◌, Bool, true, false, cond, nat_eq}
use Rattle.std.proofs.Common.{Option, Some, None, length, drop, get_or, map, refl, sym, ap, subst, arith, inl, inr}
use Rattle.std.specs.List.{All, prefix_len}
use Rattle.std.proofs.lemmas.Bool.{both_ways, cases_lt}
use Rattle.std.proofs.lemmas.List.{append-nil, get_or-drop, length-append, length-drop}
use Rattle.std.proofs.lemmas.List.Elements.{All-cons, All-head, All-nil, All-tail}
use Rattle.std.proofs.lemmas.List.Sums.{prefix_len_passes}
use Rattle.memchr.specs.Find.{IsFirstByte, is_byte}
use Rattle.x12_bytes.specs.Bytes.{is_line_end}
use Rattle.x12_bytes.specs.Header.{header_delims, header_at, terminator_of}
use Rattle.x12_bytes.specs.HeaderTest.{is_head}
use Rattle.x12_bytes.specs.declared.delims.Delims.{Delims}
use Rattle.x12_segs.specs.Words.{Seg, SegValue, kind_of, rest_from, segs_from, view_of}
use Rattle.x12_segs.proofs.ForAbove.{StandInOrder, segs_in_order, IsCut, cut_found, rest_from-found, rest_from-none}
use Rattle.env_index.specs.Words.{Chain, Extent, Reach, behind, ends_interchange, reach_at, reach_of}
use Rattle.env_index.proofs.ForAbove.{head_within, no_head_past}
use Rattle.whole_interchanges.specs.Begun.{is_begun, may_begin}
use Rattle.whole_interchanges.specs.Batches.{ChainUpTo, end_by, whole_end}
use Rattle.whole_interchanges.specs.Moved.{moved_extent}
use Rattle.whole_interchanges.proofs.ForAbove.{chain_ends, chain_joined, chain_on, chain_up_to_end, drop_past, header_past, rest_past}
use Rattle.whole_interchanges.proofs.ForAbove.{chain_past}
use Rattle.whole_interchanges.proofs.ForAbove.{first_byte, from_rest, low_within, reach_goes_on}
use Rattle.whole_interchanges.specs.Open.{IsAsFar, IsShort}
use Rattle.whole_interchanges.specs.Scouting.{Advances, IsFarthest, IsInside, IsLeft, Stands}
use Rattle.whole_interchanges.specs.declared.scout.Advanced.{Advanced}
use Rattle.whole_interchanges.specs.declared.scout.Inside.{Inside}
use Rattle.gather_files.specs.Gathered.{IsClosed, IsClosedFile, IsWholeBefore, StandsApart, open_from}
use Rattle.gather_files.specs.Closing.{IsHeldApart}
use Rattle.gather_files.proofs.LastFound.{no_end}

-- what is left after the last terminator begins no later than at a byte that is no CR and no LF and after which no terminator stands
module _ (text : List ℕ) (t q : ℕ) (lt : q < length text) (other : is_line_end (get_or text q 0) ≡ false)
    (none : (k : ℕ) → q ≤ k → k < length text → nat_eq (get_or text k 0) t ≡ false) where
  no_more : (from : ℕ) → from ≤ q → IsFirstByte (is_byte t) (drop from text) None → (rest_from text t from).start ≤ q
  no_more from le nowhere =
      let left : List ℕ = drop from text in
      let n : ℕ = prefix_len is_line_end left in
      let is : rest_from text t from ≡ (let s : Seg = record { start = from + n; bytes = drop n left } in s) =
      rest_from-none text t from (from_rest text t from None nowhere) in
      let place : from + (q - from) ≡ q = omega (arith, le) in
      elim (cases_lt q (from + n)) [
        | inr ge ↦ (let start : (rest_from text t from).start ≡ from + n = ap (λ (s : Seg). s.start) is in omega (arith, start, ge))
        | inl in_front ↦
            let there : is_line_end (get_or left (q - from) 0) ≡ true =
            prefix_len_passes is_line_end left (q - from) 0 (omega (arith, in_front, le)) in
            let here : is_line_end (get_or text q 0) ≡ true =
            ap is_line_end (sym (get_or-drop from text (q - from) 0 ∙ ap (λ (k : ℕ). get_or text k 0) place)) ∙ there in
            absurd (both_ways (is_line_end (get_or text q 0)) other here)
      ]

  in_front_of : (from len : ℕ) → IsFirstByte (is_byte t) (drop from text) (Some len) → from + len < q
  in_front_of from len found = elim (cases_lt (from + len) q) [
    | inl near ↦ near
    | inr far ↦
        let high : len < length (drop from text) = found.0.high in
        let below : from + len < length text = omega (arith, high, length-drop from text) in
        let there : nat_eq (get_or text (from + len) 0) t ≡ true =
        ap (λ (b : ℕ). nat_eq b t) (sym (get_or-drop from text len 0)) ∙ found.1 in
        absurd (both_ways (nat_eq (get_or text (from + len) 0) t) (none (from + len) far below) there)
  ]

  cut_at : (from len : ℕ) → from ≤ q → IsFirstByte (is_byte t) (drop from text) (Some len) → IsCut text t from len
  cut_at from len le found = cut_found text t from len (omega (arith, le, lt)) (from_rest text t from (Some len) found)

  rest_by : (fuel from : ℕ) → q - from ≤ fuel → from ≤ q → (r : Option ℕ) → IsFirstByte (is_byte t) (drop from text) r
      → (rest_from text t from).start ≤ q
  rest_by fuel from few le None nowhere = no_more from le nowhere
  rest_by zero from few le (Some len) found = absurd (omega (arith, in_front_of from len found, few))
  rest_by (suc fuel) from few le (Some len) found =
      let near : from + len < q = in_front_of from len found in
      let next : ℕ = from + len + 1 in
      let more = first_byte t (drop next text) in
      let later : (rest_from text t next).start ≤ q = rest_by fuel next (omega (arith, few, near)) (omega (arith, near)) more.0 more.1 in
      let same : (rest_from text t from).start ≡ (rest_from text t next).start =
      ap (λ (s : Seg). s.start) (rest_from-found text t from len (cut_at from len le found)) in
      omega (arith, later, same)

  pub rest_before : (from : ℕ) → from ≤ q → (rest_from text t from).start ≤ q
  rest_before from le =
      let found = first_byte t (drop from text) in
      rest_by (q - from) from (omega arith) le found.0 found.1

-- an interchange that isn't whole by all bytes goes on to their end, where no header can turn out to begin
module _ (text : List ℕ) (clear : (q : ℕ) → q < length text → may_begin text q ≡ false) (d : Delims) where
  by_rest : (rest : Seg) (b : Bool) → is_head text rest.start ≡ b → cond b (Some rest.start) None ≡ None
      → cond b rest.start (length text) ≡ length text
  by_rest rest true head is = absurd (no_end rest.start (Some rest.start) refl is)
  by_rest rest false head is = refl

  not_whole : (segs : List Seg) (rest : Seg) (low : ℕ) → StandInOrder low segs rest (length text)
      → end_by text (map (view_of d) segs) rest ≡ None → (reach_of text (map (view_of d) segs) rest).end ≡ length text
  not_whole [] rest low order is = by_rest rest (is_head text rest.start) refl is
  not_whole (seg ∷ segs) rest low order is =
      by_test (is_head text seg.start) (may_begin text seg.start) (ends_interchange (kind_of x)) refl refl refl is
      (not_whole segs rest (seg.start + length seg.bytes + 1) order.1)
    where
      x : SegValue
      x = view_of d seg

      xs : List SegValue
      xs = map (view_of d) segs

      within : seg.start + length seg.bytes + 1 ≤ length text
      within = low_within (seg.start + length seg.bytes + 1) segs rest (length text) order.1

      by_test : (h m e : Bool) → is_head text seg.start ≡ h → may_begin text seg.start ≡ m → ends_interchange (kind_of x) ≡ e
          → cond h (Some seg.start) (cond m None (cond e (Some (behind x)) (end_by text xs rest))) ≡ None
          → (end_by text xs rest ≡ None → (reach_of text xs rest).end ≡ length text)
          → (reach_of text (x ∷ xs) rest).end ≡ length text
      by_test true m e head may ends same more = absurd (no_end seg.start (Some seg.start) refl same)
      by_test false true e head may ends same more =
          absurd (both_ways (may_begin text seg.start) (clear seg.start (omega (arith, within))) may)
      by_test false false true head may ends same more = absurd (no_end (behind x) (Some (behind x)) refl same)
      by_test false false false head may ends same more =
          ap (λ (r : Reach). r.end) (reach_goes_on text x xs rest head ends) ∙ more same

goes_to_end : (text : List ℕ) → ((q : ℕ) → q < length text → may_begin text q ≡ false) → (start : ℕ) → is_head text start ≡ true
    → whole_end text start ≡ None → (reach_at text start).end ≡ length text
goes_to_end text clear start head is =
    let d : Delims = header_delims (header_at text start) in
    not_whole text clear d (segs_from text d.terminator (start + 106)) (rest_from text d.terminator (start + 106)) (start + 106)
    (segs_in_order text d.terminator (start + 106) (head_within text start head)) is

-- the last of a list
last_of_all : (P : Extent → Type 0) (xs : List Extent) (x : Extent) → All P (xs ++ x ∷ []) → P x
last_of_all P [] x all = All-head P x [] all
last_of_all P (y ∷ ys) x all = last_of_all P ys x (All-tail P y (ys ++ x ∷ []) all)

later_of_all : (P : Extent → Type 0) (xs ys : List Extent) → All P (xs ++ ys) → All P ys
later_of_all P [] ys all = all
later_of_all P (x ∷ xs) ys all = later_of_all P xs ys (All-tail P x (xs ++ ys) all)

-- where nothing is open, all is read
pub outside_all : (held : List ℕ) (a : Advanced) → Advances held 0 a → a.scout.inside ≡ None → IsHeldApart held
    → a.scout.at ≡ length held
outside_all held a advances none apart =
    by_cause (subst (λ (o : Option Inside). IsFarthest held a.scout.at o) none advances.farthest)
    (subst (λ (o : Option Inside). Stands held a.scout.at o) none advances.stands)
  where
    by_cause : IsAsFar held a.scout.at → a.scout.at ≤ length held → a.scout.at ≡ length held
    by_cause (inl is) within = is
    by_cause (inr may) within = elim (cases_lt a.scout.at (length held)) [
      | inr ge ↦ omega (arith, ge, within)
      | inl lt ↦ absurd (both_ways (may_begin held a.scout.at) (apart.ends a.scout.at lt) may)
    ]

-- an interchange that is open has nothing after its last terminator but CR and LF
module _ (held : List ℕ) (a : Advanced) (advances : Advances held 0 a) (i : Inside) (some : a.scout.inside ≡ Some i)
    (apart : IsHeldApart held) where
  abbrev at : ℕ
  at = a.scout.at

  abbrev lead : ℕ
  lead = i.part.lead

  stands : IsInside held at i
  stands = subst (λ (o : Option Inside). Stands held at o) some advances.stands

  left : whole_end held at ≡ None
  left = subst (λ (o : Option Inside). IsLeft held at o) some advances.left

  short : IsShort held lead i.part.seen
  short = subst (λ (o : Option Inside). IsFarthest held at o) some advances.farthest

  end : (reach_at held at).end ≡ length held
  end = goes_to_end held apart.ends at stands.head left

  abbrev last : Extent
  last = record { start = at; end = length held }

  chain : Chain held (advances.whole ++ last ∷ [])
  chain =
      let front : ChainUpTo held 0 at advances.whole =
      subst (λ (xs : List ℕ). ChainUpTo xs 0 at advances.whole) (append-nil held) (advances.chain []) in
      chain_on held 0 at advances.whole (last ∷ []) front (
        record { behind = omega arith; head = stands.head; least = λ q low lt. absurd (omega (arith, low, lt)) },
        sym end,
        λ q low. no_head_past held q low,
      )

  closed : open_from held at ≡ length held
  closed = last_of_all (IsClosed held) advances.whole last (apart.closed (advances.whole ++ last ∷ []) chain) refl

  order : i.part.at ≤ lead
  order = stands.open_part.order

  within : lead ≤ length held
  within = (let first : lead ≤ i.part.seen = stands.open_part.later in
      let second : i.part.seen ≤ length held = stands.open_part.within in omega arith)

  no_terminator : i.part.seen ≡ length held → (k : ℕ) → lead ≤ k → k < length held
      → nat_eq (get_or held k 0) (terminator_of (header_at held at)) ≡ false
  no_terminator seen k low lt =
      let place : i.part.at + (k - i.part.at) ≡ k = omega (arith, low, order) in
      ap (λ (d : Delims). nat_eq (get_or held k 0) d.terminator) (sym stands.delims)
      ∙ ap (λ (j : ℕ). nat_eq (get_or held j 0) i.delims.terminator) (sym place)
      ∙ ap (λ (b : ℕ). nat_eq b i.delims.terminator) (sym (get_or-drop i.part.at held (k - i.part.at) 0))
      ∙ stands.open_part.none (k - i.part.at) (omega (arith, seen, low, lt, order))

  by_cause : IsShort held lead i.part.seen → lead ≡ length held
  by_cause (inl (inl is)) = is
  by_cause (inl (inr may)) = elim (cases_lt lead (length held)) [
    | inr ge ↦ omega (arith, ge, within)
    | inl lt ↦ absurd (both_ways (may_begin held lead) (apart.ends lead lt) may)
  ]
  by_cause (inr unended) = elim (cases_lt lead (length held)) [
    | inr ge ↦ omega (arith, ge, within)
    | inl lt ↦
        let before : open_from held at ≤ lead =
        rest_before held (terminator_of (header_at held at)) lead lt unended.0 (no_terminator unended.1) (at + 106)
        (omega (arith, stands.behind, order)) in
        absurd (omega (arith, before, closed, lt))
  ]

  pub inside_all : lead ≡ length held
  inside_all = by_cause short

-- what is held of a file that stands apart
module _ (front held : List ℕ) (n : ℕ) (whole : IsWholeBefore front held n) (apart : StandsApart (front ++ held)) where
  abbrev by : ℕ
  by = length front

  abbrev file : List ℕ
  file = front ++ held

  size : length file ≡ by + length held
  size = length-append front held

  none_begins : (q : ℕ) → q < length held → may_begin held q ≡ false
  none_begins q lt = ap is_begun (sym (drop_past front held q)) ∙ apart.fit.ends (by + q) (omega (arith, lt, size))

  closed_back : (x : Extent) → IsClosed file (moved_extent by x) → IsClosed held x
  closed_back x closed is =
      let t : ℕ = terminator_of (header_at held x.start) in
      let there : open_from file (by + x.start) ≡ length file = closed (omega (arith, is, size)) in
      let place : by + x.start + 106 ≡ by + (x.start + 106) = omega arith in
      let moved : open_from file (by + x.start) ≡ by + (rest_from held t (x.start + 106)).start =
      ap (λ (h : List ℕ). (rest_from file (terminator_of h) (by + x.start + 106)).start) (header_past front held x.start)
      ∙ ap (λ (k : ℕ). (rest_from file t k).start) place
      ∙ ap (λ (s : Seg). s.start) (rest_past front held t (x.start + 106)) in
      omega (arith, there, moved, size)

  all_back : (xs : List Extent) → All (IsClosed file) (map (moved_extent by) xs) → All (IsClosed held) xs
  all_back [] all = All-nil (IsClosed held)
  all_back (x ∷ xs) all =
      All-cons (IsClosed held) x xs (closed_back x (All-head (IsClosed file) (moved_extent by x) (map (moved_extent by) xs) all))
      (all_back xs (All-tail (IsClosed file) (moved_extent by x) (map (moved_extent by) xs) all))

  closed_held : IsClosedFile held
  closed_held xs chain =
      let before = whole [] in
      let moved : List Extent = map (moved_extent by) xs in
      let text : front ++ (held ++ []) ≡ file = ap (λ (l : List ℕ). front ++ l) (append-nil held) in
      let first : ChainUpTo file 0 by before.0 = subst (λ (l : List ℕ). ChainUpTo l 0 by before.0) text before.1 in
      let place : by + 0 ≡ by = omega arith in
      let second : ChainUpTo file by (by + length held) moved =
      subst (λ (k : ℕ). ChainUpTo file k (by + length held) moved) place
      (chain_past front held 0 (length held) xs (chain_up_to_end held 0 xs (omega arith) chain)) in
      let both : ChainUpTo file 0 (length file) (before.0 ++ moved) =
      subst (λ (k : ℕ). ChainUpTo file 0 k (before.0 ++ moved)) (sym size)
      (chain_joined file 0 by (by + length held) before.0 moved first second) in
      all_back xs (later_of_all (IsClosed file) before.0 moved
      (apart.closed (before.0 ++ moved) (chain_ends file 0 (before.0 ++ moved) both)))

  pub held_apart : IsHeldApart held
  held_apart = record { ends = none_begins; closed = closed_held }
