-- The marks of a piece, from an offset after a terminator on, are the segments that follow the offset in the text.
use Rattle.std.proofs.Common.{◌≡◌, ℕ, ◌+◌, ◌-◌, ◌≤◌, ◌<◌, List, [], ◌∷◌, ◌++◌, length, Some, None, Option, take, drop, map, get_or, sym}
use Rattle.std.proofs.Common.{ap, ◌∙◌, arith, subst, refl, nat_eq, zero, suc, inl, inr}
use Rattle.std.specs.Prelude.{slice_range}
use Rattle.std.proofs.lemmas.List.{take-take, drop-take, length-take-le, length-drop, map-append, append_cancel_right}
use Rattle.std.proofs.lemmas.List.{get_or-take, length-append, length-map}
use Rattle.std.proofs.lemmas.Bool.{cases_lt}
use Rattle.std.proofs.Props.{props}
use Rattle.std.proofs.Math.Logic.{∥∥₁_elim, ∥∥₁_map}
use Rattle.memchr.specs.Find.{IsFirstByte, is_byte}
use Rattle.x12_segs.specs.Words.{parts, Seg, seg_at, segs_of, segs_from, rest_from, segs_within, IsNextPart, LiesIn}
use Rattle.x12_segs.specs.declared.part.Part.TheVariants.{Segment}
use Rattle.x12_segs.proofs.ForAbove.{segs_from-cut, rest_from-cut, span_of, span-split, IsFirstSeg, first_seg, first_byte, StandInOrder}
use Rattle.x12_segs.proofs.ForAbove.{segs_in_order, parts-none}
use Rattle.env_marks.specs.declared.frag.Mark.{Mark}
use Rattle.env_marks.specs.Marking.{Marking, MarksValue, mark_of, last_of, marking_of}
use Rattle.env_marks.specs.Shown.{first_shown, end_shown, list_shown}
use Rattle.env_marks.proofs.ForAbove.{IsPartCut, part_found, marking_found}
use Rattle.env_index.specs.Known.{AreMarks, AreNext, IsDivided, no_mark}

-- a text cut off at an offset
range_within : (text : List ℕ) (a c b : ℕ) → a ≤ c → c ≤ b → slice_range (take b text) a c ≡ slice_range text a c
range_within text a c b h k =
    let e : b ≡ a + (b - a) = omega arith in
    ap (λ n. take (c - a) (drop a (take n text))) e
    ∙ ap (take (c - a)) (drop-take a (b - a) text)
    ∙ take-take (c - a) (b - a) (drop a text) (omega arith)

drop_within : (text : List ℕ) (a b : ℕ) → a ≤ b → drop a (take b text) ≡ slice_range text a b
drop_within text a b h =
    let e : b ≡ a + (b - a) = omega arith in
    ap (λ n. drop a (take n text)) e ∙ drop-take a (b - a) text

-- the first segment that ends before an offset is the first of the whole text
pub record IsKnownFirst (text : List ℕ) (t at b : ℕ) (s : Seg) (ss : List Seg) : Type 0 where
  pub lies : LiesIn at (length text) (Segment s.start (s.start + length s.bytes))
  pub next : IsNextPart text t at (Segment s.start (s.start + length s.bytes))
  pub inside : s.start + length s.bytes + 1 ≤ b
  pub behind : segs_within text t (s.start + length s.bytes + 1) b ≡ ss

known_first : (text : List ℕ) (t at b : ℕ) (s : Seg) (ss : List Seg) → at ≤ b → b ≤ length text
    → segs_within text t at b ≡ s ∷ ss → IsKnownFirst text t at b s ss
known_first text t at b s ss h l is =
    let short : List ℕ = take b text in
    let long : length short ≡ b = length-take-le b text l in
    let first : IsFirstSeg short t at s ss = first_seg (length short - at) short t at s ss (omega arith) (omega (arith, long)) is in
    let start : at ≤ s.start = first.start in
    let some : 0 < length s.bytes = first.some in
    let end : s.start + length s.bytes < length short = first.end in
    let stop : ℕ = s.start + length s.bytes in
    let below : stop < b = omega (arith, end, long) in
    let n : ℕ = stop - at in
    let place : at + n ≡ stop = omega arith in
    let byte : get_or text stop 0 ≡ t = sym (get_or-take b text stop 0 below) ∙ first.terminated in
    let here : List Seg = segs_of at (parts t (slice_range text at (stop + 1))) in
    let cut : segs_from text t at ≡ here ++ segs_from text t (stop + 1)
    = subst (λ k. segs_from text t at ≡ segs_of at (parts t (slice_range text at (k + 1))) ++ segs_from text t (k + 1)) place
    (segs_from-cut text t at n (omega arith) (ap (λ k. get_or text k 0) place ∙ byte)) in
    let cut_short : segs_from short t at ≡ segs_of at (parts t (slice_range short at (stop + 1))) ++ segs_from short t (stop + 1)
    = subst (λ k. segs_from short t at ≡ segs_of at (parts t (slice_range short at (k + 1))) ++ segs_from short t (k + 1)) place
    (segs_from-cut short t at n (omega (arith, end)) (ap (λ k. get_or short k 0) place ∙ first.terminated)) in
    let same : slice_range short at (stop + 1) ≡ slice_range text at (stop + 1)
    = range_within text at (stop + 1) b (omega arith) (omega arith) in
    let both : here ++ ss ≡ (s ∷ []) ++ ss =
    ap (λ (l : List Seg). here ++ l) (sym first.behind)
    ∙ ap (λ (bytes : List ℕ). segs_of at (parts t bytes) ++ segs_from short t (stop + 1)) (sym same)
    ∙ sym cut_short ∙ is in
    let one : here ≡ s ∷ [] = append_cancel_right here (s ∷ []) ss both in
    let bytes : s ≡ seg_at text s.start stop = first.is
    ∙ ap (λ (bs : List ℕ). (let seg : Seg = record { start = s.start; bytes = bs } in seg))
    (range_within text s.start stop b (omega arith) (omega arith)) in
    record {
      lies = (start, omega arith, omega arith);
      next = (
        cut ∙ ap (λ (l : List Seg). l ++ segs_from text t (stop + 1)) (one ∙ ap (λ (q : Seg). q ∷ []) bytes),
        subst (λ k. rest_from text t at ≡ rest_from text t (k + 1)) place
            (rest_from-cut text t at n (omega arith) (ap (λ k. get_or text k 0) place ∙ byte)),
      );
      inside = omega arith;
      behind = first.behind;
    }

known_within : (ss : List Seg) (text : List ℕ) (t at b e : ℕ) → at ≤ b → b ≤ length text → segs_within text t at b ≡ ss
    → AreNext text t at (map (mark_of e) ss)
known_within [] text t at b e h l is = tt
known_within (s ∷ ss) text t at b e h l is =
    let first : IsKnownFirst text t at b s ss = known_first text t at b s ss h l is in
    (first.lies, first.next, known_within ss text t (s.start + length s.bytes + 1) b e first.inside l first.behind)

-- segments in order lie between the ends
in_order_ends : (segs : List Seg) (from : ℕ) (rest : Seg) (len : ℕ) → StandInOrder from segs rest len → from ≤ len
in_order_ends [] from rest len h = omega (arith, h.0, h.1)
in_order_ends (seg ∷ segs) from rest len h =
    omega (arith, h.0, in_order_ends segs (seg.start + length seg.bytes + 1) rest len h.1)

in_order_below : (segs : List Seg) (from : ℕ) (rest : Seg) (len : ℕ) (e : ℕ) → StandInOrder from segs rest len
    → (j : ℕ) → j < length segs → (get_or (map (mark_of e) segs) j no_mark).start < len
in_order_below [] from rest len e h j lt = absurd (omega (arith, lt))
in_order_below (seg ∷ segs) from rest len e h zero lt = omega (arith, in_order_ends segs (seg.start + length seg.bytes + 1) rest len h.1)
in_order_below (seg ∷ segs) from rest len e h (suc j) lt
    = in_order_below segs (seg.start + length seg.bytes + 1) rest len e h.1 j (omega (arith, lt))

in_order_above : (segs : List Seg) (from : ℕ) (rest : Seg) (len : ℕ) (e low : ℕ) → low ≤ from → StandInOrder from segs rest len
    → (j : ℕ) → j < length segs → low ≤ (get_or (map (mark_of e) segs) j no_mark).start
in_order_above [] from rest len e low le h j lt = absurd (omega (arith, lt))
in_order_above (seg ∷ segs) from rest len e low le h zero lt = omega (arith, le, h.0)
in_order_above (seg ∷ segs) from rest len e low le h (suc j) lt =
    in_order_above segs (seg.start + length seg.bytes + 1) rest len e low (omega (arith, le, h.0)) h.1 j (omega (arith, lt))

-- what stands before an offset after a terminator, and what stands after it
pub record IsSplit (text : List ℕ) (t s at b e : ℕ) : Type 0 where
  pub front : List Seg
  pub whole : segs_within text t s b ≡ front ++ segs_within text t at b
  pub below : (j : ℕ) → j < length front → (get_or (map (mark_of e) front) j no_mark).start < at

split_at : (text : List ℕ) (t s at b e : ℕ) → s < at → at ≤ b → b ≤ length text → get_or text (at - 1) 0 ≡ t → IsSplit text t s at b e
split_at text t s at b e h k l byte =
    let short : List ℕ = take b text in
    let long : length short ≡ b = length-take-le b text l in
    let n : ℕ = at - 1 - s in
    let last : s + n ≡ at - 1 = omega arith in
    let next : s + n + 1 ≡ at = omega arith in
    let here : get_or short (s + n) 0 ≡ t = ap (λ p. get_or short p 0) last ∙ get_or-take b text (at - 1) 0 (omega arith) ∙ byte in
    let front : List Seg = segs_of s (parts t (slice_range short s at)) in
    let cut : segs_from short t s ≡ front ++ segs_from short t at
    = subst (λ p. segs_from short t s ≡ segs_of s (parts t (slice_range short s p)) ++ segs_from short t p) next
    (segs_from-cut short t s n (omega arith) here) in
    let order = segs_in_order (take at short) t s (omega (arith, length-take-le at short (omega (arith, long)))) in
    let size : length (take at short) ≡ at = length-take-le at short (omega (arith, long)) in
    let same : segs_from (take at short) t s ≡ front
    = ap (λ (bytes : List ℕ). segs_of s (parts t bytes)) (drop_within short s at (omega arith)) in
    record {
      front = front;
      whole = cut;
      below = in_order_below front s (rest_from (take at short) t s) at e
          (subst (λ (q : List Seg). StandInOrder s q (rest_from (take at short) t s) at) same
          (subst (λ p. StandInOrder s (segs_from (take at short) t s) (rest_from (take at short) t s) p) size order));
    }

split_here : (text : List ℕ) (t at b e : ℕ) → IsSplit text t at at b e
split_here text t at b e = record { front = []; whole = refl; below = λ j lt. absurd (omega (arith, lt)) }

split_behind : (text : List ℕ) (t s at b e : ℕ) → s ≤ at → at ≤ b → b ≤ length text → get_or text (at - 1) 0 ≡ t → IsSplit text t s at b e
split_behind text t s at b e h k l byte = elim (cases_lt s at) [
  | inl lt ↦ split_at text t s at b e lt k l byte
  | inr ge ↦ subst (λ p. IsSplit text t p at b e) (let q : at ≡ s = omega (arith, h, ge) in q) (split_here text t at b e)
]

-- the marks from an offset on
pub record IsKnown (text : List ℕ) (t at : ℕ) (list : List Mark) : Type 0 where
  pub count : ℕ
  pub divided : IsDivided count at list
  pub next : AreNext text t at (drop count list)

get_or-left : (xs ys : List Mark) (j : ℕ) (d : Mark) → j < length xs → get_or (xs ++ ys) j d ≡ get_or xs j d
get_or-left [] ys j d lt = absurd (omega (arith, lt))
get_or-left (x ∷ xs) ys zero d lt = refl
get_or-left (x ∷ xs) ys (suc j) d lt = get_or-left xs ys j d (omega (arith, lt))

get_or-right : (xs ys : List Mark) (j : ℕ) (d : Mark) → length xs ≤ j → get_or (xs ++ ys) j d ≡ get_or ys (j - length xs) d
get_or-right [] ys j d le = ap (λ k. get_or ys k d) (let e : j ≡ j - 0 = omega arith in e)
get_or-right (x ∷ xs) ys zero d le = absurd (omega (arith, le))
get_or-right (x ∷ xs) ys (suc j) d le =
    get_or-right xs ys j d (omega (arith, le))
    ∙ ap (λ k. get_or ys k d) (let e : j - length xs ≡ suc j - suc (length xs) = omega arith in e)

drop_left : (xs ys : List Mark) → drop (length xs) (xs ++ ys) ≡ ys
drop_left [] ys = refl
drop_left (x ∷ xs) ys = drop_left xs ys

known_list : (text : List ℕ) (t s at b e : ℕ) → s ≤ at → at ≤ b → b ≤ length text → get_or text (at - 1) 0 ≡ t
    → IsKnown text t at (map (mark_of e) (segs_within text t s b))
known_list text t s at b e h k l byte =
    let split : IsSplit text t s at b e = split_behind text t s at b e h k l byte in
    let back : List Seg = segs_within text t at b in
    let fronts : List Mark = map (mark_of e) split.front in
    let backs : List Mark = map (mark_of e) back in
    let whole : map (mark_of e) (segs_within text t s b) ≡ fronts ++ backs = ap (map (mark_of e)) split.whole
    ∙ map-append (mark_of e) split.front back in
    let short : List ℕ = take b text in
    let long : length short ≡ b = length-take-le b text l in
    let order = segs_in_order short t at (omega (arith, long)) in
    let many = length-map split.front (mark_of e) in
    let more = length-map back (mark_of e) in
    let sum = length-append fronts backs in
    subst (IsKnown text t at) (sym whole) (record {
      count = length fronts;
      divided = record {
        within = omega (arith, sum);
        before = λ j lt. subst (λ (m : Mark). m.start < at) (sym (get_or-left fronts backs j no_mark lt))
            (split.below j (omega (arith, lt, many)));
        behind = λ j ge lt. subst (λ (m : Mark). at ≤ m.start) (sym (get_or-right fronts backs j no_mark ge))
            (in_order_above back at (rest_from short t at) (length short) e at (omega arith) order (j - length fronts)
            (omega (arith, ge, lt, sum, more)));
      };
      next = subst (AreNext text t at) (sym (drop_left fronts backs)) (known_within back text t at b e k l refl);
    })

-- where the last part ends
last_to : (ps : List (List ℕ)) (e place : ℕ) → 0 < length ps → (last_of e place ps).to + 1 ≡ place + span_of ps
last_to [] e place h = absurd (omega (arith, h))
last_to (p ∷ []) e place h = omega arith
last_to (p ∷ r ∷ ps) e place h = omega (arith, last_to (r ∷ ps) e (place + length p + 1) (omega arith))

-- the marks of a piece, from an offset after a terminator on
abbrev IsKnownOf : List ℕ → ℕ → ℕ → Marking → Type 0
IsKnownOf text t at q = (first_shown q).to < at → at ≤ end_shown q → IsKnown text t at (list_shown q)

known_none : (text : List ℕ) (t at : ℕ) → IsKnown text t at []
known_none text t at = record {
  count = 0;
  divided = record { within = omega arith; before = λ j lt. absurd (omega (arith, lt)); behind = λ j ge lt. absurd (omega (arith, lt)) };
  next = tt;
}

known_of : (text : List ℕ) (e t a b at : ℕ) (r : Option ℕ) → a ≤ b → b ≤ length text → get_or text (at - 1) 0 ≡ t
    → IsFirstByte (is_byte t) (slice_range text a b) r → IsKnownOf text t at (marking_of e a (parts t (slice_range text a b)))
known_of text e t a b at None h l byte none =
    let alone : parts t (slice_range text a b) ≡ slice_range text a b ∷ [] = parts-none t (slice_range text a b) none in
    subst (λ (ps : List (List ℕ)). IsKnownOf text t at (marking_of e a ps)) (sym alone) (λ lt le. known_none text t at)
known_of text e t a b at (Some len) h l byte found =
    let cut : IsPartCut text t a b len = part_found text t a b len found in
    let below : a + len < b = cut.below in
    let s : ℕ = a + len + 1 in
    let width : length (slice_range text a (a + len)) ≡ len = cut.width in
    let behind : List (List ℕ) = parts t (slice_range text s b) in
    let span : span_of behind ≡ length (slice_range text s b) + 1 = span-split (λ x. nat_eq x t) (slice_range text s b) in
    let long : length (slice_range text s b) ≡ b - s = length-take-le (b - s) (drop s text) (omega (arith, length-drop s text, l)) in
    let ends : (last_of e s behind).to + 1 ≡ s + span_of behind = last_to behind e s cut.more in
    let same : segs_within text t s b ≡ segs_of s behind
    = ap (λ (bytes : List ℕ). segs_of s (parts t bytes)) (drop_within text s b (omega arith)) in
    subst (IsKnownOf text t at) (sym (marking_found text e t a b len cut))
    (λ lt le. subst (λ (g : List Seg). IsKnown text t at (map (mark_of e) g)) same
    (known_list text t s at b e (omega (arith, lt, width)) (omega (arith, le, ends, span, long, below)) l byte))

pub known_marks : (text : List ℕ) (m : MarksValue) (t at : ℕ) → AreMarks text m → m.pair.terminator ≡ t → get_or text (at - 1) 0 ≡ t
    → (first_shown m.marking).to < at → at ≤ end_shown m.marking → IsKnown text t at (list_shown m.marking)
known_marks text m t at marks pair byte =
    let same : m.marking ≡ marking_of m.pair.element marks.from (parts m.pair.terminator (slice_range text marks.from marks.to))
    = ap (λ (v : MarksValue). v.marking) marks.is in
    let under = first_byte t (slice_range text marks.from marks.to) in
    subst (IsKnownOf text t at)
    (sym (same ∙ ap (λ n. marking_of m.pair.element marks.from (parts n (slice_range text marks.from marks.to))) pair))
    (known_of text m.pair.element t marks.from marks.to at under.0 marks.order marks.within byte under.1)

-- the first of the marks that follow an offset
next_mark : (text : List ℕ) (t at : ℕ) (list : List Mark) → 0 < length list → AreNext text t at list
    → (let m : Mark = get_or list 0 no_mark in LiesIn at (length text) (Segment m.start m.end)
    × IsNextPart text t at (Segment m.start m.end) × AreNext text t (m.end + 1) (drop 1 list))
next_mark text t at [] some next = absurd (omega (arith, some))
next_mark text t at (m ∷ ms) some next = next

pub first_lies : (text : List ℕ) (t at : ℕ) (list : List Mark) → 0 < length list → ∥ AreNext text t at list ∥₁
    → (let m : Mark = get_or list 0 no_mark in LiesIn at (length text) (Segment m.start m.end))
first_lies text t at list some next = ∥∥₁_elim next (Prim.hlevel props) (λ n. (next_mark text t at list some n).0)

pub first_part : (text : List ℕ) (t at : ℕ) (list : List Mark) → 0 < length list → ∥ AreNext text t at list ∥₁
    → (let m : Mark = get_or list 0 no_mark in IsNextPart text t at (Segment m.start m.end))
first_part text t at list some next = ∥∥₁_elim next (Prim.hlevel props) (λ n. (next_mark text t at list some n).1)

pub first_behind : (text : List ℕ) (t at : ℕ) (list : List Mark) → 0 < length list → ∥ AreNext text t at list ∥₁
    → (let m : Mark = get_or list 0 no_mark in ∥ AreNext text t (m.end + 1) (drop 1 list) ∥₁)
first_behind text t at list some next = ∥∥₁_map next (λ n. (next_mark text t at list some n).2)

-- what is read stands before a terminator
pub read_behind : (text : List ℕ) (t at start end : ℕ) → at ≤ length text → LiesIn at (length text) (Segment start end)
    → IsNextPart text t at (Segment start end) → get_or text (end + 1 - 1) 0 ≡ t
read_behind text t at start end h lies next =
    let seg : Seg = seg_at text start end in
    let first : IsFirstSeg text t at seg (segs_from text t (end + 1)) = first_seg (length text - at) text t at seg
    (segs_from text t (end + 1)) (omega arith) h next.0 in
    let long : length (slice_range text start end) ≡ end - start = length-take-le (end - start) (drop start text)
    (omega (arith, length-drop start text, lies.1, lies.2)) in
    let stop : start + length (slice_range text start end) ≡ end + 1 - 1 = omega (arith, long, lies.1) in
    ap (λ n. get_or text n 0) (sym stop) ∙ first.terminated
