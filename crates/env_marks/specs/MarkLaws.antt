-- X12.6, segment: the marks of pieces keep the laws: the parts of a text that is cut are those of both pieces, the last of the first
-- and the first of the second being one.
pub use Rattle.cut_plan.proofs.ForAbove.{range-split}
use Rattle.std.specs.Prelude.{◌≡◌, ℕ, ◌+◌, ◌-◌, ◌≤◌, ◌<◌, List, [], ◌∷◌, ◌++◌, length, Bool, true, false, map, slice_range, drop}
use Rattle.std.specs.List.{slice_split, onto_first}
use Rattle.std.proofs.Common.{append_assoc, arith, ap, sym, refl, ◌∙◌, cond, nat_eq}
use Rattle.std.proofs.lemmas.List.{map-append, length-append, length-take-le, length-drop}
use Rattle.std.proofs.lemmas.List.Splits.{length-slice_split}
use Rattle.x12_bytes.specs.declared.pair.Pair.{Pair}
use Rattle.x12_segs.specs.Words.{parts, Seg, part_at, segs_of}
use Rattle.x12_segs.proofs.ForAbove.{span_of, span-split, segs_of-cons}
use Rattle.env_marks.specs.declared.frag.Mark.{Mark}
use Rattle.env_marks.specs.Frags.{frag_of, both_frags, marks_in}
use Rattle.env_marks.specs.FragLaws.{frag_of-append, both_frags-assoc, marks_in-part}
use Rattle.env_marks.specs.Laws.{PieceLaws}
use Rattle.env_marks.specs.Marking.{Marking, Uncut, Cut, MarksValue, mark_of, last_of, marking_of, marks_of, joined_markings, joined_marks}

joined-assoc : (x y z : Marking) → joined_markings (joined_markings x y) z ≡ joined_markings x (joined_markings y z)
joined-assoc (Uncut f) (Uncut g) (Uncut h) = ap (λ k. Uncut k) (both_frags-assoc f g h)
joined-assoc (Uncut f) (Uncut g) (Cut h zs n) = ap (λ k. Cut k zs n) (both_frags-assoc f g h)
joined-assoc (Uncut f) (Cut g ys m) (Uncut h) = refl
joined-assoc (Uncut f) (Cut g ys m) (Cut h zs n) = refl
joined-assoc (Cut f xs l) (Uncut g) (Uncut h) = ap (λ k. Cut f xs k) (both_frags-assoc l g h)
joined-assoc (Cut f xs l) (Uncut g) (Cut h zs n) = ap (λ k. Cut f (xs ++ (marks_in k ++ zs)) n) (both_frags-assoc l g h)
joined-assoc (Cut f xs l) (Cut g ys m) (Uncut h) = refl
joined-assoc (Cut f xs l) (Cut g ys m) (Cut h zs n) =
    ap (λ k. Cut f k n)
    (append_assoc xs (marks_in (both_frags l g) ++ ys) (marks_in (both_frags m h) ++ zs)
    ∙ ap (λ (r : List Mark). xs ++ r) (append_assoc (marks_in (both_frags l g)) ys (marks_in (both_frags m h) ++ zs)))

-- the parts of two texts, the last of the first and the first of the second being one
glue : List (List ℕ) → List (List ℕ) → List (List ℕ)
glue [] qs = qs
glue (p ∷ []) [] = p ∷ []
glue (p ∷ []) (q ∷ qs) = (p ++ q) ∷ qs
glue (p ∷ r ∷ ps) qs = p ∷ glue (r ∷ ps) qs

glue-empty : (qs : List (List ℕ)) → 0 < length qs → glue ([] ∷ []) qs ≡ qs
unfolding glue
glue-empty [] h = absurd (omega (arith, h))
glue-empty (q ∷ qs) h = refl

glue-step : (b : Bool) (x : ℕ) (ps qs : List (List ℕ)) → 0 < length ps
    → cond b ([] ∷ glue ps qs) (onto_first x (glue ps qs)) ≡ glue (cond b ([] ∷ ps) (onto_first x ps)) qs
unfolding glue
glue-step b x [] qs h = absurd (omega (arith, h))
glue-step true x (p ∷ ps) qs h = refl
glue-step false x (p ∷ []) [] h = refl
glue-step false x (p ∷ []) (q ∷ qs) h = refl
glue-step false x (p ∷ r ∷ ps) qs h = refl

some_parts : (t : ℕ → Bool) (xs : List ℕ) → 0 < length (slice_split t xs)
some_parts t xs = omega (arith, length-slice_split t xs)

split-append : (t : ℕ → Bool) (xs ys : List ℕ) → slice_split t (xs ++ ys) ≡ glue (slice_split t xs) (slice_split t ys)
split-append t [] ys = sym (glue-empty (slice_split t ys) (some_parts t ys))
split-append t (x ∷ xs) ys =
    ap (λ (l : List (List ℕ)). cond (t x) ([] ∷ l) (onto_first x l)) (split-append t xs ys)
    ∙ glue-step (t x) x (slice_split t xs) (slice_split t ys) (some_parts t xs)

glue-some : (ps qs : List (List ℕ)) → 0 < length ps → 0 < length (glue ps qs)
unfolding glue
glue-some [] qs h = absurd (omega (arith, h))
glue-some (p ∷ []) [] h = omega arith
glue-some (p ∷ []) (q ∷ qs) h = omega arith
glue-some (p ∷ r ∷ ps) qs h = omega arith

-- a last part is added to
segs-glue_one : (ps : List (List ℕ)) (place : ℕ) (q : List ℕ) → 0 < length ps → segs_of place (glue ps (q ∷ [])) ≡ segs_of place ps
unfolding glue
segs-glue_one [] place q h = absurd (omega (arith, h))
segs-glue_one (p ∷ []) place q h = refl
segs-glue_one (p ∷ r ∷ ps) place q h =
    segs_of-cons place p (glue (r ∷ ps) (q ∷ [])) (glue-some (r ∷ ps) (q ∷ []) (omega arith))
    ∙ ap (λ (s : List Seg). part_at place p ++ s) (segs-glue_one (r ∷ ps) (place + length p + 1) q (omega arith))

last-cons : (e place : ℕ) (p : List ℕ) (more : List (List ℕ)) → 0 < length more
    → last_of e place (p ∷ more) ≡ last_of e (place + length p + 1) more
last-cons e place p [] h = absurd (omega (arith, h))
last-cons e place p (r ∷ more) h = refl

last-glue_one : (ps : List (List ℕ)) (e place at : ℕ) (q : List ℕ) → 0 < length ps → place + span_of ps ≡ at + 1
    → last_of e place (glue ps (q ∷ [])) ≡ both_frags (last_of e place ps) (frag_of e at q)
unfolding glue
last-glue_one [] e place at q h s = absurd (omega (arith, h))
last-glue_one (p ∷ []) e place at q h s =
    frag_of-append e place p q
    ∙ ap (λ n. both_frags (frag_of e place p) (frag_of e n q)) (let i : place + length p ≡ at = omega (arith, s) in i)
last-glue_one (p ∷ r ∷ ps) e place at q h s =
    last-cons e place p (glue (r ∷ ps) (q ∷ [])) (glue-some (r ∷ ps) (q ∷ []) (omega arith))
    ∙ last-glue_one (r ∷ ps) e (place + length p + 1) at q (omega arith) (omega (arith, s))

-- a part continues over the cut, and ends after it
marks-glue : (ps : List (List ℕ)) (e place at : ℕ) (q r : List ℕ) (rs : List (List ℕ)) → 0 < length ps → place + span_of ps ≡ at + 1
    → map (mark_of e) (segs_of place (glue ps (q ∷ r ∷ rs)))
    ≡ map (mark_of e) (segs_of place ps)
    ++ (marks_in (both_frags (last_of e place ps) (frag_of e at q)) ++ map (mark_of e) (segs_of (at + length q + 1) (r ∷ rs)))
unfolding glue
marks-glue [] e place at q r rs h s = absurd (omega (arith, h))
marks-glue (p ∷ []) e place at q r rs h s =
    let i : place + length p ≡ at = omega (arith, s) in
    let j : place + length (p ++ q) + 1 ≡ at + length q + 1 = omega (arith, s, length-append p q) in
    let whole : List Mark = map (mark_of e) (segs_of (at + length q + 1) (r ∷ rs)) in
    map-append (mark_of e) (part_at place (p ++ q)) (segs_of (place + length (p ++ q) + 1) (r ∷ rs))
    ∙ ap (λ n. map (mark_of e) (part_at place (p ++ q)) ++ map (mark_of e) (segs_of n (r ∷ rs))) j
    ∙ ap (λ (m : List Mark). m ++ whole) (sym (marks_in-part e place (p ++ q)))
    ∙ ap (λ f. marks_in f ++ whole) (frag_of-append e place p q)
    ∙ ap (λ n. marks_in (both_frags (frag_of e place p) (frag_of e n q)) ++ whole) i
marks-glue (p ∷ p' ∷ ps) e place at q r rs h s =
    let next : ℕ = place + length p + 1 in
    let more : List (List ℕ) = p' ∷ ps in
    let front : List Mark = map (mark_of e) (part_at place p) in
    let behind : List Mark
    = marks_in (both_frags (last_of e next more) (frag_of e at q)) ++ map (mark_of e) (segs_of (at + length q + 1) (r ∷ rs)) in
    ap (map (mark_of e)) (segs_of-cons place p (glue more (q ∷ r ∷ rs)) (glue-some more (q ∷ r ∷ rs) (omega arith)))
    ∙ map-append (mark_of e) (part_at place p) (segs_of next (glue more (q ∷ r ∷ rs)))
    ∙ ap (λ (m : List Mark). front ++ m) (marks-glue (p' ∷ ps) e next at q r rs (omega arith) (omega (arith, s)))
    ∙ sym (append_assoc front (map (mark_of e) (segs_of next more)) behind)
    ∙ ap (λ (m : List Mark). m ++ behind) (sym (map-append (mark_of e) (part_at place p) (segs_of next more)))

last-glue : (ps : List (List ℕ)) (e place at : ℕ) (q r : List ℕ) (rs : List (List ℕ)) → 0 < length ps → place + span_of ps ≡ at + 1
    → last_of e place (glue ps (q ∷ r ∷ rs)) ≡ last_of e (at + length q + 1) (r ∷ rs)
unfolding glue
last-glue [] e place at q r rs h s = absurd (omega (arith, h))
last-glue (p ∷ []) e place at q r rs h s =
    ap (λ n. last_of e n (r ∷ rs)) (let j : place + length (p ++ q) + 1 ≡ at + length q + 1 = omega (arith, s, length-append p q) in j)
last-glue (p ∷ p' ∷ ps) e place at q r rs h s =
    last-cons e place p (glue (p' ∷ ps) (q ∷ r ∷ rs)) (glue-some (p' ∷ ps) (q ∷ r ∷ rs) (omega arith))
    ∙ last-glue (p' ∷ ps) e (place + length p + 1) at q r rs (omega arith) (omega (arith, s))

marking-cons : (e place : ℕ) (p : List ℕ) (more : List (List ℕ)) → 0 < length more
    → marking_of e place (p ∷ more)
    ≡ Cut (frag_of e place p) (map (mark_of e) (segs_of (place + length p + 1) more)) (last_of e (place + length p + 1) more)
marking-cons e place p [] h = absurd (omega (arith, h))
marking-cons e place p (r ∷ more) h = refl

marking-glue : (ps qs : List (List ℕ)) (e place at : ℕ) → 0 < length ps → 0 < length qs → place + span_of ps ≡ at + 1
    → marking_of e place (glue ps qs) ≡ joined_markings (marking_of e place ps) (marking_of e at qs)
unfolding glue
marking-glue [] qs e place at h k s = absurd (omega (arith, h))
marking-glue (p ∷ ps) [] e place at h k s = absurd (omega (arith, k))
marking-glue (p ∷ []) (q ∷ []) e place at h k s =
    ap (λ f. Uncut f) (frag_of-append e place p q)
    ∙ ap (λ n. Uncut (both_frags (frag_of e place p) (frag_of e n q))) (let i : place + length p ≡ at = omega (arith, s) in i)
marking-glue (p ∷ []) (q ∷ r ∷ rs) e place at h k s =
    let i : place + length p ≡ at = omega (arith, s) in
    let j : place + length (p ++ q) + 1 ≡ at + length q + 1 = omega (arith, s, length-append p q) in
    ap (λ n. Cut (frag_of e place (p ++ q)) (map (mark_of e) (segs_of n (r ∷ rs))) (last_of e n (r ∷ rs))) j
    ∙ ap (λ f. Cut f (map (mark_of e) (segs_of (at + length q + 1) (r ∷ rs))) (last_of e (at + length q + 1) (r ∷ rs)))
    (frag_of-append e place p q)
    ∙ ap (λ n. Cut (both_frags (frag_of e place p) (frag_of e n q)) (map (mark_of e) (segs_of (at + length q + 1) (r ∷ rs)))
    (last_of e (at + length q + 1) (r ∷ rs))) i
marking-glue (p ∷ p' ∷ ps) (q ∷ []) e place at h k s =
    let next : ℕ = place + length p + 1 in
    let more : List (List ℕ) = p' ∷ ps in
    marking-cons e place p (glue more (q ∷ [])) (glue-some more (q ∷ []) (omega arith))
    ∙ ap (λ (l : List Seg). Cut (frag_of e place p) (map (mark_of e) l) (last_of e next (glue more (q ∷ []))))
    (segs-glue_one more next q (omega arith))
    ∙ ap (λ f. Cut (frag_of e place p) (map (mark_of e) (segs_of next more)) f)
    (last-glue_one more e next at q (omega arith) (omega (arith, s)))
marking-glue (p ∷ p' ∷ ps) (q ∷ r ∷ rs) e place at h k s =
    let next : ℕ = place + length p + 1 in
    let more : List (List ℕ) = p' ∷ ps in
    marking-cons e place p (glue more (q ∷ r ∷ rs)) (glue-some more (q ∷ r ∷ rs) (omega arith))
    ∙ ap (λ (l : List Mark). Cut (frag_of e place p) l (last_of e next (glue more (q ∷ r ∷ rs))))
    (marks-glue (p' ∷ ps) e next at q r rs (omega arith) (omega (arith, s)))
    ∙ ap (λ f. Cut (frag_of e place p) (map (mark_of e) (segs_of next more)
    ++ (marks_in (both_frags (last_of e next more) (frag_of e at q)) ++ map (mark_of e) (segs_of (at + length q + 1) (r ∷ rs)))) f)
    (last-glue more e next at q r rs (omega arith) (omega (arith, s)))

length-range : (text : List ℕ) (a b : ℕ) → a ≤ b → b ≤ length text → length (slice_range text a b) ≡ b - a
length-range text a b h l = length-take-le (b - a) (drop a text) (omega (arith, length-drop a text, h, l))

value_with : Pair → Marking → MarksValue
value_with pair marking = record { pair = pair; marking = marking }

pub marks_both : (pair : Pair) (text : List ℕ) (a b c : ℕ) → a ≤ b → b ≤ c → c ≤ length text
    → joined_marks (marks_of pair text a b) (marks_of pair text b c) ≡ marks_of pair text a c
unfolding value_with
marks_both pair text a b c h k l =
    let t : ℕ → Bool = λ x. nat_eq x pair.terminator in
    let ps : List (List ℕ) = parts pair.terminator (slice_range text a b) in
    let qs : List (List ℕ) = parts pair.terminator (slice_range text b c) in
    let long : length (slice_range text a b) ≡ b - a = length-range text a b h (omega (arith, k, l)) in
    let span : span_of ps ≡ length (slice_range text a b) + 1 = span-split t (slice_range text a b) in
    let whole : parts pair.terminator (slice_range text a c) ≡ glue ps qs =
    ap (parts pair.terminator) (range-split text a b c h k) ∙ split-append t (slice_range text a b) (slice_range text b c) in
    sym (ap (λ (r : List (List ℕ)). value_with pair (marking_of pair.element a r)) whole
    ∙ ap (value_with pair) (marking-glue ps qs pair.element a b (some_parts t (slice_range text a b)) (some_parts t (slice_range text b c))
    (omega (arith, span, long, h))))

pub marks_laws : PieceLaws marks_of joined_marks
unfolding value_with
marks_laws = record {
  empty_left = λ u text a b h l. marks_both u text a a b (omega arith) h l;
  empty_right = λ u text a b h l. marks_both u text a b b h (omega arith) l;
  assoc = λ x y z. ap (value_with x.pair) (joined-assoc x.marking y.marking z.marking);
  both = marks_both;
}
