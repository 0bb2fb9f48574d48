-- A text that is cut after a terminator: the segments before the cut, and those after it.
use Rattle.std.proofs.Common.{ℕ, ◌≡◌, ◌<◌, ◌+◌, ◌-◌, Bool, true, false, cond, List, [], ◌∷◌, ◌++◌, length, map, take, drop, get_or}
use Rattle.std.proofs.Common.{slice_range, refl, sym, ap, ◌∙◌, add-one, arith, drop-cons, nat_eq, rules}
use Rattle.std.specs.List.{slice_split, onto_first, prefix_len}
use Rattle.std.proofs.lemmas.List.{append_assoc, drop-drop, get_or-drop, length-append, length-drop, length-take-le, map-append}
use Rattle.std.proofs.lemmas.List.{take-append-drop, take_more}
use Rattle.std.proofs.lemmas.List.Splits.{length-slice_split, slice_split-cons_yes}
use Rattle.x12_bytes.specs.Bytes.{is_line_end}
use Rattle.x12_segs.specs.Parts.{parts}
use Rattle.x12_segs.specs.Segs.{Seg, part_at, segs_of, segs_from, rest_of, rest_from}
use Rattle.x12_segs.specs.Runs.{moved_by}
use Rattle.x12_segs.proofs.SegLemmas.{segs_of-cons, rest_of-cons}

split-append_step : (b : Bool) (x : ℕ) (list qs : List (List ℕ)) → 0 < length list
    → cond b ([] ∷ (list ++ qs)) (onto_first x (list ++ qs)) ≡ cond b ([] ∷ list) (onto_first x list) ++ qs
split-append_step true x list qs h = refl
split-append_step false x [] qs h = absurd (omega (arith, h))
split-append_step false x (part ∷ list) qs h = refl

split-append : (p : ℕ → Bool) (xs : List ℕ) (y : ℕ) (ys : List ℕ) → p y ≡ true
    → slice_split p (xs ++ y ∷ ys) ≡ slice_split p xs ++ slice_split p ys
split-append p [] y ys h = slice_split-cons_yes p y ys h
split-append p (x ∷ xs) y ys h =
    ap (λ list. cond (p x) ([] ∷ list) (onto_first x list)) (split-append p xs y ys h)
    ∙ split-append_step (p x) x (slice_split p xs) (slice_split p ys) (omega (arith, length-slice_split p xs))

-- how many bytes parts take up, a separator after each
abbrev pub span_of : List (List ℕ) → ℕ
span_of [] = 0
span_of (part ∷ more) = length part + 1 + span_of more

span-split_step : (b : Bool) (x n : ℕ) (list : List (List ℕ)) → span_of list ≡ n + 1
    → span_of (cond b ([] ∷ list) (onto_first x list)) ≡ n + 1 + 1
span-split_step true x n list h = omega (arith, h)
span-split_step false x n [] h = omega (arith, h)
span-split_step false x n (part ∷ list) h = omega (arith, h)

pub span-split : (p : ℕ → Bool) (xs : List ℕ) → span_of (slice_split p xs) ≡ length xs + 1
span-split p [] = omega arith
span-split p (x ∷ xs) = span-split_step (p x) x (length xs) (slice_split p xs) (span-split p xs) ∙ (omega arith)

-- the segments of parts, up to one part and from it on
segs_of-append : (place : ℕ) (ps qs : List (List ℕ)) → 0 < length qs
    → segs_of place (ps ++ qs) ≡ segs_of place (ps ++ [] ∷ []) ++ segs_of (place + span_of ps) qs
segs_of-append place [] qs some = ap (λ n. segs_of n qs) (let e : place ≡ place + 0 = omega arith in e)
segs_of-append place (part ∷ ps) qs some =
    let next : ℕ = place + length part + 1 in
    let left : segs_of place (part ∷ (ps ++ qs))
    ≡ part_at place part ++ segs_of next (ps ++ qs) = segs_of-cons place part (ps ++ qs) (omega (arith, length-append ps qs)) in
    let right : segs_of place (part ∷ (ps ++ [] ∷ []))
    ≡ part_at place part ++ segs_of next (ps ++ [] ∷ []) = segs_of-cons place part (ps ++ [] ∷ [])
    (omega (arith, length-append ps ([] ∷ []))) in
    let ends : next + span_of ps ≡ place + (length part + 1 + span_of ps) = omega arith in
    left ∙ ap (λ (s : List Seg). part_at place part ++ s) (segs_of-append next ps qs some)
    ∙ sym (append_assoc (part_at place part) (segs_of next (ps ++ [] ∷ [])) (segs_of (next + span_of ps) qs))
    ∙ ap (λ (s : List Seg). s ++ segs_of (next + span_of ps) qs) (sym right)
    ∙ ap (λ n. segs_of place (part ∷ (ps ++ [] ∷ [])) ++ segs_of n qs) ends

-- the segments of parts that begin further on
part_at-moved : (s place : ℕ) (part : List ℕ) → part_at (s + place) part ≡ map (moved_by s) (part_at place part)
part_at-moved s place part =
    let lead : ℕ = prefix_len is_line_end part in
    let further : s + place + lead ≡ s + (place + lead) = omega arith in
    elim (nat_eq lead (length part)) as
    (λ b. cond b [] ((let seg : Seg = record { start = s + place + lead; bytes = drop lead part } in seg) ∷ [])
    ≡ map (moved_by s) (cond b [] ((let seg : Seg = record { start = place + lead; bytes = drop lead part } in seg) ∷ []))) [
      | true ↦ refl
      | false ↦ ap (λ n. (let seg : Seg = record { start = n; bytes = drop lead part } in seg) ∷ []) further
    ]

pub segs_of-moved : (s place : ℕ) (ps : List (List ℕ)) → segs_of (s + place) ps ≡ map (moved_by s) (segs_of place ps)
segs_of-moved s place [] = refl
segs_of-moved s place (rest ∷ []) = refl
segs_of-moved s place (part ∷ next ∷ more) =
    let further : s + place + length part + 1 ≡ s + (place + length part + 1) = omega arith in
    ap (λ (seg : List Seg). seg ++ segs_of (s + place + length part + 1) (next ∷ more)) (part_at-moved s place part)
    ∙ ap (λ n. map (moved_by s) (part_at place part) ++ segs_of n (next ∷ more)) further
    ∙ ap (λ (seg : List Seg). map (moved_by s) (part_at place part) ++ seg) (segs_of-moved s (place + length part + 1) (next ∷ more))
    ∙ sym (map-append (moved_by s) (part_at place part) (segs_of (place + length part + 1) (next ∷ more)))

parts-append : (t : ℕ) (xs ys : List ℕ) → parts t (xs ++ t ∷ ys) ≡ parts t xs ++ parts t ys
parts-append t xs ys = split-append (λ b. nat_eq b t) xs t ys (let yes : nat_eq t t ≡ true = search rules in yes)

-- a list round one of its elements
round_element : (l : List ℕ) (n : ℕ) → n < length l → l ≡ take n l ++ get_or l n 0 ∷ drop (n + 1) l
round_element l n lt = sym (take-append-drop n l) ∙ ap (λ (r : List ℕ). take n l ++ r) (rw add-one (drop-cons l n 0 lt))

-- a text that is cut after a terminator
pub segs_from-cut : (text : List ℕ) (t s n : ℕ) → s + n < length text → get_or text (s + n) 0 ≡ t
    → segs_from text t s ≡ segs_of s (parts t (slice_range text s (s + n + 1))) ++ segs_from text t (s + n + 1)
segs_from-cut text t s n below is =
    let rest : List ℕ = drop s text in
    let xs : List ℕ = take n rest in
    let ys : List ℕ = drop (n + 1) rest in
    let ps : List (List ℕ) = parts t xs in
    let qs : List (List ℕ) = parts t ys in
    let room : length rest ≡ length text - s = length-drop s text in
    let at : get_or rest n 0 ≡ t = get_or-drop s text n 0 ∙ is in
    let whole : rest ≡ xs ++ t ∷ ys = round_element rest n (omega arith) ∙ ap (λ (b : ℕ). xs ++ b ∷ ys) at in
    let front : slice_range text s (s + n + 1) ≡ xs ++ t ∷ [] =
    ap (λ k. take k rest) (let width : s + n + 1 - s ≡ n + 1 = omega arith in width) ∙ take_more rest n 0 (omega arith)
    ∙ ap (λ (b : ℕ). xs ++ b ∷ []) at in
    let front_parts : parts t (slice_range text s (s + n + 1)) ≡ ps ++ [] ∷ [] = ap (parts t) front ∙ parts-append t xs [] in
    let long : length xs ≡ n = length-take-le n rest (omega arith) in
    let end : s + span_of ps ≡ s + n + 1 = omega (arith, span-split (λ b. nat_eq b t) xs) in
    let behind : ys ≡ drop (s + n + 1) text = drop-drop (n + 1) s text
    ∙ ap (λ k. drop k text) (let sum : s + (n + 1) ≡ s + n + 1 = omega arith in sum) in
    ap (λ (l : List ℕ). segs_of s (parts t l)) whole
    ∙ ap (segs_of s) (parts-append t xs ys)
    ∙ segs_of-append s ps qs (omega (arith, length-slice_split (λ b. nat_eq b t) ys))
    ∙ ap (λ (l : List (List ℕ)). segs_of s l ++ segs_of (s + span_of ps) qs) (sym front_parts)
    ∙ ap (λ k. segs_of s (parts t (slice_range text s (s + n + 1))) ++ segs_of k qs) end
    ∙ ap (λ (l : List ℕ). segs_of s (parts t (slice_range text s (s + n + 1))) ++ segs_of (s + n + 1) (parts t l)) behind

-- the rest of parts, from one part on
rest_of-append : (place : ℕ) (ps qs : List (List ℕ)) → 0 < length qs → rest_of place (ps ++ qs) ≡ rest_of (place + span_of ps) qs
rest_of-append place [] qs some = ap (λ n. rest_of n qs) (let e : place ≡ place + 0 = omega arith in e)
rest_of-append place (part ∷ ps) qs some =
    let next : ℕ = place + length part + 1 in
    let ends : next + span_of ps ≡ place + (length part + 1 + span_of ps) = omega arith in
    rest_of-cons place part (ps ++ qs) (omega (arith, length-append ps qs))
    ∙ rest_of-append next ps qs some ∙ ap (λ n. rest_of n qs) ends

-- the rest of a text that is cut after a terminator is that after the cut
pub rest_from-cut : (text : List ℕ) (t s n : ℕ) → s + n < length text → get_or text (s + n) 0 ≡ t
    → rest_from text t s ≡ rest_from text t (s + n + 1)
rest_from-cut text t s n below is =
    let rest : List ℕ = drop s text in
    let xs : List ℕ = take n rest in
    let ys : List ℕ = drop (n + 1) rest in
    let room : length rest ≡ length text - s = length-drop s text in
    let at : get_or rest n 0 ≡ t = get_or-drop s text n 0 ∙ is in
    let whole : rest ≡ xs ++ t ∷ ys = round_element rest n (omega arith) ∙ ap (λ (b : ℕ). xs ++ b ∷ ys) at in
    let long : length xs ≡ n = length-take-le n rest (omega arith) in
    let end : s + span_of (parts t xs) ≡ s + n + 1 = omega (arith, span-split (λ b. nat_eq b t) xs) in
    let behind : ys ≡ drop (s + n + 1) text = drop-drop (n + 1) s text
    ∙ ap (λ k. drop k text) (let sum : s + (n + 1) ≡ s + n + 1 = omega arith in sum) in
    ap (λ (l : List ℕ). rest_of s (parts t l)) whole
    ∙ ap (rest_of s) (parts-append t xs ys)
    ∙ rest_of-append s (parts t xs) (parts t ys) (omega (arith, length-slice_split (λ b. nat_eq b t) ys))
    ∙ ap (λ k. rest_of k (parts t ys)) end
    ∙ ap (λ (l : List ℕ). rest_of (s + n + 1) (parts t l)) behind
