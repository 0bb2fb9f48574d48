-- Which elements of a segment are written.
use Rattle.std.proofs.Common.{◌≡◌, ℕ, ◌+◌, ◌-◌, ◌<◌, ◌≤◌, List, [], ◌∷◌, ◌++◌, length, take, get_or, map, refl, sym, ap, ◌∙◌, arith, Bor}
use Rattle.std.proofs.lemmas.List.{take_more, get_or-map, length-map, map_more, append_assoc}
use Rattle.std.proofs.Math.Seq.{take-length}
use Rattle.std.specs.Prelude.{All}
use Rattle.x12_write.specs.Segment.{read, before_rest, trimmed}

-- an empty element at the end is left off
pub trimmed-push_empty : (elements : List (List ℕ)) → trimmed (elements ++ [] ∷ []) ≡ trimmed elements
trimmed-push_empty [] = refl
trimmed-push_empty (x ∷ xs) = ap (before_rest x) (trimmed-push_empty xs)

pub before_rest-some : (x y : List ℕ) (ys : List (List ℕ)) → before_rest x (y ∷ ys) ≡ x ∷ y ∷ ys
before_rest-some [] y ys = refl
before_rest-some (b ∷ bs) y ys = refl

-- before an element that isn't empty, nothing is left off
pub trimmed-push_full : (elements : List (List ℕ)) (last : List ℕ) → 0 < length last
    → trimmed (elements ++ last ∷ []) ≡ elements ++ last ∷ []
trimmed-push_full [] [] full = absurd (omega (arith, full))
trimmed-push_full [] (b ∷ bs) full = refl
trimmed-push_full (x ∷ []) last full = ap (before_rest x) (trimmed-push_full [] last full) ∙ before_rest-some x last []
trimmed-push_full (x ∷ y ∷ ys) last full = ap (before_rest x) (trimmed-push_full (y ∷ ys) last full)
    ∙ before_rest-some x y (ys ++ last ∷ [])

-- nor before codes, where there is one and each has a text
pub trimmed-append_codes : {C : Type 0} (text : C → List ℕ) (elements : List (List ℕ)) (codes : List C) → 0 < length codes
    → All (λ code. 0 < length (text code)) codes
    → trimmed (elements ++ map text codes) ≡ elements ++ map text codes
trimmed-append_codes text elements [] some full = absurd (omega (arith, some))
trimmed-append_codes {C} text elements (code ∷ codes) some full =
    let k : ℕ = length codes in
    let lt : k < length (code ∷ codes) = omega arith in
    let long : k + 1 ≡ length (code ∷ codes) = omega arith in
    let last : List ℕ = text (get_or (code ∷ codes) k code) in
    let front : List (List ℕ) = elements ++ map text (take k (code ∷ codes)) in
    let whole : take (k + 1) (code ∷ codes) ≡ code ∷ codes = ap (λ (n : ℕ). take n (code ∷ codes)) long ∙ take-length (code ∷ codes) in
    let split : map text (code ∷ codes) ≡ map text (take k (code ∷ codes)) ++ last ∷ [] = ap (map text) (sym whole)
    ∙ map_more text (code ∷ codes) k code lt in
    let parts : elements ++ map text (code ∷ codes) ≡ front ++ last ∷ [] =
    ap (λ (s : List (List ℕ)). elements ++ s) split ∙ sym (append_assoc elements (map text (take k (code ∷ codes))) (last ∷ [])) in
    ap trimmed parts ∙ trimmed-push_full front last (full k code lt) ∙ sym parts

-- the read elements up to one more
pub take-read-more : (elements : List (Bor (List ℕ))) (k : ℕ) (d : Bor (List ℕ)) → k < length elements
    → take (k + 1) (read elements) ≡ take k (read elements) ++ (get_or elements k d).now ∷ []
take-read-more elements k d lt =
    let long : length (read elements) ≡ length elements = length-map elements (λ element. element.now) in
    let within : k < length (read elements) = omega arith in
    take_more (read elements) k [] within
    ∙ ap (λ (x : List ℕ). take k (read elements) ++ x ∷ []) (get_or-map (λ element. element.now) elements k d [] lt)

nothing : (x : List ℕ) → length x ≡ 0 → x ≡ []
nothing [] h = refl
nothing (b ∷ bs) h = absurd (omega (arith, h))

-- an empty last element is passed over
pub trimmed-take_empty : (elements : List (Bor (List ℕ))) (end : ℕ) (d : Bor (List ℕ)) → 0 < end → end ≤ length elements
    → length (get_or elements (end - 1) d).now ≡ 0
    → trimmed (take end (read elements)) ≡ trimmed (take (end - 1) (read elements))
trimmed-take_empty elements end d some within empty =
    let n : end - 1 + 1 ≡ end = omega arith in
    let more = take-read-more elements (end - 1) d (omega arith) in
    ap (λ (k : ℕ). trimmed (take k (read elements))) (sym n) ∙ ap trimmed more
    ∙ ap (λ (x : List ℕ). trimmed (take (end - 1) (read elements) ++ x ∷ [])) (nothing (get_or elements (end - 1) d).now empty)
    ∙ trimmed-push_empty (take (end - 1) (read elements))

-- one that isn't empty ends the search
pub trimmed-take_full : (elements : List (Bor (List ℕ))) (end : ℕ) (d : Bor (List ℕ)) → 0 < end → end ≤ length elements
    → 0 < length (get_or elements (end - 1) d).now
    → trimmed (take end (read elements)) ≡ take end (read elements)
trimmed-take_full elements end d some within full =
    let n : end - 1 + 1 ≡ end = omega arith in
    let more = take-read-more elements (end - 1) d (omega arith) in
    ap (λ (k : ℕ). trimmed (take k (read elements))) (sym n) ∙ ap trimmed more
    ∙ trimmed-push_full (take (end - 1) (read elements)) (get_or elements (end - 1) d).now full
    ∙ sym more ∙ ap (λ (k : ℕ). take k (read elements)) n

-- up to an element that isn't empty nothing is left off, whatever stands after it
pub trimmed-behind : (front : List (List ℕ)) (last : List ℕ) (rest : List (List ℕ)) → 0 < length last
    → trimmed (front ++ last ∷ rest) ≡ front ++ last ∷ trimmed rest
trimmed-behind [] [] rest full = absurd (omega (arith, full))
trimmed-behind [] (b ∷ bs) rest full = refl
trimmed-behind (x ∷ []) last rest full = ap (before_rest x) (trimmed-behind [] last rest full) ∙ before_rest-some x last (trimmed rest)
trimmed-behind (x ∷ y ∷ ys) last rest full =
    ap (before_rest x) (trimmed-behind (y ∷ ys) last rest full) ∙ before_rest-some x y (ys ++ last ∷ trimmed rest)
