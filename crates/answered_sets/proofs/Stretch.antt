-- What no byte of a set's span is, no byte of its segments is.
use Rattle.std.proofs.Common.{◌≡◌, ℕ, zero, suc, ◌+◌, ◌∙◌, List, [], ◌∷◌, Bool, true, false, ◌||◌, cond, length, take, drop, refl}
use Rattle.std.specs.Prelude.{◌==◌, map}
use Rattle.std.specs.List.{list_any, slice_split, onto_first, prefix_len}
use Rattle.std.proofs.lemmas.List.Folds.{list_any-append}
use Rattle.x12_bytes.specs.Bytes.{is_line_end}
use Rattle.x12_bytes.specs.declared.delims.Delims.{Delims}
use Rattle.x12_segs.specs.Words.{parts, Seg, part_at, segs_of, without_line_ends, span_segs, span_views, SegValue, view_of}
use Rattle.x12_segs.specs.declared.set_span.SetSpan.{SetSpan}

pub neither : (a b : Bool) → (a || b) ≡ false → (a ≡ false) × (b ≡ false)
neither true b h = cc
neither false b h = (refl, h)

pub nor : (a b : Bool) → a ≡ false → b ≡ false → (a || b) ≡ false
nor true b g h = cc
nor false b g h = h

pub none_dropped : {X : Type 0} (p : X → Bool) (n : ℕ) (xs : List X) → list_any p xs ≡ false → list_any p (drop n xs) ≡ false
none_dropped p zero xs h = h
none_dropped p (suc n) [] h = refl
none_dropped p (suc n) (x ∷ xs) h = none_dropped p n xs (neither (p x) (list_any p xs) h).1

pub none_taken : {X : Type 0} (p : X → Bool) (n : ℕ) (xs : List X) → list_any p xs ≡ false → list_any p (take n xs) ≡ false
none_taken p zero xs h = refl
none_taken p (suc n) [] h = refl
none_taken p (suc n) (x ∷ xs) h =
    let e = neither (p x) (list_any p xs) h in
    nor (p x) (list_any p (take n xs)) e.0 (none_taken p n xs e.1)

-- the parts of a text
none_onto : (p : ℕ → Bool) (x : ℕ) (list : List (List ℕ)) → p x ≡ false → list_any (list_any p) list ≡ false
    → list_any (list_any p) (onto_first x list) ≡ false
none_onto p x [] e h = nor (p x || false) false (nor (p x) false e refl) refl
none_onto p x (part ∷ more) e h =
    let s = neither (list_any p part) (list_any (list_any p) more) h in
    nor (p x || list_any p part) (list_any (list_any p) more) (nor (p x) (list_any p part) e s.0) s.1

pub none_divided : (p q : ℕ → Bool) (xs : List ℕ) → list_any p xs ≡ false → list_any (list_any p) (slice_split q xs) ≡ false
none_divided p q [] h = refl
none_divided p q (x ∷ xs) h =
    let e = neither (p x) (list_any p xs) h in
    elim (q x) as (λ b. list_any (list_any p) (cond b ([] ∷ slice_split q xs) (onto_first x (slice_split q xs))) ≡ false) [
      | true ↦ none_divided p q xs e.1
      | false ↦ none_onto p x (slice_split q xs) e.0 (none_divided p q xs e.1)
    ]

-- the segments of parts
none_in_part : (p : ℕ → Bool) (place : ℕ) (part : List ℕ) → list_any p part ≡ false
    → list_any (λ (s : Seg). list_any p s.bytes) (part_at place part) ≡ false
none_in_part p place part h =
    elim (prefix_len is_line_end part == length part)
    as (λ b. list_any (λ (s : Seg). list_any p s.bytes) (cond b [] (without_line_ends place part ∷ [])) ≡ false) [
      | true ↦ refl
      | false ↦ nor (list_any p (drop (prefix_len is_line_end part) part)) false
          (none_dropped p (prefix_len is_line_end part) part h) refl
    ]

none_in_parts : (p : ℕ → Bool) (place : ℕ) (list : List (List ℕ)) → list_any (list_any p) list ≡ false
    → list_any (λ (s : Seg). list_any p s.bytes) (segs_of place list) ≡ false
none_in_parts p place [] h = refl
none_in_parts p place (rest ∷ []) h = refl
none_in_parts p place (part ∷ next ∷ more) h =
    let e = neither (list_any p part) (list_any (list_any p) (next ∷ more)) h in
    let test = λ (s : Seg). list_any p s.bytes in
    let later = segs_of (place + length part + 1) (next ∷ more) in
    list_any-append test (part_at place part) later
    ∙ nor (list_any test (part_at place part)) (list_any test later) (none_in_part p place part e.0)
    (none_in_parts p (place + length part + 1) (next ∷ more) e.1)

none_viewed : (p : ℕ → Bool) (d : Delims) (segs : List Seg) → list_any (λ (s : Seg). list_any p s.bytes) segs ≡ false
    → list_any (λ (s : SegValue). list_any p s.bytes) (map (view_of d) segs) ≡ false
none_viewed p d [] h = refl
none_viewed p d (s ∷ segs) h =
    let e = neither (list_any p s.bytes) (list_any (λ (s : Seg). list_any p s.bytes) segs) h in
    nor (list_any p s.bytes) (list_any (λ (s : SegValue). list_any p s.bytes) (map (view_of d) segs)) e.0 (none_viewed p d segs e.1)

pub none_in_span : (text : List ℕ) (span : SetSpan) (p : ℕ → Bool) → list_any p (drop span.start (take span.end text)) ≡ false
    → list_any (λ (s : SegValue). list_any p s.bytes) (span_views text span) ≡ false
none_in_span text span p h =
    let stretch = drop span.start (take span.end text) in
    none_viewed p span.delims (span_segs text span)
    (none_in_parts p span.start (parts span.delims.terminator stretch)
    (none_divided p (λ b. b == span.delims.terminator) stretch h))
