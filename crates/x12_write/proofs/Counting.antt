-- The end of a trailer, in one piece.
use Rattle.std.proofs.Common.{◌≡◌, ℕ, ◌-◌, ◌<◌, ◌^◌, List, [], ◌∷◌, ◌++◌, length, sym, ap, ◌∙◌, arith, append_assoc, length-append}
use Rattle.std.specs.Prelude.{decimal, replicate}
use Rattle.std.specs.List.{flat_map}
use Rattle.std.proofs.lemmas.Fmt.{decimal_nonempty}
use Rattle.x12_write.specs.Number.{padded_number}
use Rattle.x12_write.specs.Segment.{trimmed}
use Rattle.x12_write.proofs.Trimming.{trimmed-behind}

-- a number has a digit
pub one-digit : (n : ℕ) → n < 2 ^ 64 → padded_number 1 n ≡ decimal n
one-digit n fits =
    let some = decimal_nonempty n fits in
    let none : 1 - length (decimal n) ≡ 0 = omega (arith, some) in
    ap (λ (k : ℕ). replicate k 48 ++ decimal n) none

padded-nonempty : (least n : ℕ) → n < 2 ^ 64 → 0 < length (padded_number least n)
padded-nonempty least n fits =
    let some = decimal_nonempty n fits in
    let long = length-append (replicate (least - length (decimal n)) 48) (decimal n) in
    omega (arith, some, long)

-- a count and a number, each after a separator
pub counted-text : (s t count n least : ℕ) → count < 2 ^ 64 → n < 2 ^ 64
    → s ∷ (padded_number 1 count ++ (s ∷ (padded_number least n ++ t ∷ [])))
    ≡ flat_map (λ x. s ∷ x) (trimmed (decimal count ∷ padded_number least n ∷ [])) ++ t ∷ []
counted-text s t count n least fits_count fits =
    let number : List ℕ = padded_number least n in
    ap (λ (x : List ℕ). s ∷ (x ++ (s ∷ (number ++ t ∷ [])))) (one-digit count fits_count)
    ∙ sym (ap (λ (x : List ℕ). s ∷ x)
    (append_assoc (decimal count) (s ∷ (number ++ [])) (t ∷ [])
    ∙ ap (λ (x : List ℕ). decimal count ++ (s ∷ x)) (append_assoc number [] (t ∷ []))))
    ∙ ap (λ (xs : List (List ℕ)). flat_map (λ x. s ∷ x) xs ++ t ∷ [])
    (sym (trimmed-behind (decimal count ∷ []) number [] (padded-nonempty least n fits)))
