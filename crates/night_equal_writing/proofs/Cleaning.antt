-- Whether a report is clean is asked alike by the definition and by the layers.
use Rattle.std.proofs.Common.{◌≡◌, ℕ, zero, suc, ◌+◌, ◌-◌, List, [], ◌∷◌, Bool, true, false, not, ◌&&◌, ◌||◌, length, take, codes, bytes_eq}
use Rattle.std.proofs.Common.{slice_index_or, refl, sym, ap, ◌∙◌, arith}
use Rattle.std.specs.List.{list_any}
use Rattle.x12_segs.specs.Words.{parts}
use Rattle.night_report.specs.Clean.{all_but_last, last_behind, last_of, tells_of_trouble, words_of}
use Rattle.night_report.specs.Clean as then
use Rattle.night_definition.specs.SetupFile.{is_clean}

less_one : (n : ℕ) → suc n - 1 ≡ n
less_one n = omega arith

but_last : (x : List ℕ) (xs : List (List ℕ)) → take (length xs) (x ∷ xs) ≡ all_but_last (x ∷ xs)
but_last x [] = refl
but_last x (y ∷ xs) = ap (λ (ls : List (List ℕ)). x ∷ ls) (but_last y xs)

front_is : (xs : List (List ℕ)) → take (length xs - 1) xs ≡ all_but_last xs
front_is [] = refl
front_is (x ∷ xs) = ap (λ n. take n (x ∷ xs)) (less_one (length xs)) ∙ but_last x xs

last_from : (x : List ℕ) (xs : List (List ℕ)) → slice_index_or (x ∷ xs) (length xs) [] ≡ last_behind x xs
last_from x [] = refl
last_from x (y ∷ xs) = last_from y xs

last_is : (xs : List (List ℕ)) → slice_index_or xs (length xs - 1) [] ≡ last_of xs
last_is [] = refl
last_is (x ∷ xs) = ap (λ n. slice_index_or (x ∷ xs) n []) (less_one (length xs)) ∙ last_from x xs

-- the last of some texts, as the definition has it
abbrev at_end : List (List ℕ) → List ℕ
at_end xs = slice_index_or xs (length xs - 1) []

pub clean_is : (report : List ℕ) → is_clean report ≡ then.is_clean report
clean_is report =
    let lines : List (List ℕ) = all_but_last (parts 10 report) in
    let free : Bool = not (list_any tells_of_trouble lines) in
    ap (λ (ls : List (List ℕ)). not (list_any tells_of_trouble ls) && bytes_eq (at_end (words_of (at_end ls))) (codes "0"))
    (front_is (parts 10 report))
    ∙ ap (λ (line : List ℕ). free && bytes_eq (at_end (words_of line)) (codes "0")) (last_is lines)
    ∙ ap (λ (word : List ℕ). free && bytes_eq word (codes "0")) (last_is (words_of (last_of lines)))
