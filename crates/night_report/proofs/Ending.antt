-- The lines of a report, one by one: their verdict is that of all.
use Rattle.std.proofs.Common.{ℕ, ◌≡◌, ◌≤◌, Bool, true, false, List, [], ◌∷◌, length, drop, get_or, refl, ap, ◌∙◌, arith, nat_eq}
use Rattle.std.specs.Prelude.{not, ◌&&◌, ◌||◌}
use Rattle.std.specs.List.{list_any}
use Rattle.std.proofs.lemmas.List.Splits.{length-slice_split}
use Rattle.x12_segs.specs.Words.{parts}
use Rattle.night_report.specs.AreClean.{are_clean}
use Rattle.night_report.specs.Clean.{all_but_last, lines_of, last_behind, tells_of_trouble, ends_in_nought, is_clean}

one_more : (tells any ends left : Bool) → left ≡ (not any && ends) → (not tells && left) ≡ (not (tells || any) && ends)
one_more true any ends left h = refl
one_more false any ends left h = h

pub are_clean-lines : (last : List ℕ) (lines : List (List ℕ))
    → are_clean last lines ≡ (not (list_any tells_of_trouble lines) && ends_in_nought (last_behind last lines))
are_clean-lines last [] = refl
are_clean-lines last (line ∷ lines) =
    one_more (tells_of_trouble line) (list_any tells_of_trouble lines) (ends_in_nought (last_behind line lines)) _
    (are_clean-lines line lines)

first_and_rest : (xs : List (List ℕ)) → 1 ≤ length xs → get_or xs 0 [] ∷ drop 1 xs ≡ xs
first_and_rest [] h = absurd (omega arith)
first_and_rest (x ∷ xs) h = refl

-- before the first line the last one is empty
pub begins : (report line : List ℕ) (left : List (List ℕ)) → line ≡ get_or (parts 10 report) 0 [] → left ≡ drop 1 (parts 10 report)
    → are_clean [] (all_but_last (line ∷ left)) ≡ is_clean report
begins report line left first rest =
    let some : 1 ≤ length (parts 10 report) = omega (arith, length-slice_split (λ b. nat_eq b 10) report) in
    let whole : line ∷ left ≡ parts 10 report = rw (first, rest) (first_and_rest (parts 10 report) some) in
    ap (λ (xs : List (List ℕ)). are_clean [] (all_but_last xs)) whole ∙ are_clean-lines [] (lines_of report)
