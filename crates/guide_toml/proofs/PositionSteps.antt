-- Positions read two digits at a time.
use Rattle.std.proofs.Common.{◌≡◌, ℕ, ◌+◌, ◌<◌, ◌≤◌, List, [], ◌∷◌, ◌++◌, length, get_or, drop, Some, None}
use Rattle.std.proofs.Common.{option_map, sym, ap, ◌∙◌, arith}
use Rattle.std.proofs.lemmas.List.{drop_more, drop_all}
use Rattle.guide_toml.specs.Entries.{position_of, positions_of}
use Rattle.toml_keys.proofs.ForAbove.{adds}

two_digits : (ds : List ℕ) (from : ℕ) → from + 1 < length ds
    → drop from ds ≡ get_or ds from 0 ∷ get_or ds (from + 1) 0 ∷ drop (from + 2) ds
two_digits ds from h =
    let e : from + 1 + 1 ≡ from + 2 = omega arith in
    drop_more ds from 0 (omega arith) ∙ ap (λ (x : List ℕ). get_or ds from 0 ∷ x)
    (drop_more ds (from + 1) 0 h ∙ ap (λ (n : ℕ). get_or ds (from + 1) 0 ∷ drop n ds) e)

pub one_position : (done ds : List ℕ) (from p : ℕ) → from + 1 < length ds
    → position_of (get_or ds from 0) (get_or ds (from + 1) 0) ≡ Some p
    → option_map (λ ps. done ++ ps) (positions_of (drop from ds)) ≡ positions_of ds
    → option_map (λ ps. (done ++ p ∷ []) ++ ps) (positions_of (drop (from + 2) ds)) ≡ positions_of ds
one_position done ds from p h e a =
    adds done p (position_of (get_or ds from 0) (get_or ds (from + 1) 0)) (positions_of (drop (from + 2) ds))
    (positions_of ds) e
    (ap (λ (x : List ℕ). option_map (λ ps. done ++ ps) (positions_of x)) (sym (two_digits ds from h)) ∙ a)

pub one_digit_left : (done ds : List ℕ) (from : ℕ) → from < length ds → length ds ≤ from + 1
    → option_map (λ ps. done ++ ps) (positions_of (drop from ds)) ≡ positions_of ds → positions_of ds ≡ None
one_digit_left done ds from h l a =
    sym a ∙ ap (λ (x : List ℕ). option_map (λ ps. done ++ ps) (positions_of x))
    (drop_more ds from 0 h ∙ ap (λ (x : List ℕ). get_or ds from 0 ∷ x) (drop_all (from + 1) ds l))
