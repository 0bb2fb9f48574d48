-- The text of an argument without NUL is marked exactly where the argument isn't UTF-8.
use Rattle.std.proofs.Common.{◌≡◌, ◌∙◌, ℕ, ◌-◌, Bool, true, false, List, [], ◌∷◌, ◌++◌, cond, not, length, drop, refl, ap, arith}
use Rattle.std.specs.Prelude.{◌==◌, eqb}
use Rattle.std.specs.Cmp.Lexicographic.{pointwise}
use Rattle.std.specs.List.{All}
use Rattle.std.specs.Str.{is_utf8}
use Rattle.std.proofs.Math.Seq.{drop-append_seam}
use Rattle.std.proofs.lemmas.Grind.{common_steps}
use Rattle.std.proofs.lemmas.Bool.Decides.{nat_tests}
use Rattle.std.proofs.lemmas.List.{length-append}
use Rattle.std.proofs.lemmas.List.Elements.{All-head, All-tail}
use Rattle.file_names.specs.Given.{is_marked, marked, marked_bytes, text_of}

abbrev IsOther : ℕ → Type 0
IsOther b = (b == 0) ≡ false

last_nul : (xs : List ℕ) → is_marked (xs ++ 0 ∷ []) ≡ true
last_nul xs =
    let place : length (xs ++ 0 ∷ []) - 1 ≡ length xs = omega (arith, length-append xs (0 ∷ [])) in
    ap (λ (k : ℕ). pointwise eqb (0 ∷ []) (drop k (xs ++ 0 ∷ []))) place
    ∙ ap (pointwise eqb (0 ∷ [])) (drop-append_seam xs (0 ∷ []))

one : (x : ℕ) → IsOther x → pointwise eqb (0 ∷ []) (x ∷ []) ≡ false
one x other = grind (arith, nat_tests)

last_other : (x : ℕ) (xs : List ℕ) → All IsOther (x ∷ xs) → pointwise eqb (0 ∷ []) (drop (length xs) (x ∷ xs)) ≡ false
last_other x [] all = one x (All-head IsOther x [] all)
last_other x (y ∷ ys) all = last_other y ys (All-tail IsOther x (y ∷ ys) all)

no_nul : (xs : List ℕ) → All IsOther xs → is_marked xs ≡ false
no_nul [] all = refl
no_nul (x ∷ xs) all =
    let place : length (x ∷ xs) - 1 ≡ length xs = omega arith in
    ap (λ (k : ℕ). pointwise eqb (0 ∷ []) (drop k (x ∷ xs))) place ∙ last_other x xs all

by_test : (b : Bool) (bytes : List ℕ) → All IsOther bytes → is_marked (cond b bytes (marked bytes)) ≡ not b
by_test true bytes all = no_nul bytes all
by_test false bytes all = last_nul (marked_bytes bytes)

pub marks : (bytes : List ℕ) → All (λ b. (b == 0) ≡ false) bytes → is_marked (text_of bytes) ≡ not (is_utf8 bytes)
marks bytes all = by_test (is_utf8 bytes) bytes all
