-- What a test leaves of a text passes it.
use Rattle.std.proofs.Common.{◌≡◌, Bool, true, false, ℕ, List, [], ◌∷◌, Result, Ok, Err, IfOk, cond, filter, refl, subst, sym}
use Rattle.std.proofs.lemmas.List.Elements.{All-cons, All-nil}
use Rattle.std.specs.List.{All}
use Rattle.system_io.specs.Words.{is_sign}

abbrev IsSign : ℕ → Type 0
IsSign byte = is_sign byte ≡ true

one_left : (b : Bool) (x : ℕ) (xs : List ℕ) → (b ≡ true → IsSign x) → All IsSign xs → All IsSign (cond b (x ∷ xs) xs)
one_left true x xs is rest = All-cons IsSign x xs (is refl) rest
one_left false x xs is rest = rest

signs_left : (bytes : List ℕ) → All IsSign (filter is_sign bytes)
signs_left [] = All-nil IsSign
signs_left (x ∷ xs) = one_left (is_sign x) x (filter is_sign xs) (λ is. is) (signs_left xs)

pub line_of_signs : {E : Type 0} (bytes : List ℕ) (line : Result (List ℕ) E) → IfOk line (λ l. l ≡ filter is_sign bytes)
    → IfOk line (λ l. All (λ byte. is_sign byte ≡ true) l)
line_of_signs bytes (Ok l) is = subst (λ (l : List ℕ). All IsSign l) (sym is) (signs_left bytes)
line_of_signs bytes (Err error) is = tt
