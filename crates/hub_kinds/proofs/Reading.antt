-- A code, read from its text: the first of a list that has the text.
use Rattle.std.proofs.Common.{ℕ, ◌≡◌, ◌↔◌, ◌+◌, ◌<◌, length, get_or, zero, suc, Bool, true, false, cond, List, [], ◌∷◌, drop, slice_get}
use Rattle.std.proofs.Common.{find, bytes_eq, Option, Some, refl, sym, ap, ◌∙◌, arith}
use Rattle.std.specs.Prelude.{unwrap_or}
use Rattle.std.proofs.lemmas.Option.{none-some, slice_get-get_or}
use Rattle.std.proofs.lemmas.Slice.Eq.{bytes_eq-Decides}

same_some : {A : Type 0} (a b : A) → Some a ≡ Some b → a ≡ b
same_some a b h = ap (λ o. unwrap_or o a) h

module _ {C : Type 0} (text : C → List ℕ) where
  found-by : (bytes : List ℕ) (c : C) (rest : Option C) (code : C) (b : Bool) → bytes_eq (text c) bytes ≡ b
      → cond b (Some c) rest ≡ Some code
      → (rest ≡ Some code → bytes ≡ text code) → bytes ≡ text code
  found-by bytes c rest code true is found later = sym ((bytes_eq-Decides (text c) bytes).0 is) ∙ ap text (same_some c code found)
  found-by bytes c rest code false is found later = later found

  -- what is found has the text
  has_text : (bytes : List ℕ) (cs : List C) (code : C) → find (λ other. bytes_eq (text other) bytes) cs ≡ Some code → bytes ≡ text code
  has_text bytes [] code found = absurd (none-some code found)
  has_text bytes (c ∷ cs) code found =
      found-by bytes c (find (λ other. bytes_eq (text other) bytes) cs) code (bytes_eq (text c) bytes) refl found (has_text bytes cs code)

  -- where each code is found by its text, no other text gives it
  pub read_back : (bytes : List ℕ) (cs : List C) → ((code : C) → find (λ other. bytes_eq (text other) (text code)) cs ≡ Some code)
      → (r : Option C) → find (λ other. bytes_eq (text other) bytes) cs ≡ r → (code : C) → (r ≡ Some code) ↔ (bytes ≡ text code)
  read_back bytes cs each r is code = (
    λ found. has_text bytes cs code (is ∙ found),
    λ same. sym is ∙ ap (λ (b : List ℕ). find (λ other. bytes_eq (text other) b) cs) same ∙ each code,
  )

-- the first that passes, from one place of a list on
find-drop : {A : Type 0} (p : A → Bool) (xs : List A) (i : ℕ) (x : A) → slice_get xs i ≡ Some x
    → find p (drop i xs) ≡ cond (p x) (Some x) (find p (drop (i + 1) xs))
find-drop p [] i x is = absurd (none-some x is)
find-drop p (y ∷ ys) zero x is = ap (λ z. cond (p z) (Some z) (find p ys)) (same_some y x is)
find-drop p (y ∷ ys) (suc i) x is =
    let next : suc (i + 1) ≡ suc i + 1 = omega arith in
    find-drop p ys i x is ∙ ap (λ k. cond (p x) (Some x) (find p (drop k (y ∷ ys)))) next

pub find-at : {A : Type 0} (p : A → Bool) (xs : List A) (i : ℕ) (x : A) → i < length xs → x ≡ get_or xs i x
    → find p (drop i xs) ≡ cond (p x) (Some x) (find p (drop (i + 1) xs))
find-at p xs i x below is = find-drop p xs i x (slice_get-get_or xs i x below ∙ ap (λ y. Some y) (sym is))
