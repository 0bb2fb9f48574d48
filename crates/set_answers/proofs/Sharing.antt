-- What threads report group by group is what is reported of all.
use Rattle.std.proofs.Common.{◌≡◌, ℕ, suc, ◌+◌, List, [], ◌∷◌, ◌++◌, length, map, refl, ap, ◌∙◌, subst, arith}
use Rattle.std.proofs.Common.{Err, IfOk, MatchResult, Ok, Option, Result, Some, None}
use Rattle.std.specs.Prelude.{slice_get}
use Rattle.std.specs.List.{AllZip, range_with_len}
use Rattle.x12_bytes.specs.declared.delims.Delims.{Delims}
use Rattle.x12_write.specs.Group.{texts_in_row}
use Rattle.set_answers.specs.declared.answered.AnsweredGroup.{AnsweredGroup}
use Rattle.set_answers.specs.Acknowledgments.{present, reports_from}
use Rattle.set_answers.specs.Shares.{numbers_from, report_of, written_from}

pub numbers_length : (n : ℕ) (xs : List (Option AnsweredGroup)) → length (numbers_from n xs) ≡ length xs
numbers_length n [] = refl
numbers_length n (None ∷ xs) = ap suc (numbers_length n xs)
numbers_length n (Some x ∷ xs) = ap suc (numbers_length (n + 1) xs)

pub in_row : (d : Delims) (n : ℕ) (xs : List (Option AnsweredGroup))
    → texts_in_row (written_from d n xs) ≡ texts_in_row (reports_from d n (present xs))
in_row d n [] = refl
in_row d n (None ∷ xs) = in_row d n xs
in_row d n (Some x ∷ xs) = ap (λ (t : List ℕ). report_of d n (Some x) ++ t) (in_row d (n + 1) xs)

module _ (E : Type 0) (d : Delims) (numbers : List ℕ) (groups : List (Option AnsweredGroup)) where
  -- what a call for a place gives
  abbrev pub IsMade : ℕ → Result (List ℕ) E → Type 0
  IsMade i r = IfOk r (λ v. (n : ℕ) (g : Option AnsweredGroup) → slice_get numbers i ≡ Some n → slice_get groups i ≡ Some g
      → v ≡ report_of d n g)

  by_places : (a n : ℕ) (xs : List (Option AnsweredGroup)) (ps : List (List ℕ))
      → ((j : ℕ) → slice_get numbers (a + j) ≡ slice_get (numbers_from n xs) j)
      → ((j : ℕ) → slice_get groups (a + j) ≡ slice_get xs j)
      → AllZip {B = Result (List ℕ) E} IsMade (range_with_len a (length xs)) (map Ok ps) → ps ≡ written_from d n xs
  by_places a n [] [] at there made = refl
  by_places a n [] (p ∷ ps) at there made = absurd made
  by_places a n (x ∷ xs) [] at there made = absurd made
  by_places a n (None ∷ xs) (p ∷ ps) at there made =
      let first : p ≡ [] = made.0 n None (ap (slice_get numbers) (omega arith) ∙ at 0) (ap (slice_get groups) (omega arith) ∙ there 0) in
      let rest = by_places (a + 1) n xs ps (λ j. ap (slice_get numbers) (omega arith) ∙ at (suc j))
      (λ j. ap (slice_get groups) (omega arith) ∙ there (suc j)) made.1 in
      λ i. first i ∷ rest i
  by_places a n (Some x ∷ xs) (p ∷ ps) at there made =
      let first : p ≡ report_of d n (Some x) =
      made.0 n (Some x) (ap (slice_get numbers) (omega arith) ∙ at 0) (ap (slice_get groups) (omega arith) ∙ there 0) in
      let rest = by_places (a + 1) (n + 1) xs ps (λ j. ap (slice_get numbers) (omega arith) ∙ at (suc j))
      (λ j. ap (slice_get groups) (omega arith) ∙ there (suc j)) made.1 in
      λ i. first i ∷ rest i

  -- what a gathering answers
  pub gathering_gives : {V F : Type 0} (items : V → List (List ℕ)) (rs : List (Result (List ℕ) E)) (r : Result V F) (Q : F → Type 0)
      → numbers ≡ numbers_from 1 groups
      → MatchResult r (λ v. (ys : List (List ℕ)) × (rs ≡ map Ok ys) × (items v ≡ ys)) Q
      → AllZip {B = Result (List ℕ) E} IsMade (range_with_len 0 (length groups)) rs
      → IfOk r (λ v. items v ≡ written_from d 1 groups)
  gathering_gives {V} {F} items rs (Ok v) Q are given made =
      given.2 ∙ by_places 0 1 groups given.0 (λ j. ap (slice_get numbers) (omega arith) ∙ ap (λ (ns : List ℕ). slice_get ns j) are)
      (λ j. ap (slice_get groups) (omega arith))
      (subst (λ (l : List (Result (List ℕ) E)). AllZip {B = Result (List ℕ) E} IsMade (range_with_len 0 (length groups)) l) given.1 made)
  gathering_gives {V} {F} items rs (Err e) Q are given made = tt
