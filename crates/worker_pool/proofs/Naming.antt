-- Answers in the order of their jobs are those of the jobs.
use Rattle.std.proofs.Common.{◌≡◌, ℕ, zero, suc, ◌+◌, List, [], ◌∷◌, ◌++◌, Some, length, map, refl, ap, sym, subst, ◌∙◌}
use Rattle.std.proofs.Common.{arith, length-append}
use Rattle.std.specs.Prelude.{slice_get}
use Rattle.std.specs.List.{All}
use Rattle.std.proofs.lemmas.List.{append_assoc}
use Rattle.std.proofs.lemmas.List.Elements.{All-get_or}
use Rattle.std.proofs.lemmas.Option.{get_or_from_slice_get, slice_get_within}
use Rattle.job_pool.specs.Work.{numbers_from}

at_end : {A : Type 0} (xs ys : List A) (x : A) → slice_get (xs ++ x ∷ ys) (length xs) ≡ Some x
at_end [] ys x = refl
at_end (y ∷ xs) ys x = at_end xs ys x

module _ {D A : Type 0} (number : D → ℕ) (job : D → A) where
  -- each answer is to the job that its number names
  abbrev pub AreOf : List A → List D → Type 0
  AreOf jobs ds = (k : ℕ) (d : D) → slice_get ds k ≡ Some d → slice_get jobs (number d) ≡ Some (job d)

  jobs_from : (a : ℕ) (front jobs : List A) (ds : List D) → length front ≡ a → map number ds ≡ numbers_from a (length jobs)
      → AreOf (front ++ jobs) ds → map job ds ≡ jobs
  jobs_from a front [] [] len numbers each = refl
  jobs_from a front [] (d ∷ ds) len numbers each = cc
  jobs_from a front (j ∷ jobs) [] len numbers each = cc
  jobs_from a front (j ∷ jobs) (d ∷ ds) len numbers each =
      let first : number d ≡ a = cc in
      let rest : map number ds ≡ numbers_from (a + 1) (length jobs) = cc in
      let there : slice_get (front ++ j ∷ jobs) (number d) ≡ Some (job d) = each 0 d refl in
      let place : number d ≡ length front = first ∙ sym len in
      let same : Some j ≡ Some (job d) = sym (at_end front jobs j) ∙ ap (λ (n : ℕ). slice_get (front ++ j ∷ jobs) n) (sym place) ∙ there in
      let is : j ≡ job d = cc in
      ap (λ (x : A). x ∷ map job ds) (sym is)
      ∙ ap (λ (l : List A). j ∷ l)
      (jobs_from (a + 1) (front ++ j ∷ []) jobs ds (length-append front (j ∷ []) ∙ ap (λ (n : ℕ). n + 1) len) rest
      (λ k x at. ap (λ (l : List A). slice_get l (number x)) (append_assoc front (j ∷ []) jobs) ∙ each (suc k) x at))

  pub jobs_are : (jobs : List A) (ds : List D) → map number ds ≡ numbers_from 0 (length jobs) → AreOf jobs ds → map job ds ≡ jobs
  jobs_are jobs ds numbers each = jobs_from 0 [] jobs ds refl numbers each

  -- one more
  pub each_more : (jobs : List A) (ds : List D) (d : D) → slice_get jobs (number d) ≡ Some (job d) → AreOf jobs ds
      → AreOf jobs (ds ++ d ∷ [])
  each_more jobs [] d is each zero x at = let same : d ≡ x = cc in subst (λ (y : D). slice_get jobs (number y) ≡ Some (job y)) same is
  each_more jobs [] d is each (suc k) x at = cc
  each_more jobs (y ∷ ds) d is each zero x at = each 0 x at
  each_more jobs (y ∷ ds) d is each (suc k) x at = each_more jobs ds d is (λ n z e. each (suc n) z e) k x at

pub length_none : {A : Type 0} (xs : List A) → length xs ≡ 0 → xs ≡ []
length_none [] h = refl
length_none (x ∷ xs) h = absurd (omega (arith, h))

-- what is so of each element is so of the one at a place
pub each_at : {A : Type 0} (P : A → Type 0) (xs : List A) (i : ℕ) (x : A) → slice_get xs i ≡ Some x → All P xs → P x
each_at P xs i x at all =
    subst P (get_or_from_slice_get xs i x x at) (All-get_or P xs i x (slice_get_within xs i x at) all)
