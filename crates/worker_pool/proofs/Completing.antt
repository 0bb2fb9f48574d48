-- Where each job is answered in its order and each place recorded once, all is done.
use Rattle.std.proofs.Common.{◌≡◌, ◌==◌, ◌≢◌, ℕ, zero, suc, ◌+◌, ◌<◌, ◌≤◌, Bool, List, [], ◌∷◌, length, map}
use Rattle.std.proofs.Common.{if◌then◌else◌, refl, sym, ap, subst, ◌∙◌, ⊎_elim, arith}
use Rattle.std.proofs.lemmas.Bool.{cases_eq, cases_lt, eq-eqb, le-ltb, lt-ltb, ne_eqb}
use Rattle.std.proofs.lemmas.List.{length-map}
use Rattle.claim_desk.specs.Seats.{EachOnce, times}
use Rattle.hub_kinds.specs.declared.place.Place.{Place}
use Rattle.job_pool.specs.Work.{numbers_from}
use Rattle.work_core.specs.Complete.{AreOnce, Complete, job_places}
use Rattle.worker_pool.specs.Jobs.{place_of, slot_of}
use Rattle.worker_pool.specs.declared.job.CheckJob.{CheckJob}

abbrev one_if : Bool → ℕ
one_if b = if◌then◌else◌ {A = ℕ} b 1 0

-- numbers from a on: none below, each of so many once, none above
low : (x a k : ℕ) → x < a → times x (numbers_from a k) ≡ 0
low x a zero h = refl
low x a (suc k) h =
    let r = low x (a + 1) k (omega arith) in
    let z : one_if (x == a) ≡ 0 = ap one_if (ne_eqb x a (λ e. omega (arith, h, e))) in omega arith

high : (x a k : ℕ) → a + k ≤ x → times x (numbers_from a k) ≡ 0
high x a zero h = refl
high x a (suc k) h =
    let r = high x (a + 1) k (omega arith) in
    let z : one_if (x == a) ≡ 0 = ap one_if (ne_eqb x a (λ e. omega (arith, h, e))) in omega arith

inside : (x a k : ℕ) → a ≤ x → x < a + k → times x (numbers_from a k) ≡ 1
inside x a zero h l = absurd (omega arith)
inside x a (suc k) h l = ⊎_elim
    (λ (e : x ≡ a). let o : one_if (x == a) ≡ 1 = ap one_if (eq-eqb x a e) in let r = low x (a + 1) k (omega arith) in omega arith)
    (λ (n : x ≢ a). let z : one_if (x == a) ≡ 0 = ap one_if (ne_eqb x a n) in
    let above : a + 1 ≤ x = ⊎_elim (λ (b : a < x). omega arith) (λ (b : x ≤ a). absurd (n (omega arith))) (cases_lt a x) in
    let r = inside x (a + 1) k above (omega arith) in omega arith)
    (cases_eq x a)

numbers_once : (n : ℕ) → EachOnce n (numbers_from 0 n)
numbers_once n x = ⊎_elim (λ (l : x < n). inside x 0 n (omega arith) (omega arith) ∙ sym (ap one_if (lt-ltb x n l)))
    (λ (h : n ≤ x). high x 0 n (omega arith) ∙ sym (ap one_if (le-ltb x n h))) (cases_lt x n)

slots_are : (jobs : List CheckJob) → job_places (map slot_of jobs) ≡ map place_of jobs
slots_are [] = refl
slots_are (j ∷ jobs) = ap (λ (l : List Place). j.place ∷ l) (slots_are jobs)

pub complete : (jobs : List CheckJob) (claimed finished : List ℕ) (places recorded : List Place) → map place_of jobs ≡ places
    → EachOnce (length jobs) claimed → finished ≡ numbers_from 0 (length jobs) → AreOnce places recorded
    → Complete (map slot_of jobs) claimed recorded finished
complete jobs claimed finished places recorded at once numbers there =
    let len : length jobs ≡ length (map slot_of jobs) = sym (length-map jobs slot_of) in record {
      claimed_once = subst (λ (n : ℕ). EachOnce n claimed) len once;
      finished_once = subst (λ (n : ℕ). EachOnce n finished) len
          (subst (λ (l : List ℕ). EachOnce (length jobs) l) (sym numbers) (numbers_once (length jobs)));
      recorded_once = subst (λ (l : List Place). AreOnce l recorded) (sym (slots_are jobs ∙ at)) there;
    }
