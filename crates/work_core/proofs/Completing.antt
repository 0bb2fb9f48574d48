-- All is done exactly where each job is looked at once and nothing else is there.
use Rattle.std.proofs.Common.{◌≡◌, ◌==◌, ◌≢◌, ℕ, zero, suc, ◌+◌, ◌<◌, ◌≤◌, ◌⊎◌, inl}
use Rattle.std.proofs.Common.{inr, Bool, true, false, ◌&&◌, ◌||◌, List, [], ◌∷◌, Option, Some, None}
use Rattle.std.proofs.Common.{min, ltb, if◌then◌else◌, refl, sym, ap, ◌∙◌, ⊎_elim, arith, true≢false}
use Rattle.std.proofs.lemmas.Bool.{cases_Bool, cases_eq, cases_lt, eq-eqb, ne_eqb, eqb-true, lt-ltb, le-ltb, ltb-true}
use Rattle.claim_desk.specs.Seats.{EachOnce, once_below, times}
use Rattle.hub_kinds.specs.declared.place.Place.{Place}
use Rattle.work_core.specs.Complete.{AreOnce, below_from, job_places, jobs_in, times_place}
use Rattle.work_core.specs.Core.{same_place, was_recorded}
use Rattle.work_core.specs.Once.{each_recorded, none_beyond, none_other}
use Rattle.work_core.specs.declared.state.Finished.{Finished}

one_at : (x y : ℕ) → x ≡ y → if◌then◌else◌ {A = ℕ} (x == y) 1 0 ≡ 1
one_at x y e = ap (λ (b : Bool). if◌then◌else◌ {A = ℕ} b 1 0) (eq-eqb x y e)

none_at : (x y : ℕ) → x ≢ y → if◌then◌else◌ {A = ℕ} (x == y) 1 0 ≡ 0
none_at x y e = ap (λ (b : Bool). if◌then◌else◌ {A = ℕ} b 1 0) (ne_eqb x y e)

-- numbers from a on
low : (x a k : ℕ) → x < a → times x (below_from a k) ≡ 0
low x a zero h = refl
low x a (suc k) h = let r = low x (a + 1) k (omega arith) in let z = none_at x a (λ e. omega (arith, h, e)) in omega arith

high : (x a k : ℕ) → a + k ≤ x → times x (below_from a k) ≡ 0
high x a zero h = refl
high x a (suc k) h =
    let r = high x (a + 1) k (omega arith) in let z = none_at x a (λ e. omega (arith, h, e)) in omega arith

inside : (x a k : ℕ) → a ≤ x → x < a + k → times x (below_from a k) ≡ 1
inside x a zero h l = absurd (omega arith)
inside x a (suc k) h l = ⊎_elim
    (λ (e : x ≡ a). let o = one_at x a e in let r = low x (a + 1) k (omega arith) in omega arith)
    (λ (n : x ≢ a). let z = none_at x a n in
    let above : a + 1 ≤ x = ⊎_elim (λ (b : a < x). omega arith) (λ (b : x ≤ a). absurd (n (omega arith))) (cases_lt a x) in
    let r = inside x (a + 1) k above (omega arith) in omega arith)
    (cases_eq x a)

under : (n x : ℕ) → x < n → once_below x n ≡ 1
under n x h = ap (λ (b : Bool). if◌then◌else◌ {A = ℕ} b 1 0) (lt-ltb x n h)

over : (n x : ℕ) → n ≤ x → once_below x n ≡ 0
over n x h = ap (λ (b : Bool). if◌then◌else◌ {A = ℕ} b 1 0) (le-ltb x n h)

pub once_by : (n : ℕ) (xs : List ℕ) → ((j : ℕ) → j < n → times j xs ≡ 1) → ((j : ℕ) → n ≤ j → times j xs ≡ 0) → EachOnce n xs
once_by n xs each none x = ⊎_elim (λ (l : x < n). each x l ∙ sym (under n x l)) (λ (h : n ≤ x). none x h ∙ sym (over n x h)) (cases_lt x n)

pub all_claimed : (n next : ℕ) → n ≤ next → EachOnce n (below_from 0 (min next n))
all_claimed n next h = once_by n (below_from 0 (min next n)) (λ j l. inside j 0 (min next n) (omega arith) (omega arith))
    (λ j l. high j 0 (min next n) (omega arith))

pub claimed_all : (n next : ℕ) → EachOnce n (below_from 0 (min next n)) → n ≤ next
claimed_all n next once = ⊎_elim (λ (l : next < n).
    let there = once next ∙ under n next l in let none = high next 0 (min next n) (omega arith) in absurd (omega arith))
    (λ (h : n ≤ next). h) (cases_lt next n)

and_both : (a b : Bool) → (a && b) ≡ true → (a ≡ true) × (b ≡ true)
and_both true b h = (refl, h)
and_both false b h = absurd (true≢false (sym h))

both_and : (a b : Bool) → a ≡ true → b ≡ true → (a && b) ≡ true
both_and true b e h = h
both_and false b e h = absurd (true≢false (sym e))

-- no number from n on is finished
pub beyond : (n : ℕ) (fs : List Finished) → none_beyond n fs ≡ true → (j : ℕ) → n ≤ j → times j (jobs_in fs) ≡ 0
beyond n [] h j l = refl
beyond n (f ∷ fs) h j l =
    let b = and_both (ltb f.job n) (none_beyond n fs) h in
    let less = ltb-true f.job n b.0 in
    let z = none_at j f.job (λ e. omega (arith, less, l, e)) in let r = beyond n fs b.1 j l in omega arith

pub beyond_all : (n : ℕ) (fs : List Finished) → ((j : ℕ) → n ≤ j → times j (jobs_in fs) ≡ 0) → none_beyond n fs ≡ true
beyond_all n [] h = refl
beyond_all n (f ∷ fs) h =
    both_and (ltb f.job n) (none_beyond n fs)
    (⊎_elim (λ (l : f.job < n). lt-ltb f.job n l)
    (λ (b : n ≤ f.job). let t = h f.job b in let o = one_at f.job f.job refl in absurd (omega arith)) (cases_lt f.job n))
    (beyond_all n fs (λ j l. let t = h j l in omega arith))

pub finished_once : (n : ℕ) (fs : List Finished) → ((j : ℕ) → j < n → times j (jobs_in fs) ≡ 1) → none_beyond n fs ≡ true
    → EachOnce n (jobs_in fs)
finished_once n fs each none = once_by n (jobs_in fs) each (beyond n fs none)

pub once_each : (n : ℕ) (xs : List ℕ) → EachOnce n xs → (j : ℕ) → j < n → times j xs ≡ 1
once_each n xs once j l = once j ∙ under n j l

pub once_none : (n : ℕ) (xs : List ℕ) → EachOnce n xs → (j : ℕ) → n ≤ j → times j xs ≡ 0
once_none n xs once j l = once j ∙ over n j l

-- places
same_by : (p q : Place) → same_place p q ≡ true → p ≡ q
same_by p q h =
    let a = and_both (p.isa == q.isa) ((p.gs == q.gs) && (p.st == q.st)) h in
    let b = and_both (p.gs == q.gs) (p.st == q.st) a.1 in
    let x = eqb-true p.isa q.isa a.0 in
    let y = eqb-true p.gs q.gs b.0 in
    let z = eqb-true p.st q.st b.1 in
    λ i. record { isa = x i; gs = y i; st = z i }

same_itself : (p : Place) → same_place p p ≡ true
same_itself p = both_and (p.isa == p.isa) ((p.gs == p.gs) && (p.st == p.st)) (eq-eqb p.isa p.isa refl)
    (both_and (p.gs == p.gs) (p.st == p.st) (eq-eqb p.gs p.gs refl) (eq-eqb p.st p.st refl))

or_cases : (a b : Bool) → (a || b) ≡ true → (a ≡ true) ⊎ (b ≡ true)
or_cases true b h = inl refl
or_cases false b h = inr h

or_right : (a b : Bool) → b ≡ true → (a || b) ≡ true
or_right true b h = refl
or_right false b h = h

or_left : (a b : Bool) → a ≡ true → (a || b) ≡ true
or_left true b h = refl
or_left false b h = absurd (true≢false (sym h))

pub each_of_jobs : (recorded : List Place) (jobs : List (Option Place)) → each_recorded recorded jobs ≡ true
    → (p : Place) → was_recorded (job_places jobs) p ≡ true → times_place p recorded ≡ 1
each_of_jobs recorded [] h p there = absurd (true≢false (sym there))
each_of_jobs recorded (None ∷ jobs) h p there = each_of_jobs recorded jobs h p there
each_of_jobs recorded (Some q ∷ jobs) h p there =
    let b = and_both (times_place q recorded == 1) (each_recorded recorded jobs) h in
    elim (or_cases (same_place p q) (was_recorded (job_places jobs) p) there) [
      | inl e ↦ ap (λ (r : Place). times_place r recorded) (same_by p q e) ∙ eqb-true (times_place q recorded) 1 b.0
      | inr e ↦ each_of_jobs recorded jobs b.1 p e
    ]

pub jobs_each : (recorded : List Place) (jobs : List (Option Place))
    → ((p : Place) → was_recorded (job_places jobs) p ≡ true → times_place p recorded ≡ 1) → each_recorded recorded jobs ≡ true
jobs_each recorded [] h = refl
jobs_each recorded (None ∷ jobs) h = jobs_each recorded jobs h
jobs_each recorded (Some q ∷ jobs) h =
    both_and (times_place q recorded == 1) (each_recorded recorded jobs)
    (eq-eqb (times_place q recorded) 1 (h q (or_left (same_place q q) (was_recorded (job_places jobs) q) (same_itself q))))
    (jobs_each recorded jobs (λ p there. h p (or_right (same_place p q) (was_recorded (job_places jobs) p) there)))

one_place : (p q : Place) (b : Bool) → same_place p q ≡ b → if◌then◌else◌ {A = ℕ} (same_place p q) 1 0 ≡ if◌then◌else◌ {A = ℕ} b 1 0
one_place p q b e = ap (λ (c : Bool). if◌then◌else◌ {A = ℕ} c 1 0) e

-- where none other stands, what is no job's place doesn't
pub other_absent : (jobs : List (Option Place)) (recorded : List Place) → none_other jobs recorded ≡ true
    → (p : Place) → was_recorded (job_places jobs) p ≡ false → times_place p recorded ≡ 0
other_absent jobs [] h p none = refl
other_absent jobs (q ∷ qs) h p none =
    let b = and_both (was_recorded (job_places jobs) q) (none_other jobs qs) h in
    let rest = other_absent jobs qs b.1 p none in
    elim (cases_Bool (same_place p q)) [
      | inl e ↦ absurd (true≢false (sym b.0 ∙ ap (λ (r : Place). was_recorded (job_places jobs) r) (sym (same_by p q e)) ∙ none))
      | inr e ↦ let z = one_place p q false e in omega arith
    ]

pub absent_other : (jobs : List (Option Place)) (recorded : List Place)
    → ((p : Place) → was_recorded (job_places jobs) p ≡ false → times_place p recorded ≡ 0) → none_other jobs recorded ≡ true
absent_other jobs [] h = refl
absent_other jobs (q ∷ qs) h =
    both_and (was_recorded (job_places jobs) q) (none_other jobs qs)
    (elim (cases_Bool (was_recorded (job_places jobs) q)) [
      | inl e ↦ e
      | inr e ↦ let t = h q e in let o = one_place q q true (same_itself q) in absurd (omega arith)
    ])
    (absent_other jobs qs (λ p none. let t = h p none in omega arith))

is_one : (places recorded : List Place) (p : Place) (b : Bool) → was_recorded places p ≡ b
    → if◌then◌else◌ {A = ℕ} (was_recorded places p) 1 0 ≡ if◌then◌else◌ {A = ℕ} b 1 0
is_one places recorded p b e = ap (λ (c : Bool). if◌then◌else◌ {A = ℕ} c 1 0) e

pub recorded_once : (jobs : List (Option Place)) (recorded : List Place) → each_recorded recorded jobs ≡ true
    → none_other jobs recorded ≡ true → AreOnce (job_places jobs) recorded
recorded_once jobs recorded each none p = elim (cases_Bool (was_recorded (job_places jobs) p)) [
  | inl e ↦ each_of_jobs recorded jobs each p e ∙ sym (is_one (job_places jobs) recorded p true e)
  | inr e ↦ other_absent jobs recorded none p e ∙ sym (is_one (job_places jobs) recorded p false e)
]

pub once_recorded_each : (jobs : List (Option Place)) (recorded : List Place) → AreOnce (job_places jobs) recorded
    → each_recorded recorded jobs ≡ true
once_recorded_each jobs recorded once = jobs_each recorded jobs (λ p e. once p ∙ is_one (job_places jobs) recorded p true e)

pub once_none_other : (jobs : List (Option Place)) (recorded : List Place) → AreOnce (job_places jobs) recorded
    → none_other jobs recorded ≡ true
once_none_other jobs recorded once = absent_other jobs recorded (λ p e. once p ∙ is_one (job_places jobs) recorded p false e)
