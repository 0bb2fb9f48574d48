-- Own: the rule of the desk's word, and what each step does to the view of its seat.
use Rattle.std.specs.Prelude.{◌≡◌, ℕ, ◌+◌, ◌-◌, ◌<◌, ◌≤◌, List, [], ◌∷◌, ◌++◌, min, max, if◌then◌else◌, ltb}
use mathlib.Core.Option.{some}
use lib.ListN.{get_elem?}
use Rattle.atomic_table.specs.Table.{State, Me, Step}
use Rattle.claim_desk.specs.declared.rule.View.{View}
use Rattle.claim_desk.specs.Seats.{times, once_below, EachOnce}

-- a number of each view, added up
abbrev pub total : (View → ℕ) → List View → ℕ
total f [] = 0
total f (v ∷ vs) = f v + total f vs

abbrev pub view : ℕ → ℕ → List ℕ → ℕ → ℕ → View
view n seats got weight ended = record { n = n; seats = seats; got = got; weight = weight; ended = ended }

-- one view for itself; views with weight agree on the desk
abbrev pub Fits : ℕ → ℕ → View → Type 0
Fits n seats v = (v.ended ≤ v.weight) × (v.weight ≡ 0 → v.got ≡ []) × (0 < v.weight → (v.n ≡ n) × (v.seats ≡ seats))

-- the jobs that all seats got are those below the word, each once; the weights are the seats; the word is past the last job by the ends
pub record IsDesk (n seats word : ℕ) (views : List View) : Type 0 where
  pub small : (n ≤ 4611686018427387904) × (seats ≤ 64)
  pub drawn : (x : ℕ) → total (λ v. times x v.got) views ≡ once_below x (min word n)
  pub weights : total (λ v. v.weight) views ≡ seats
  pub ends : max word n ≡ n + total (λ v. v.ended) views
  pub each : (k : ℕ) (v : View) → get_elem? views k ≡ some v → Fits n seats v

-- the word and the views keep the rule of the desk's n jobs and its seats
abbrev pub Orderly : ℕ × ℕ → State (Unit {0}) View → Type 0
Orderly key s = (word : ℕ) × (s.words ≡ word ∷ []) × IsDesk key.0 key.1 word s.views

-- the first view: all seats, no job
abbrev pub opened : ℕ × ℕ → View
opened key = view key.0 key.1 [] key.1 0

-- a seat of full weight that has ended has each number once
abbrev pub IsWhole : View → Type 0
IsWhole v = v.weight ≡ v.seats → 0 < v.ended → EachOnce v.n v.got

-- the old word is the next job, where there is one; else the seat has ended
abbrev pub after_claim : View → ℕ → View
after_claim v j = if ltb j v.n then view v.n v.seats (v.got ++ j ∷ []) v.weight v.ended else view v.n v.seats v.got v.weight (v.ended + 1)

-- what a claim says, and what a look says
abbrev pub claimed : Step (Unit {0}) → Me (Unit {0}) View → ℕ → Me (Unit {0}) View → Type 0
claimed st m r m' = (m'.1 ≡ m.1) × (m'.0 ≡ after_claim m.0 r) × IsWhole m'.0

abbrev pub looked : Step (Unit {0}) → Me (Unit {0}) View → ℕ → Me (Unit {0}) View → Type 0
looked st m r m' = (m' ≡ m) × IsWhole m.0 × (m.0.weight ≤ 64)

-- a seat that gave 1 of its weight, and the one that has it
abbrev pub lighter : View → View
lighter v = view v.n v.seats v.got (v.weight - 1) v.ended

abbrev pub newcomer : View → View
newcomer v = view v.n v.seats [] 1 0

-- a seat with all that another one had, and what is left of that
abbrev pub joined : View → View → View
joined v w = view v.n v.seats (v.got ++ w.got) (v.weight + w.weight) (v.ended + w.ended)

abbrev pub spent : View
spent = view 0 0 [] 0 0
