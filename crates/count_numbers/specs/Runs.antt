-- X12.6, functional group: sets that follow each other and go into one group (own: those of one sender, GS01 and GS08).
use Rattle.std.specs.Prelude.{ℕ, ◌+◌, ◌-◌, ◌^◌, min, ◌==◌, Bool, ◌&&◌, if◌then◌else◌, List, [], ◌∷◌}
use Rattle.std.specs.Str.{bytes_eq}
use Rattle.count_numbers.specs.declared.run.RunKey.{RunKey}
use Rattle.count_numbers.specs.declared.run.Run.{Run}

-- they go into one group
abbrev pub same_key : RunKey → RunKey → Bool
same_key a b = a.sender == b.sender && bytes_eq a.functional_id b.functional_id && bytes_eq a.version b.version

-- a sum of counts; it ends at 2^64 - 1, so that every two counts can be added
abbrev pub together : ℕ → ℕ → ℕ
together a b = min (a + b) (2 ^ 64 - 1)

-- a run of both
abbrev pub merged : Run → Run → Run
merged a b = record { key = a.key; sets = together a.sets b.sets }

-- a run before runs: one with the first of them, where they have one key
abbrev pub onto_runs : Run → List Run → List Run
onto_runs x [] = x ∷ []
onto_runs x (y ∷ ys) = if same_key x.key y.key then merged x y ∷ ys else x ∷ y ∷ ys

-- the run of one set
abbrev pub single : RunKey → Run
single key = record { key = key; sets = 1 }

-- the maximal runs of sets with these keys
abbrev pub runs_of : List RunKey → List Run
runs_of [] = []
runs_of (key ∷ keys) = onto_runs (single key) (runs_of keys)

-- runs after runs: the last of the first and the first of the second are one where they have one key
abbrev pub join_runs : List Run → List Run → List Run
join_runs [] ys = ys
join_runs (x ∷ []) ys = onto_runs x ys
join_runs (x ∷ y ∷ xs) ys = x ∷ join_runs (y ∷ xs) ys
