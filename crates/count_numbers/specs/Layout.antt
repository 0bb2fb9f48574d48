-- X12.5, interchange, and X12.6, functional group: which delivered interchanges and groups a tally means (own).
use Rattle.std.specs.Prelude.{◌≡◌, ℕ, ◌+◌, ◌-◌, ◌*◌, ◌/◌, ◌%◌, ◌==◌, if◌then◌else◌, ◌^◌, ◌<◌, ◌≤◌, List, [], ◌∷◌, map, length, take}
use Rattle.std.specs.Prelude.{drop, replicate, sum_by}
use Rattle.std.specs.List.{flat_map, range_with_len}
use Rattle.count_numbers.specs.declared.run.RunKey.{RunKey}
use Rattle.count_numbers.specs.declared.run.Run.{Run}
use Rattle.count_numbers.specs.Runs.{runs_of, together}

-- set k is in delivered interchange k / cap
abbrev pub in_interchange : {A : Type 0} → (cap : ℕ) → List A → (m : ℕ) → List A
in_interchange cap xs m = take cap (drop (m * cap) xs)

-- as many as are full, and one more for what is left
abbrev pub interchange_count : (cap sets : ℕ) → ℕ
interchange_count cap sets = if sets % cap == 0 then sets / cap else sets / cap + 1

abbrev pub interchanges_of : {A : Type 0} → (cap : ℕ) → List A → List (List A)
interchanges_of cap xs = map (in_interchange cap xs) (range_with_len 0 (interchange_count cap (length xs)))

-- the groups of each delivered interchange, by the keys of the sets
abbrev pub layout_of : (cap : ℕ) → List RunKey → List (List Run)
layout_of cap keys = map runs_of (interchanges_of cap keys)

-- how many groups all delivered interchanges have
abbrev pub delivered_groups : (cap : ℕ) → List RunKey → ℕ
delivered_groups cap keys = sum_by length (layout_of cap keys)

-- the keys of a run's sets
abbrev pub keys_in : Run → List RunKey
keys_in run = replicate run.sets run.key

-- the keys that runs mean
abbrev pub keys_of_runs : List Run → List RunKey
keys_of_runs runs = flat_map keys_in runs

-- the groups of each delivered interchange, by the runs of a tally
abbrev pub layout_by : (cap : ℕ) → List Run → List (List Run)
layout_by cap runs = layout_of cap (keys_of_runs runs)

-- how many groups all delivered interchanges have, by the runs of a tally
abbrev pub delivered_groups_by : (cap : ℕ) → List Run → ℕ
delivered_groups_by cap runs = sum_by length (layout_by cap runs)

-- fewer than 2^64 sets are laid out by their runs as they are by themselves
abbrev pub RunsSuffice : Type 0
RunsSuffice = (cap : ℕ) (keys : List RunKey) → length keys < 2 ^ 64 → layout_by cap (runs_of keys) ≡ layout_of cap keys

-- how many sets are in runs
abbrev pub set_count : List Run → ℕ
set_count [] = 0
set_count (run ∷ runs) = together run.sets (set_count runs)

-- fewer than 2^64 sets are as many as their runs give
abbrev pub SetsAreCounted : Type 0
SetsAreCounted = (keys : List RunKey) → length keys < 2 ^ 64 → set_count (runs_of keys) ≡ length keys

-- in how many delivered interchanges the sets of a run lie, the first of them after `before` sets: of those that hold the sets up to
-- its last, all but those that are full before it; it is a group in each
abbrev pub interchanges_over : (cap before sets : ℕ) → ℕ
interchanges_over cap before sets = interchange_count cap (together before sets) - before / cap

-- how many groups runs are, the first of them after `before` sets
abbrev pub group_count_behind : (cap before : ℕ) → List Run → ℕ
group_count_behind cap before [] = 0
group_count_behind cap before (run ∷ runs) =
    together (interchanges_over cap before run.sets) (group_count_behind cap (together before run.sets) runs)

-- how many groups the runs of a tally are in all delivered interchanges
abbrev pub group_count : (cap : ℕ) → List Run → ℕ
group_count cap runs = group_count_behind cap 0 runs

-- fewer than 2^64 sets have as many groups by their runs as by themselves, and as many as their runs give
abbrev pub GroupsAreCounted : Type 0
GroupsAreCounted =
    (cap : ℕ) (keys : List RunKey) → 1 ≤ cap → length keys < 2 ^ 64
    → (delivered_groups_by cap (runs_of keys) ≡ delivered_groups cap keys)
    × (group_count cap (runs_of keys) ≡ delivered_groups cap keys)
