-- The groups of a mailbox are the maximal runs of its sets' keys.
use Rattle.std.proofs.Common.{◌≡◌, ℕ, suc, ◌+◌, ◌*◌, Bool, true, false, if◌then◌else◌, List, [], ◌∷◌, take, drop, length, map}
use Rattle.std.proofs.Common.{refl, sym, ap, ◌∙◌, arith, sum_by}
use Rattle.std.specs.List.{range_with_len}
use Rattle.std.proofs.lemmas.List.{drop-map, length-map, take-map}
use Rattle.std.proofs.lemmas.List.Sums.{sum_by-cons}
use Rattle.count_numbers.specs.declared.run.Run.{Run}
use Rattle.count_numbers.specs.declared.run.RunKey.{RunKey}
use Rattle.count_numbers.specs.Layout.{in_interchange, interchange_count, interchanges_of, layout_of}
use Rattle.count_numbers.specs.Runs.{onto_runs, runs_of, same_key, single, together}
use Rattle.answered_sets.specs.Judged.{PlacedValue}
use Rattle.mailbox.specs.Mailbox.{groups_within}
use Rattle.mailbox.specs.Numbered.{NumberedValue, goes_with, groups_of, group_key_of, numbered_from, onto_groups}
use Rattle.mailbox.specs.Tallied.{GroupsAreCounted, GroupsAreLaidOut, GroupsAreRuns, run_of, runs_in}

abbrev key_in : NumberedValue → RunKey
key_in x = group_key_of x.set

-- a group that has a set stands in front
abbrev IsHeaded : List (List NumberedValue) → Type 0
IsHeaded [] = Unit {0}
IsHeaded ([] ∷ groups) = ⊥
IsHeaded ((x ∷ xs) ∷ groups) = Unit {0}

choice_headed : (x : NumberedValue) (group : List NumberedValue) (groups : List (List NumberedValue)) (b : Bool)
    → IsHeaded (if b then (x ∷ group) ∷ groups else (x ∷ []) ∷ group ∷ groups)
choice_headed x group groups true = tt
choice_headed x group groups false = tt

onto_headed : (x : NumberedValue) (groups : List (List NumberedValue)) → IsHeaded (onto_groups x groups)
onto_headed x [] = tt
onto_headed x (group ∷ groups) = choice_headed x group groups (goes_with x group)

groups_headed : (xs : List NumberedValue) → IsHeaded (groups_of xs)
groups_headed [] = tt
groups_headed (x ∷ xs) = onto_headed x (groups_of xs)

abbrev run_with : RunKey → ℕ → Run
run_with key sets = record { key = key; sets = sets }

one_more : (n : ℕ) → together 1 (suc n) ≡ together 1 (together 1 n)
one_more n = omega arith

-- a set before groups, as runs
by_key : (x y : NumberedValue) (ys : List NumberedValue) (groups : List (List NumberedValue)) (b : Bool)
    → runs_in (if b then (x ∷ y ∷ ys) ∷ groups else (x ∷ []) ∷ (y ∷ ys) ∷ groups)
    ≡ (if b then run_with (key_in x) (together 1 (together 1 (length ys))) ∷ runs_in groups
    else single (key_in x) ∷ run_of y ys ∷ runs_in groups)
by_key x y ys groups true = ap (λ (n : ℕ). run_with (key_in x) n ∷ runs_in groups) (one_more (length ys))
by_key x y ys groups false = refl

onto_as_run : (x : NumberedValue) (groups : List (List NumberedValue)) → IsHeaded groups
    → runs_in (onto_groups x groups) ≡ onto_runs (single (key_in x)) (runs_in groups)
onto_as_run x [] headed = refl
onto_as_run x ([] ∷ groups) headed = absurd headed
onto_as_run x ((y ∷ ys) ∷ groups) headed = by_key x y ys groups (same_key (key_in x) (key_in y))

pub groups_are_runs : GroupsAreRuns
groups_are_runs [] = refl
groups_are_runs (x ∷ xs) =
    onto_as_run x (groups_of xs) (groups_headed xs) ∙ ap (onto_runs (single (key_in x))) (groups_are_runs xs)

-- the keys of numbered sets
keys_numbered : (k : ℕ) (sets : List PlacedValue) → map key_in (numbered_from k sets) ≡ map group_key_of sets
keys_numbered k [] = refl
keys_numbered k (p ∷ ps) = ap (λ (keys : List RunKey). group_key_of p ∷ keys) (keys_numbered (k + 1) ps)

-- one interchange after the other
each_laid_out : (cap : ℕ) (sets : List NumberedValue) (ms : List ℕ)
    → map (λ (some : List NumberedValue). runs_in (groups_of some)) (map (in_interchange cap sets) ms)
    ≡ map runs_of (map (in_interchange cap (map key_in sets)) ms)
each_laid_out cap sets [] = refl
each_laid_out cap sets (m ∷ ms) =
    let here : List NumberedValue = drop (m * cap) sets in
    let keys : map key_in (take cap here) ≡ in_interchange cap (map key_in sets) m =
    sym (ap (take cap) (drop-map key_in (m * cap) sets) ∙ take-map key_in cap here) in
    let first : runs_in (groups_of (take cap here)) ≡ runs_of (in_interchange cap (map key_in sets) m) =
    groups_are_runs (take cap here) ∙ ap runs_of keys in
    ap (λ (rs : List Run). rs ∷ map (λ (some : List NumberedValue). runs_in (groups_of some)) (map (in_interchange cap sets) ms)) first
    ∙ ap (λ (more : List (List Run)). runs_of (in_interchange cap (map key_in sets) m) ∷ more) (each_laid_out cap sets ms)

pub groups_are_laid_out : GroupsAreLaidOut
groups_are_laid_out cap sets =
    let all : List NumberedValue = numbered_from 0 sets in
    let count : ℕ → List ℕ = λ n. range_with_len 0 (interchange_count cap n) in
    each_laid_out cap all (count (length all))
    ∙ ap (λ (n : ℕ). map runs_of (map (in_interchange cap (map key_in all)) (count n))) (sym (length-map all key_in))
    ∙ ap (layout_of cap) (keys_numbered 0 sets)

-- each group is a run
onto_counted : (x : NumberedValue) (groups : List (List NumberedValue)) → length (runs_in groups) ≡ length groups
    → length (runs_in (onto_groups x groups)) ≡ length (onto_groups x groups)
onto_counted x [] e = refl
onto_counted x ([] ∷ groups) e = ap suc e
onto_counted x ((y ∷ ys) ∷ groups) e = cases (same_key (key_in x) (key_in y))
  where
    cases : (b : Bool) → length (runs_in (if b then (x ∷ y ∷ ys) ∷ groups else (x ∷ []) ∷ (y ∷ ys) ∷ groups))
        ≡ length (if b then (x ∷ y ∷ ys) ∷ groups else (x ∷ []) ∷ (y ∷ ys) ∷ groups)
    cases true = e
    cases false = ap suc e

as_many_runs : (xs : List NumberedValue) → length (runs_in (groups_of xs)) ≡ length (groups_of xs)
as_many_runs [] = refl
as_many_runs (x ∷ xs) = onto_counted x (groups_of xs) (as_many_runs xs)

abbrev run_lists : List (List NumberedValue) → List (List Run)
run_lists boxes = map (λ (some : List NumberedValue). runs_in (groups_of some)) boxes

all_runs : (boxes : List (List NumberedValue)) → groups_within boxes ≡ sum_by (λ (rs : List Run). length rs) (run_lists boxes)
all_runs [] = refl
all_runs (sets ∷ more) =
    ap (λ (n : ℕ). n + groups_within more) (sym (as_many_runs sets))
    ∙ ap (λ (n : ℕ). length (runs_in (groups_of sets)) + n) (all_runs more)
    ∙ sym (sum_by-cons (λ (rs : List Run). length rs) (runs_in (groups_of sets)) (run_lists more))

pub groups_are_counted : GroupsAreCounted
groups_are_counted cap sets =
    all_runs (interchanges_of cap (numbered_from 0 sets))
    ∙ ap (λ (runs : List (List Run)). sum_by (λ (rs : List Run). length rs) runs) (groups_are_laid_out cap sets)
