-- Runs give the keys that they are of.
use Rattle.std.proofs.Common.{◌≡◌, ◌<◌, ◌≤◌, ℕ, zero, suc, ◌-◌, ◌^◌, Bool, true, false, List, [], ◌∷◌, ◌++◌, length}
use Rattle.std.proofs.Common.{replicate, length-append, refl, ap, ◌∙◌, arith}
use Rattle.count_numbers.specs.declared.run.RunKey.{RunKey}
use Rattle.count_numbers.specs.declared.run.Run.{Run}
use Rattle.count_numbers.specs.Runs.{same_key, together, single, onto_runs, runs_of}
use Rattle.count_numbers.specs.Layout.{keys_in, keys_of_runs, layout_of, set_count, RunsSuffice, SetsAreCounted}
use Rattle.count_numbers.specs.Keys.{equal_keys}
use Rattle.count_numbers.specs.Joining.{onto_same, onto_other}

replicate_len : (n : ℕ) (k : RunKey) → length (replicate n k) ≡ n
replicate_len zero k = refl
replicate_len (suc n) k = ap suc (replicate_len n k)

-- the first run is no longer than all
first_bound : (y : Run) (ys : List Run) → y.sets ≤ length (keys_of_runs (y ∷ ys))
first_bound y ys =
    let sum = length-append (keys_in y) (keys_of_runs ys) in
    let one = replicate_len y.sets y.key in
    omega arith

not_full : (n : ℕ) → n < 2 ^ 64 - 1 → together 1 n ≡ suc n
not_full n h = omega arith

onto_keys : (key : RunKey) (runs : List Run) → length (keys_of_runs runs) < 2 ^ 64 - 1
    → keys_of_runs (onto_runs (single key) runs) ≡ key ∷ keys_of_runs runs
onto_keys key [] h = refl
onto_keys key (y ∷ ys) h = cases (same_key key y.key) refl
  where
    cases : (b : Bool) → same_key key y.key ≡ b → keys_of_runs (onto_runs (single key) (y ∷ ys)) ≡ key ∷ keys_of_runs (y ∷ ys)
    cases true e =
        let bound = first_bound y ys in
        let small : y.sets < 2 ^ 64 - 1 = omega arith in
        ap keys_of_runs (onto_same (single key) y ys e)
        ∙ ap (λ (n : ℕ). replicate n key ++ keys_of_runs ys) (not_full y.sets small)
        ∙ ap (λ (k : RunKey). key ∷ (replicate y.sets k ++ keys_of_runs ys)) (equal_keys key y.key e)
    cases false e = ap keys_of_runs (onto_other (single key) y ys e)

pub keys_told : (keys : List RunKey) → length keys < 2 ^ 64 → keys_of_runs (runs_of keys) ≡ keys
keys_told [] h = refl
keys_told (key ∷ keys) h =
    let rest = keys_told keys (shorter keys h) in
    onto_keys key (runs_of keys) (bound keys (runs_of keys) rest h) ∙ ap (λ (ks : List RunKey). key ∷ ks) rest
  where
    shorter : (ks : List RunKey) → suc (length ks) < 2 ^ 64 → length ks < 2 ^ 64
    shorter ks g = omega arith

    bound : (ks : List RunKey) (rs : List Run) → keys_of_runs rs ≡ ks → suc (length ks) < 2 ^ 64 → length (keys_of_runs rs) < 2 ^ 64 - 1
    bound ks rs e g = let same = ap length e in omega arith

pub runs_suffice : RunsSuffice
runs_suffice cap keys h = ap (layout_of cap) (keys_told keys h)

pub sets_bound : (runs : List Run) → set_count runs ≤ 2 ^ 64 - 1
sets_bound [] = omega arith
sets_bound (run ∷ runs) = omega arith

-- runs have as many sets as they have keys, where these are few
sets_told : (runs : List Run) → length (keys_of_runs runs) < 2 ^ 64 → set_count runs ≡ length (keys_of_runs runs)
sets_told [] h = refl
sets_told (run ∷ runs) h =
    let sum = length-append (keys_in run) (keys_of_runs runs) in
    let one = replicate_len run.sets run.key in
    let rest = sets_told runs (omega arith) in
    omega arith

pub sets_counted : SetsAreCounted
sets_counted keys h =
    let told = keys_told keys h in
    let same : length (keys_of_runs (runs_of keys)) ≡ length keys = ap length told in
    sets_told (runs_of keys) (omega arith) ∙ same

-- none counted yet
pub counted_from_none : (runs : List Run) → together 0 (set_count runs) ≡ set_count runs
counted_from_none runs = let bound = sets_bound runs in omega arith
