-- A run before what is joined is a run before the first part; joining is associative, and follows the lists.
use Rattle.std.proofs.Common.{◌≡◌, ℕ, Bool, true, false, if◌then◌else◌, List, [], ◌∷◌, ◌++◌, refl, sym, ap, ◌∙◌}
use Rattle.count_numbers.specs.declared.run.RunKey.{RunKey}
use Rattle.count_numbers.specs.declared.run.Run.{Run}
use Rattle.count_numbers.specs.Runs.{same_key, merged, single, onto_runs, join_runs, runs_of}
use Rattle.count_numbers.specs.Keys.{equal_keys, together_assoc}

pub onto_same : (x y : Run) (ys : List Run) → same_key x.key y.key ≡ true → onto_runs x (y ∷ ys) ≡ merged x y ∷ ys
onto_same x y ys h = ap (λ (b : Bool). if b then merged x y ∷ ys else x ∷ y ∷ ys) h

pub onto_other : (x y : Run) (ys : List Run) → same_key x.key y.key ≡ false → onto_runs x (y ∷ ys) ≡ x ∷ y ∷ ys
onto_other x y ys h = ap (λ (b : Bool). if b then merged x y ∷ ys else x ∷ y ∷ ys) h

-- a key's test against a third is that of its equal
pub same_third : (x y z : RunKey) → same_key x y ≡ true → same_key x z ≡ same_key y z
same_third x y z h = ap (λ (k : RunKey). same_key k z) (equal_keys x y h)

pub merged_assoc : (x y z : Run) → merged (merged x y) z ≡ merged x (merged y z)
merged_assoc x y z = ap (λ (n : ℕ). record { key = x.key; sets = n }) (together_assoc x.sets y.sets z.sets)

-- runs with one key make one run, in either order
pub onto_merged : (x z : Run) (ys : List Run) → same_key x.key z.key ≡ true → onto_runs (merged x z) ys ≡ onto_runs x (onto_runs z ys)
onto_merged x z [] h = sym (onto_same x z [] h)
onto_merged x z (y ∷ ys) h = cases (same_key z.key y.key) refl
  where
    cases : (b : Bool) → same_key z.key y.key ≡ b → onto_runs (merged x z) (y ∷ ys) ≡ onto_runs x (onto_runs z (y ∷ ys))
    cases true e =
        onto_same (merged x z) y ys (same_third x.key z.key y.key h ∙ e)
        ∙ ap (λ (r : Run). r ∷ ys) (merged_assoc x z y)
        ∙ sym (ap (onto_runs x) (onto_same z y ys e) ∙ onto_same x (merged z y) ys h)
    cases false e =
        onto_other (merged x z) y ys (same_third x.key z.key y.key h ∙ e)
        ∙ sym (ap (onto_runs x) (onto_other z y ys e) ∙ onto_same x z (y ∷ ys) h)

-- runs with other keys stay apart, whatever follows
pub onto_apart : (x z : Run) (ys : List Run) → same_key x.key z.key ≡ false → x ∷ onto_runs z ys ≡ onto_runs x (onto_runs z ys)
onto_apart x z [] h = sym (onto_other x z [] h)
onto_apart x z (y ∷ ys) h = cases (same_key z.key y.key) refl
  where
    cases : (b : Bool) → same_key z.key y.key ≡ b → x ∷ onto_runs z (y ∷ ys) ≡ onto_runs x (onto_runs z (y ∷ ys))
    cases true e =
        ap (λ (rs : List Run). x ∷ rs) (onto_same z y ys e)
        ∙ sym (onto_other x (merged z y) ys h)
        ∙ sym (ap (onto_runs x) (onto_same z y ys e))
    cases false e =
        ap (λ (rs : List Run). x ∷ rs) (onto_other z y ys e)
        ∙ sym (onto_other x z (y ∷ ys) h)
        ∙ sym (ap (onto_runs x) (onto_other z y ys e))

pub join_onto : (x : Run) (xs ys : List Run) → join_runs (onto_runs x xs) ys ≡ onto_runs x (join_runs xs ys)
join_onto x [] ys = refl
join_onto x (z ∷ []) ys = cases (same_key x.key z.key) refl
  where
    cases : (b : Bool) → same_key x.key z.key ≡ b → join_runs (onto_runs x (z ∷ [])) ys ≡ onto_runs x (onto_runs z ys)
    cases true e = ap (λ (rs : List Run). join_runs rs ys) (onto_same x z [] e) ∙ onto_merged x z ys e
    cases false e = ap (λ (rs : List Run). join_runs rs ys) (onto_other x z [] e) ∙ onto_apart x z ys e
join_onto x (z ∷ w ∷ xs) ys = cases (same_key x.key z.key) refl
  where
    cases : (b : Bool) → same_key x.key z.key ≡ b → join_runs (onto_runs x (z ∷ w ∷ xs)) ys ≡ onto_runs x (z ∷ join_runs (w ∷ xs) ys)
    cases true e = ap (λ (rs : List Run). join_runs rs ys) (onto_same x z (w ∷ xs) e) ∙ sym (onto_same x z (join_runs (w ∷ xs) ys) e)
    cases false e = ap (λ (rs : List Run). join_runs rs ys) (onto_other x z (w ∷ xs) e) ∙ sym (onto_other x z (join_runs (w ∷ xs) ys) e)

pub join_nil : (xs : List Run) → join_runs xs [] ≡ xs
join_nil [] = refl
join_nil (x ∷ []) = refl
join_nil (x ∷ y ∷ xs) = ap (λ (rs : List Run). x ∷ rs) (join_nil (y ∷ xs))

-- something is left before what something is joined with
onto_some : (x : Run) (ys : List Run) → (r : Run) × (rs : List Run) × (onto_runs x ys ≡ r ∷ rs)
onto_some x [] = (x, [], refl)
onto_some x (y ∷ ys) = cases (same_key x.key y.key) refl
  where
    cases : (b : Bool) → same_key x.key y.key ≡ b → (r : Run) × (rs : List Run) × (onto_runs x (y ∷ ys) ≡ r ∷ rs)
    cases true e = (merged x y, ys, onto_same x y ys e)
    cases false e = (x, y ∷ ys, onto_other x y ys e)

join_some : (x : Run) (xs ys : List Run) → (r : Run) × (rs : List Run) × (join_runs (x ∷ xs) ys ≡ r ∷ rs)
join_some x [] ys = onto_some x ys
join_some x (y ∷ xs) ys = (x, join_runs (y ∷ xs) ys, refl)

join_behind : (x : Run) (ws zs : List Run) (r : Run) (rs : List Run) → ws ≡ r ∷ rs → join_runs (x ∷ ws) zs ≡ x ∷ join_runs ws zs
join_behind x ws zs r rs e =
    ap (λ (vs : List Run). join_runs (x ∷ vs) zs) e ∙ sym (ap (λ (vs : List Run). x ∷ join_runs vs zs) e)

pub join_assoc : (xs ys zs : List Run) → join_runs (join_runs xs ys) zs ≡ join_runs xs (join_runs ys zs)
join_assoc [] ys zs = refl
join_assoc (x ∷ []) ys zs = join_onto x ys zs
join_assoc (x ∷ y ∷ xs) ys zs =
    let some = join_some y xs ys in
    join_behind x (join_runs (y ∷ xs) ys) zs some.0 some.1 some.2 ∙ ap (λ (rs : List Run). x ∷ rs) (join_assoc (y ∷ xs) ys zs)

pub runs_append : (ks ls : List RunKey) → runs_of (ks ++ ls) ≡ join_runs (runs_of ks) (runs_of ls)
runs_append [] ls = refl
runs_append (a ∷ ks) ls = ap (onto_runs (single a)) (runs_append ks ls) ∙ sym (join_onto (single a) (runs_of ks) (runs_of ls))

-- what is after the first is only put after it
pub join_first : (xs : List Run) (y : Run) (ys : List Run) → join_runs xs (y ∷ []) ++ ys ≡ join_runs xs (y ∷ ys)
join_first [] y ys = refl
join_first (x ∷ []) y ys = cases (same_key x.key y.key) refl
  where
    cases : (b : Bool) → same_key x.key y.key ≡ b → onto_runs x (y ∷ []) ++ ys ≡ onto_runs x (y ∷ ys)
    cases true e = ap (λ (rs : List Run). rs ++ ys) (onto_same x y [] e) ∙ sym (onto_same x y ys e)
    cases false e = ap (λ (rs : List Run). rs ++ ys) (onto_other x y [] e) ∙ sym (onto_other x y ys e)
join_first (x ∷ w ∷ xs) y ys = ap (λ (rs : List Run). x ∷ rs) (join_first (w ∷ xs) y ys)

-- the last of the front meets what is joined
pub join_last : (xs : List Run) (x y : Run) → join_runs (xs ++ x ∷ []) (y ∷ []) ≡ xs ++ onto_runs x (y ∷ [])
join_last [] x y = refl
join_last (w ∷ []) x y = refl
join_last (w ∷ v ∷ xs) x y = ap (λ (rs : List Run). w ∷ rs) (join_last (v ∷ xs) x y)
