-- The first group of written sets.
use Rattle.std.proofs.Common.{◌≡◌, ◌<◌, ℕ, suc, ◌+◌, Bool, true, false, if◌then◌else◌, List, [], ◌∷◌, take, drop, length, refl, sym, ap}
use Rattle.std.proofs.Common.{◌∙◌, arith, length-drop}
use Rattle.count_numbers.specs.Runs.{same_key}
use Rattle.mailbox.specs.Grouping.{run_len}
use Rattle.mailbox.specs.Rendered.{RenderedValue, goes_with, groups_of, onto_groups}

run_on : (x y : RenderedValue) (ys : List RenderedValue) → same_key x.key y.key ≡ true → run_len (x ∷ y ∷ ys) ≡ 1 + run_len (y ∷ ys)
run_on x y ys h = ap (λ (b : Bool). if b then 1 + run_len (y ∷ ys) else 1) h

run_ends : (x y : RenderedValue) (ys : List RenderedValue) → same_key x.key y.key ≡ false → run_len (x ∷ y ∷ ys) ≡ 1
run_ends x y ys h = ap (λ (b : Bool). if b then 1 + run_len (y ∷ ys) else 1) h

run_some : (x : RenderedValue) (xs : List RenderedValue) → (k : ℕ) × (run_len (x ∷ xs) ≡ suc k)
run_some x [] = (0, refl)
run_some x (y ∷ ys) = cases (same_key x.key y.key) refl
  where
    cases : (b : Bool) → same_key x.key y.key ≡ b → (k : ℕ) × (run_len (x ∷ y ∷ ys) ≡ suc k)
    cases true e = (run_len (y ∷ ys), run_on x y ys e ∙ omega arith)
    cases false e = (0, run_ends x y ys e)

onto_first : (x : RenderedValue) (group : List RenderedValue) (groups : List (List RenderedValue)) (b : Bool) → goes_with x group ≡ b
    → onto_groups x (group ∷ groups) ≡ (if b then (x ∷ group) ∷ groups else (x ∷ []) ∷ group ∷ groups)
onto_first x group groups b h = ap (λ (c : Bool). if c then (x ∷ group) ∷ groups else (x ∷ []) ∷ group ∷ groups) h

one_more : (n : ℕ) → suc n ≡ 1 + n
one_more n = omega arith

-- the first n sets as a group, and the groups after them
abbrev parted : (n : ℕ) → List RenderedValue → List (List RenderedValue)
parted n xs = take n xs ∷ groups_of (drop n xs)

-- a set before the first group of the others
in_front : (x y : RenderedValue) (ys : List RenderedValue) (n m : ℕ) → groups_of (y ∷ ys) ≡ parted (suc m) (y ∷ ys)
    → run_len (y ∷ ys) ≡ suc m → run_len (x ∷ y ∷ ys) ≡ n → (b : Bool) → same_key x.key y.key ≡ b
    → groups_of (x ∷ y ∷ ys) ≡ parted n (x ∷ y ∷ ys)
in_front x y ys n m tail some e true h =
    let long : suc (suc m) ≡ n = ap suc (sym some) ∙ one_more (run_len (y ∷ ys)) ∙ sym (run_on x y ys h) ∙ e in
    ap (onto_groups x) tail
    ∙ onto_first x (take (suc m) (y ∷ ys)) (groups_of (drop m ys)) true h
    ∙ ap (λ (j : ℕ). parted j (x ∷ y ∷ ys)) long
in_front x y ys n m tail some e false h =
    ap (onto_groups x) tail
    ∙ onto_first x (take (suc m) (y ∷ ys)) (groups_of (drop m ys)) false h
    ∙ ap (λ (gs : List (List RenderedValue)). (x ∷ []) ∷ gs) (sym tail)
    ∙ ap (λ (j : ℕ). parted j (x ∷ y ∷ ys)) (sym (run_ends x y ys h) ∙ e)

pub first_group : (x : RenderedValue) (xs : List RenderedValue) (n : ℕ) → run_len (x ∷ xs) ≡ n → groups_of (x ∷ xs) ≡ parted n (x ∷ xs)
first_group x [] n e = ap (λ (m : ℕ). parted m (x ∷ [])) e
first_group x (y ∷ ys) n e =
    let some = run_some y ys in
    in_front x y ys n some.0 (first_group y ys (suc some.0) some.1) some.1 e (same_key x.key y.key) refl

pub first_group_of : (xs : List RenderedValue) (n : ℕ) → 0 < length xs → n ≡ run_len xs
    → groups_of xs ≡ take n xs ∷ groups_of (drop n xs)
first_group_of [] n h e = absurd (omega arith)
first_group_of (x ∷ xs) n h e = first_group x xs n (sym e)

one_left : (xs : List RenderedValue) → length xs ≡ 1 → run_len xs ≡ 1
one_left [] h = absurd (omega arith)
one_left (x ∷ []) h = refl
one_left (x ∷ y ∷ ys) h = absurd (omega arith)

-- at the last set the run is all
pub run_all : (xs : List RenderedValue) (last : ℕ) → run_len xs ≡ last + run_len (drop last xs) → last + 1 ≡ length xs → length xs
    ≡ run_len xs
run_all xs last was at =
    let left : length (drop last xs) ≡ 1 = length-drop last xs ∙ omega arith in
    sym (was ∙ ap (λ (n : ℕ). last + n) (one_left (drop last xs) left) ∙ at)
