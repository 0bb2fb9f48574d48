-- A mailbox grows by a set: the number of its groups.
use Rattle.std.proofs.Common.{◌≡◌, ◌<◌, ◌≤◌, ◌⊎◌, inl, inr, ℕ, zero, suc, ◌+◌, ◌-◌, ◌%◌, ◌==◌, Bool, true, false, not, ◌||◌, if◌then◌else◌}
use Rattle.std.proofs.Common.{List, [], ◌∷◌, ◌++◌, Option, Some, None, take, drop, length, refl, sym, ap, ◌∙◌, arith, length-drop}
use Rattle.std.proofs.Common.{length-append}
use Rattle.std.proofs.Math.Nat.{add-mod_left, mod-eq_of_lt, zero-mod}
use Rattle.std.proofs.lemmas.Bool.{cases_lt}
use Rattle.std.proofs.lemmas.List.{take_all, drop_all}
use Rattle.count_numbers.specs.Layout.{interchanges_of}
use Rattle.count_numbers.specs.Runs.{same_key}
use Rattle.count_numbers.specs.declared.run.RunKey.{RunKey}
use Rattle.count_numbers.proofs.ForAbove.{first_interchange, no_interchange, not_none}
use Rattle.answered_sets.specs.Judged.{PlacedValue}
use Rattle.mailbox.specs.Mailbox.{group_total, groups_within}
use Rattle.mailbox.specs.Numbered.{NumberedValue, goes_with, groups_of, group_key_of, numbered_from, onto_groups}
use Rattle.track_table.specs.Walking.{last_key}
use Rattle.track_table.specs.Walking as walking

abbrev key_in : NumberedValue → RunKey
key_in x = group_key_of x.set

-- one more, unless
abbrev step : Bool → ℕ → ℕ
step b n = if b then n else suc n

abbrev more_unless : Bool → ℕ
more_unless b = if b then 0 else 1

choice : (y : NumberedValue) (g : List NumberedValue) (gs : List (List NumberedValue)) (b : Bool)
    → length (if b then (y ∷ g) ∷ gs else (y ∷ []) ∷ g ∷ gs) ≡ step b (length (g ∷ gs))
choice y g gs true = refl
choice y g gs false = refl

-- a set before groups, the first of which begins with another
starts_by : (y z : NumberedValue) (g : List NumberedValue) (gs : List (List NumberedValue)) (c : Bool)
    → length (onto_groups y (if c then (z ∷ g) ∷ gs else (z ∷ []) ∷ g ∷ gs))
    ≡ step (same_key (key_in y) (key_in z)) (length (if c then (z ∷ g) ∷ gs else (z ∷ []) ∷ g ∷ gs))
starts_by y z g gs true = choice y (z ∷ g) gs (same_key (key_in y) (key_in z))
starts_by y z g gs false = choice y (z ∷ []) (g ∷ gs) (same_key (key_in y) (key_in z))

starts : (y z : NumberedValue) (groups : List (List NumberedValue))
    → length (onto_groups y (onto_groups z groups)) ≡ step (same_key (key_in y) (key_in z)) (length (onto_groups z groups))
starts y z [] = choice y (z ∷ []) [] (same_key (key_in y) (key_in z))
starts y z (g ∷ gs) = starts_by y z g gs (goes_with z g)

-- the key of the last set
abbrev last_in : List NumberedValue → Option RunKey
last_in [] = None
last_in (x ∷ []) = Some (key_in x)
last_in (x ∷ y ∷ ys) = last_in (y ∷ ys)

step_one : (b : Bool) → step b 1 ≡ 1 + more_unless b
step_one true = refl
step_one false = refl

step_on : (b : Bool) (n d : ℕ) → step b (n + d) ≡ step b n + d
step_on true n d = refl
step_on false n d = omega arith

-- the groups of sets with one more
groups_snoc : (y : NumberedValue) (ys : List NumberedValue) (x : NumberedValue)
    → length (groups_of ((y ∷ ys) ++ x ∷ [])) ≡ length (groups_of (y ∷ ys)) + more_unless (walking.goes_with (last_in (y ∷ ys)) (key_in x))
groups_snoc y [] x = starts y x [] ∙ step_one (same_key (key_in y) (key_in x))
groups_snoc y (z ∷ zs) x =
    let b : Bool = same_key (key_in y) (key_in z) in
    let d : ℕ = more_unless (walking.goes_with (last_in (z ∷ zs)) (key_in x)) in
    starts y z (groups_of (zs ++ x ∷ [])) ∙ ap (step b) (groups_snoc z zs x) ∙ step_on b (length (groups_of (z ∷ zs))) d
    ∙ ap (λ (n : ℕ). n + d) (sym (starts y z (groups_of zs)))

abbrev nil : (A : Type 0) → List A
nil A = []

take_front : {A : Type 0} (n : ℕ) (xs ys : List A) → n ≤ length xs → take n (xs ++ ys) ≡ take n xs
take_front zero xs ys h = refl
take_front (suc n) [] ys h = absurd (omega (arith, h))
take_front (suc n) (x ∷ xs) ys h = ap (λ zs. x ∷ zs) (take_front n xs ys (omega (arith, h)))

drop_front : {A : Type 0} (n : ℕ) (xs ys : List A) → n ≤ length xs → drop n (xs ++ ys) ≡ drop n xs ++ ys
drop_front zero xs ys h = refl
drop_front (suc n) [] ys h = absurd (omega (arith, h))
drop_front (suc n) (x ∷ xs) ys h = drop_front n xs ys (omega (arith, h))

nothing_left : (n : ℕ) → 0 < length (drop n (nil NumberedValue)) → ⊥
nothing_left zero some = omega (arith, some)
nothing_left (suc n) some = omega (arith, some)

last_drop : (n : ℕ) (xs : List NumberedValue) → 0 < length (drop n xs) → last_in (drop n xs) ≡ last_in xs
last_drop zero xs some = refl
last_drop (suc n) [] some = absurd (omega (arith, some))
last_drop (suc n) (x ∷ []) some = absurd (nothing_left n some)
last_drop (suc n) (x ∷ y ∷ ys) some = last_drop n (y ∷ ys) some

-- the groups of sets in interchanges of so many
abbrev pub total : (cap : ℕ) → List NumberedValue → ℕ
total cap xs = groups_within (interchanges_of cap xs)

pub total_none : (cap : ℕ) → total cap [] ≡ 0
total_none cap = ap groups_within (no_interchange cap [] refl)

total_more : (cap : ℕ) (xs : List NumberedValue) → 0 < cap → 0 < length xs
    → total cap xs ≡ length (groups_of (take cap xs)) + total cap (drop cap xs)
total_more cap xs h some = ap groups_within (first_interchange cap xs h some)

total_small : (cap : ℕ) (xs : List NumberedValue) → 0 < cap → 0 < length xs → length xs ≤ cap → total cap xs ≡ length (groups_of xs)
total_small cap xs h some few =
    total_more cap xs h some
    ∙ ap (λ (ys : List NumberedValue). length (groups_of ys) + total cap (drop cap xs)) (take_all cap xs few)
    ∙ ap (λ (ys : List NumberedValue). length (groups_of xs) + total cap ys) (drop_all cap xs few)
    ∙ ap (λ (n : ℕ). length (groups_of xs) + n) (total_none cap)
    ∙ omega arith

-- whether a set begins a group: the first of an interchange does, and one with another key than the last
abbrev pub begins : (left : ℕ) → Option RunKey → RunKey → ℕ
begins left last key = if left == 0 || not (walking.goes_with last key) then 1 else 0

begun_first : (last : Option RunKey) (key : RunKey) → begins 0 last key ≡ 1
begun_first last key = refl

begun_inside : (left : ℕ) (last : Option RunKey) (key : RunKey) → (left == 0) ≡ false
    → more_unless (walking.goes_with last key) ≡ begins left last key
begun_inside left last key inside =
    by (walking.goes_with last key) ∙ ap (λ (b : Bool). if b || not (walking.goes_with last key) then 1 else 0) (sym inside)
  where
    by : (b : Bool) → more_unless b ≡ (if false || not b then 1 else 0)
    by true = refl
    by false = refl

few_snoc : (cap : ℕ) (xs : List NumberedValue) (x : NumberedValue) → 0 < cap → length xs < cap
    → total cap (xs ++ x ∷ []) ≡ total cap xs + begins (length xs % cap) (last_in xs) (key_in x)
few_snoc cap [] x h few =
    total_small cap (x ∷ []) h (omega arith) (omega (arith, h))
    ∙ ap (λ (n : ℕ). n + 1) (sym (total_none cap))
    ∙ ap (λ (n : ℕ). total cap [] + begins n None (key_in x)) (sym (zero-mod cap))
few_snoc cap (y ∷ ys) x h few =
    let long : length ((y ∷ ys) ++ x ∷ []) ≡ length (y ∷ ys) + 1 = length-append (y ∷ ys) (x ∷ []) in
    let inside : (length (y ∷ ys) % cap == 0) ≡ false = ap (λ (n : ℕ). n == 0) (mod-eq_of_lt few) ∙ not_none (length ys) in
    total_small cap ((y ∷ ys) ++ x ∷ []) h (omega (arith, long)) (omega (arith, long, few))
    ∙ groups_snoc y ys x
    ∙ ap (λ (n : ℕ). length (groups_of (y ∷ ys)) + n) (begun_inside (length (y ∷ ys) % cap) (last_in (y ∷ ys)) (key_in x) inside)
    ∙ ap (λ (n : ℕ). n + begins (length (y ∷ ys) % cap) (last_in (y ∷ ys)) (key_in x))
    (sym (total_small cap (y ∷ ys) h (omega arith) (omega (arith, few))))

sum_on : (a b c : ℕ) → a + (b + c) ≡ a + b + c
sum_on a b c = omega arith

-- after full interchanges it is the same
begun_behind : (cap : ℕ) (xs : List NumberedValue) (key : RunKey) → 0 < cap → cap ≤ length xs
    → begins (length (drop cap xs) % cap) (last_in (drop cap xs)) key ≡ begins (length xs % cap) (last_in xs) key
begun_behind cap xs key h many = by (drop cap xs) refl
  where
    same : length (drop cap xs) % cap ≡ length xs % cap
    same =
        let all : cap + (length xs - cap) ≡ length xs = omega (arith, many) in
        ap (λ (n : ℕ). n % cap) (length-drop cap xs) ∙ sym (add-mod_left cap (length xs - cap)) ∙ ap (λ (n : ℕ). n % cap) all

    by : (ys : List NumberedValue) → drop cap xs ≡ ys
        → begins (length (drop cap xs) % cap) (last_in (drop cap xs)) key ≡ begins (length xs % cap) (last_in xs) key
    by [] none =
        let left : length (drop cap xs) % cap ≡ 0 = ap (λ (zs : List NumberedValue). length zs % cap) none ∙ zero-mod cap in
        ap (λ (n : ℕ). begins n (last_in (drop cap xs)) key) left
        ∙ sym (ap (λ (n : ℕ). begins n (last_in xs) key) (sym same ∙ left))
    by (y ∷ ys) some =
        let few : 0 < length (drop cap xs) = omega (arith, ap (λ (zs : List NumberedValue). length zs) some) in
        ap (λ (n : ℕ). begins n (last_in (drop cap xs)) key) same
        ∙ ap (λ (l : Option RunKey). begins (length xs % cap) l key) (last_drop cap xs few)

total_snoc : (cap fuel : ℕ) (xs : List NumberedValue) (x : NumberedValue) → 0 < cap → length xs ≤ fuel
    → total cap (xs ++ x ∷ []) ≡ total cap xs + begins (length xs % cap) (last_in xs) (key_in x)
total_snoc cap zero xs x h few = few_snoc cap xs x h (omega (arith, few, h))
total_snoc cap (suc fuel) xs x h few =
    by (cases_lt (length xs) cap)
    (λ many. total_snoc cap fuel (drop cap xs) x h (omega (arith, few, h, many, length-drop cap xs)))
  where
    more : ℕ
    more = begins (length (drop cap xs) % cap) (last_in (drop cap xs)) (key_in x)

    by : (length xs < cap) ⊎ (cap ≤ length xs)
        → (cap ≤ length xs → total cap (drop cap xs ++ x ∷ []) ≡ total cap (drop cap xs) + more)
        → total cap (xs ++ x ∷ []) ≡ total cap xs + begins (length xs % cap) (last_in xs) (key_in x)
    by (inl small) rest = few_snoc cap xs x h small
    by (inr many) rest =
        let long : length (xs ++ x ∷ []) ≡ length xs + 1 = length-append xs (x ∷ []) in
        let front : ℕ = length (groups_of (take cap xs)) in
        total_more cap (xs ++ x ∷ []) h (omega (arith, long))
        ∙ ap (λ (ys : List NumberedValue). length (groups_of ys) + total cap (drop cap (xs ++ x ∷ []))) (take_front cap xs (x ∷ []) many)
        ∙ ap (λ (ys : List NumberedValue). front + total cap ys) (drop_front cap xs (x ∷ []) many)
        ∙ ap (λ (n : ℕ). front + n) (rest many)
        ∙ sum_on front (total cap (drop cap xs)) more
        ∙ ap (λ (n : ℕ). n + more) (sym (total_more cap xs h (omega (arith, many, h))))
        ∙ ap (λ (n : ℕ). total cap xs + n) (begun_behind cap xs (key_in x) h many)

numbered_snoc : (k : ℕ) (ps : List PlacedValue) (p : PlacedValue)
    → numbered_from k (ps ++ p ∷ []) ≡ numbered_from k ps ++ record { place = k + length ps; set = p } ∷ []
numbered_snoc k [] p = let none : k ≡ k + 0 = omega arith in ap (λ (n : ℕ). record { place = n; set = p } ∷ []) none
numbered_snoc k (q ∷ ps) p =
    let next : k + 1 + length ps ≡ k + suc (length ps) = omega arith in
    ap (λ (xs : List NumberedValue). record { place = k; set = q } ∷ xs) (numbered_snoc (k + 1) ps p
    ∙ ap (λ (n : ℕ). numbered_from (k + 1) ps ++ record { place = n; set = p } ∷ []) next)

numbered_length : (k : ℕ) (ps : List PlacedValue) → length (numbered_from k ps) ≡ length ps
numbered_length k [] = refl
numbered_length k (p ∷ ps) = ap suc (numbered_length (k + 1) ps)

numbered_last : (k : ℕ) (ps : List PlacedValue) → last_in (numbered_from k ps) ≡ last_key ps
numbered_last k [] = refl
numbered_last k (p ∷ []) = refl
numbered_last k (p ∷ q ∷ ps) = numbered_last (k + 1) (q ∷ ps)

-- a mailbox with one set more has one group more where that begins a group
pub group_total_snoc : (cap : ℕ) (ps : List PlacedValue) (p : PlacedValue) → 1 ≤ cap
    → group_total cap (ps ++ p ∷ []) ≡ group_total cap ps + begins (length ps % cap) (last_key ps) (group_key_of p)
group_total_snoc cap ps p h =
    let xs : List NumberedValue = numbered_from 0 ps in
    let x : NumberedValue = record { place = 0 + length ps; set = p } in
    ap (total cap) (numbered_snoc 0 ps p)
    ∙ total_snoc cap (length xs) xs x h (omega arith)
    ∙ ap (λ (n : ℕ). total cap xs + begins (n % cap) (last_in xs) (group_key_of p)) (numbered_length 0 ps)
    ∙ ap (λ (l : Option RunKey). total cap xs + begins (length ps % cap) l (group_key_of p)) (numbered_last 0 ps)
