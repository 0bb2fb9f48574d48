-- Two numbers of a list are exchanged, of which one comes to its place.
use Rattle.std.proofs.Common.{◌≡◌, ◌==◌, ℕ, zero, suc, ◌+◌, ◌<◌, ◌≤◌, ◌≢◌, Bool, List, [], ◌∷◌, length, map, set, get_or}
use Rattle.std.proofs.Common.{Some, slice_get, sym, refl, ap, ◌∙◌, ⊎_elim, if◌then◌else◌, subst, arith}
use Rattle.std.specs.List.{swap}
use Rattle.std.proofs.lemmas.Bool.{eq-eqb, ne_eqb, cases_eq}
use Rattle.std.proofs.lemmas.List.{map-set, get_or-set_other, length-set}
use Rattle.std.proofs.Math.ListN.{get_or-map}
use Rattle.std.proofs.lemmas.List.Edits.{swap_is, swapped_from_swap, length-swap}
use Rattle.std.proofs.lemmas.List.Sorted.{IsPermutation-swap}
use Rattle.std.proofs.lemmas.Option.{slice_get-get_or, get_or_from_slice_get, slice_get_within, same_Some}
use Rattle.claim_desk.specs.Seats.{EachOnce}
use Rattle.job_pool.specs.Work.{IsHome, StayHome, numbers_from}
use Rattle.job_pool.proofs.Counting.{EachOnce-permutation, is_below, is_within, at_least, in_one_place}

abbrev off : ℕ → ℕ → ℕ
off x y = if◌then◌else◌ {A = ℕ} (x == y) 0 1

is_off : (x y : ℕ) → x ≢ y → off x y ≡ 1
is_off x y n = ap (λ (b : Bool). if◌then◌else◌ {A = ℕ} b 0 1) (ne_eqb x y n)

off_one : (x y : ℕ) → off x y ≤ 1
off_one x y =
    ⊎_elim (λ (e : x ≡ y). let z : off x y ≡ 0 = ap (λ (b : Bool). if◌then◌else◌ {A = ℕ} b 0 1) (eq-eqb x y e) in omega arith)
    (λ (n : x ≢ y). let o = is_off x y n in omega arith) (cases_eq x y)

-- how many numbers aren't at their places, which are counted from a
abbrev pub away : ℕ → List ℕ → ℕ
away a [] = 0
away a (x ∷ xs) = off x a + away (a + 1) xs

away-set : (a : ℕ) (xs : List ℕ) (i v d b : ℕ) → i < length xs → b ≡ a + i
    → away a (set xs i v) + off (get_or xs i d) b ≡ away a xs + off v b
away-set a [] i v d b h e = absurd (omega arith)
away-set a (x ∷ xs) zero v d b h e =
    let s : b ≡ a = omega arith in
    let x_off = ap (λ (n : ℕ). off x n) s in
    let v_off = ap (λ (n : ℕ). off v n) s in omega arith
away-set a (x ∷ xs) (suc i) v d b h e =
    let r = away-set (a + 1) xs i v d b (omega arith) (omega arith) in omega arith

-- the number of one place and the place of that number change
exchange_brings : (n : ℕ) (xs : List ℕ) (i m : ℕ) → EachOnce n xs → slice_get xs i ≡ Some m → m ≢ i
    → away 0 (swap xs i m) < away 0 xs
exchange_brings n xs i m once at apart =
    let here : i < length xs = slice_get_within xs i m at in
    let there : m < length xs = is_within n xs once i m at in
    let was : get_or xs i 0 ≡ m = get_or_from_slice_get xs i m 0 at in
    let moved = get_or xs m 0 in
    let away_there : moved ≢ m =
    λ e. in_one_place n xs once i m m at (λ s. apart (sym s)) (slice_get-get_or xs m 0 there ∙ ap Some e) in
    let first = away-set 0 xs i moved 0 i here (omega arith) in
    let kept : get_or (set xs i moved) m 0 ≡ moved = get_or-set_other xs i m moved 0 apart in
    let second = away-set 0 (set xs i moved) m (get_or xs i 0) 0 m (omega (arith, length-set xs i moved)) (omega arith) in
    let is = ap (λ (l : List ℕ). away 0 l) (swap_is xs i m 0 here there) in
    let a : off (get_or xs i 0) i ≡ 1 = ap (λ (x : ℕ). off x i) was ∙ is_off m i apart in
    let b : off (get_or (set xs i moved) m 0) m ≡ 1 = ap (λ (x : ℕ). off x m) kept ∙ is_off moved m away_there in
    let c : off (get_or xs i 0) m ≡ 0 = ap (λ (x : ℕ). off x m) was ∙ ap (λ (b : Bool). if◌then◌else◌ {A = ℕ} b 0 1) (eq-eqb m m refl) in
    let d = off_one moved i in
    omega arith

exchange_keeps : (xs : List ℕ) (i m : ℕ) → m < length xs → slice_get xs i ≡ Some m → m ≢ i → StayHome xs (swap xs i m)
exchange_keeps xs i m there at apart k home =
    let here : i < length xs = slice_get_within xs i m at in
    let was : get_or xs i 0 ≡ m = get_or_from_slice_get xs i m 0 at in
    let is : get_or xs k 0 ≡ k = get_or_from_slice_get xs k k 0 home in
    let within : k < length xs = slice_get_within xs k k home in
    let swapped = swapped_from_swap xs (swap xs i m) i m 0 here there refl in
    let other : k ≢ i = λ e. apart (sym was ∙ ap (λ (n : ℕ). get_or xs n 0) (sym e) ∙ is ∙ e) in
    let stays : get_or (swap xs i m) k 0 ≡ k =
    ⊎_elim (λ (e : k ≡ m). ap (λ (n : ℕ). get_or (swap xs i m) n 0) e ∙ swapped.1 ∙ was ∙ sym e)
    (λ (n : k ≢ m). swapped.2 k other n ∙ is) (cases_eq k m) in
    slice_get-get_or (swap xs i m) k 0 (omega (arith, length-swap xs i m)) ∙ ap Some stays

exchange_once : (n : ℕ) (xs : List ℕ) (i m : ℕ) → i < length xs → m < length xs → EachOnce n xs → EachOnce n (swap xs i m)
exchange_once n xs i m here there = EachOnce-permutation n xs (swap xs i m) (IsPermutation-swap xs (swap xs i m) i m here there refl)

map-swap : {X : Type 0} (f : X → ℕ) (xs : List X) (i j : ℕ) → map f (swap xs i j) ≡ swap (map f xs) i j
map-swap f [] i j = refl
map-swap f (x ∷ xs) i j =
    let all = x ∷ xs in
    let at_i = get_or all i x in
    let at_j = get_or all j x in
    let sets : map f (set (set all i at_j) j at_i) ≡ set (set (map f all) i (f at_j)) j (f at_i) = simp map-set in
    sets
    ∙ ap (λ (v : ℕ). set (set (map f all) i v) j (f at_i)) (sym (get_or-map f all j x))
    ∙ ap (λ (v : ℕ). set (set (map f all) i (get_or (map f all) j (f x))) j v) (sym (get_or-map f all i x))

-- what one exchange does, where it brings the answer of place i to its own place m
pub exchanged : {X : Type 0} (f : X → ℕ) (n : ℕ) (xs ys : List X) (i m : ℕ)
    → EachOnce n (map f xs) → slice_get (map f xs) i ≡ Some m → m ≢ i → ys ≡ swap xs i m
    → EachOnce n (map f ys) × StayHome (map f xs) (map f ys) × (away 0 (map f ys) < away 0 (map f xs))
exchanged f n xs ys i m once at apart is =
    let old = map f xs in
    let here : i < length old = slice_get_within old i m at in
    let there : m < length old = is_within n old once i m at in
    let e : map f ys ≡ swap old i m = ap (λ l. map f l) is ∙ map-swap f xs i m in
    subst (λ (new : List ℕ). EachOnce n new × StayHome old new × (away 0 new < away 0 old)) (sym e)
    (exchange_once n old i m here there once, exchange_keeps old i m there at apart, exchange_brings n old i m once at apart)

-- all at their places, which are counted from a
in_places : (a : ℕ) (xs : List ℕ) → ((k : ℕ) → k < length xs → slice_get xs k ≡ Some (a + k)) → xs ≡ numbers_from a (length xs)
in_places a [] at = refl
in_places a (x ∷ xs) at =
    let e : x ≡ a = same_Some x a (let s : a + 0 ≡ a = omega arith in at 0 (omega arith) ∙ ap Some s) in
    let r = in_places (a + 1) xs (λ k h. let s : a + suc k ≡ a + 1 + k = omega arith in at (suc k) (omega arith) ∙ ap Some s) in
    λ i. e i ∷ r i

pub all_home : (n : ℕ) (xs : List ℕ) → EachOnce n xs → ((k : ℕ) → k < length xs → IsHome xs k) → xs ≡ numbers_from 0 n
all_home n [] once home =
    let g = at_least n [] once in
    let e : 0 ≡ n = omega arith in ap (λ (m : ℕ). numbers_from 0 m) e
all_home n (x ∷ xs) once home =
    let g = at_least n (x ∷ xs) once in
    let last = is_below n (x ∷ xs) once (length xs) (length xs) (home (length xs) (omega arith)) in
    let e : length (x ∷ xs) ≡ n = omega arith in
    in_places 0 (x ∷ xs) (λ k h. let s : k ≡ 0 + k = omega arith in home k h ∙ ap Some s) ∙ ap (λ (m : ℕ). numbers_from 0 m) e
