-- A list in whose order a number never falls, in three: where the number is less, where it is this one, where it is greater.
use Rattle.std.proofs.Common.{◌≡◌, ℕ, ◌<◌, ◌≤◌, ◌⊎◌, Bool, true, false, cond, List, [], ◌∷◌, ◌++◌, refl, ap, ◌∙◌, arith, inl, inr}
use Rattle.std.proofs.Common.{Ordering, Less, Equal, Greater, lt-ltb, le-ltb, eq-eqb, eqb-true, ltb-true}
use Rattle.std.specs.Prelude.{◌==◌, nat_lt, filter, ⊤}
use Rattle.std.specs.List.{AllByRecursion}
use Rattle.std.specs.Cmp.Lexicographic.{slice_cmp}
use Rattle.std.specs.Ordering.{nat_cmp, ordering_then}
use Rattle.std.proofs.lemmas.Bool.{ne_eqb, cases_order}
use Rattle.std.proofs.lemmas.List.Elements.{recursion_from_All}
use Rattle.std.proofs.lemmas.Map.Keys.{sorted_tail}
use Rattle.std.proofs.lemmas.Map.Views.{All-after_first}
use Rattle.hub_kinds.specs.Words.{elem_key, AreRising, key_of, order_by}
use Rattle.hub_kinds.specs.declared.fault.Fault.{Fault}
use Rattle.ack_999.specs.Rising.{rank_of}

-- of two lists in order, the first numbers decide, or are equal
first-of : (l e : Bool) (rest : Ordering) → ordering_then (cond l Less (cond e Equal Greater)) rest ≡ Less
    → (l ≡ true) ⊎ ((e ≡ true) × (rest ≡ Less))
first-of true e rest h = inl refl
first-of false true rest h = inr (refl, h)
first-of false false rest h = cc

order-first : (a b : ℕ) (xs ys : List ℕ) → slice_cmp nat_cmp (a ∷ xs) (b ∷ ys) ≡ Less
    → (a < b) ⊎ ((a ≡ b) × (slice_cmp nat_cmp xs ys ≡ Less))
order-first a b xs ys less = told (first-of (nat_lt a b) (a == b) (slice_cmp nat_cmp xs ys) less)
  where
    told : (nat_lt a b ≡ true) ⊎ (((a == b) ≡ true) × (slice_cmp nat_cmp xs ys ≡ Less))
        → (a < b) ⊎ ((a ≡ b) × (slice_cmp nat_cmp xs ys ≡ Less))
    told (inl l) = inl (ltb-true a b l)
    told (inr both) = inr (eqb-true a b both.0, both.1)

at-most : (a b : ℕ) (P : Type 0) → (a < b) ⊎ ((a ≡ b) × P) → a ≤ b
at-most a b P (inl less) = omega (arith, less)
at-most a b P (inr same) = let e = same.0 in omega (arith, e)

-- what is compared after the position, and after the rank
abbrev by_rank : Fault → List ℕ
by_rank f = rank_of f ∷ f.slot ∷ elem_key f.elem

abbrev by_slot : Fault → List ℕ
by_slot f = f.slot ∷ elem_key f.elem

pub position-rises : (f g : Fault) → order_by key_of f g ≡ Less → f.position ≤ g.position
position-rises f g less =
    at-most f.position g.position (slice_cmp nat_cmp (by_rank f) (by_rank g) ≡ Less)
    (order-first f.position g.position (by_rank f) (by_rank g) less)

pub rank-rises : (p : ℕ) (f g : Fault) → f.position ≡ p → g.position ≡ p → order_by key_of f g ≡ Less → rank_of f ≤ rank_of g
rank-rises p f g at_f at_g less = told (order-first f.position g.position (by_rank f) (by_rank g) less)
  where
    told : (f.position < g.position) ⊎ ((f.position ≡ g.position) × (slice_cmp nat_cmp (by_rank f) (by_rank g) ≡ Less))
        → rank_of f ≤ rank_of g
    told (inl below) = absurd (omega (arith, below, at_f, at_g))
    told (inr same) =
        at-most (rank_of f) (rank_of g) (slice_cmp nat_cmp (by_slot f) (by_slot g) ≡ Less)
        (order-first (rank_of f) (rank_of g) (by_slot f) (by_slot g) same.1)

-- the number never falls
abbrev pub Rises : (Fault → ℕ) → List Fault → Type 0
Rises key [] = ⊤
Rises key (x ∷ xs) = AllByRecursion (λ y. key x ≤ key y) xs × Rises key xs

behind : (key : Fault → ℕ) (Q : Fault → Type 0) → ((f g : Fault) → Q f → Q g → order_by key_of f g ≡ Less → key f ≤ key g)
    → (x : Fault) (ys : List Fault) → Q x → AllByRecursion Q ys → AllByRecursion (λ y. order_by key_of x y ≡ Less) ys
    → AllByRecursion (λ y. key x ≤ key y) ys
behind key Q step x [] q all less = tt
behind key Q step x (y ∷ ys) q all less = (step x y q all.0 less.0, behind key Q step x ys q all.1 less.1)

pub rises-from : (key : Fault → ℕ) (Q : Fault → Type 0) → ((f g : Fault) → Q f → Q g → order_by key_of f g ≡ Less → key f ≤ key g)
    → (xs : List Fault) → AllByRecursion Q xs → AreRising xs → Rises key xs
rises-from key Q step [] all rising = tt
rises-from key Q step (x ∷ xs) all rising = (
  behind key Q step x xs all.0 all.1
      (recursion_from_All (λ y. order_by key_of x y ≡ Less) xs (All-after_first (order_by key_of) x xs rising)),
  rises-from key Q step xs all.1 (sorted_tail (order_by key_of) x xs rising),
)

pub every : (xs : List Fault) → AllByRecursion (λ _. ⊤) xs
every [] = tt
every (x ∷ xs) = (tt, every xs)

pub weaker : (P Q : Fault → Type 0) → ((x : Fault) → P x → Q x) → (xs : List Fault) → AllByRecursion P xs → AllByRecursion Q xs
weaker P Q f [] all = tt
weaker P Q f (x ∷ xs) all = (f x all.0, weaker P Q f xs all.1)

pub filter-none : (t : Fault → Bool) (xs : List Fault) → AllByRecursion (λ x. t x ≡ false) xs → filter t xs ≡ []
filter-none t [] all = refl
filter-none t (x ∷ xs) all = ap (λ (b : Bool). cond b (x ∷ filter t xs) (filter t xs)) all.0 ∙ filter-none t xs all.1

-- what passes a test, passes it
pub filter-passes : (t : Fault → Bool) (xs : List Fault) → AllByRecursion (λ x. t x ≡ true) (filter t xs)
filter-passes t [] = tt
filter-passes t (x ∷ xs) = kept (t x) refl (filter-passes t xs)
  where
    kept : (b : Bool) → t x ≡ b → AllByRecursion (λ x. t x ≡ true) (filter t xs)
        → AllByRecursion (λ x. t x ≡ true) (cond b (x ∷ filter t xs) (filter t xs))
    kept true h rest = (h, rest)
    kept false h rest = rest

pub filter-keeps : (P : Fault → Type 0) (t : Fault → Bool) (xs : List Fault) → AllByRecursion P xs → AllByRecursion P (filter t xs)
filter-keeps P t [] all = tt
filter-keeps P t (x ∷ xs) all = kept (t x) (filter-keeps P t xs all.1)
  where
    kept : (b : Bool) → AllByRecursion P (filter t xs) → AllByRecursion P (cond b (x ∷ filter t xs) (filter t xs))
    kept true rest = (all.0, rest)
    kept false rest = rest

pub filter-alike : (s t : Fault → Bool) (xs : List Fault) → AllByRecursion (λ x. s x ≡ t x) xs → filter s xs ≡ filter t xs
filter-alike s t [] all = refl
filter-alike s t (x ∷ xs) all =
    ap (λ (b : Bool). cond b (x ∷ filter s xs) (filter s xs)) all.0
    ∙ ap (λ (l : List Fault). cond (t x) (x ∷ l) l) (filter-alike s t xs all.1)

lesser : (xs : List Fault) (x : Fault) (L E G : List Fault) (l e g : Bool) → l ≡ true → e ≡ false → g ≡ false → xs ≡ L ++ E ++ G
    → x ∷ xs ≡ cond l (x ∷ L) L ++ cond e (x ∷ E) E ++ cond g (x ∷ G) G
lesser xs x L E G l e g is_l is_e is_g is = rw (is_l, is_e, is_g) (ap (λ (t : List Fault). x ∷ t) is)

same : (xs : List Fault) (x : Fault) (L E G : List Fault) (l e g : Bool) → l ≡ false → e ≡ true → g ≡ false → L ≡ [] → xs ≡ L ++ E ++ G
    → x ∷ xs ≡ cond l (x ∷ L) L ++ cond e (x ∷ E) E ++ cond g (x ∷ G) G
same xs x L E G l e g is_l is_e is_g none is =
    rw (is_l, is_e, is_g, none) (ap (λ (t : List Fault). x ∷ t) (is ∙ ap (λ (t : List Fault). t ++ E ++ G) none))

greater : (xs : List Fault) (x : Fault) (L E G : List Fault) (l e g : Bool) → l ≡ false → e ≡ false → g ≡ true → L ≡ [] → E ≡ []
    → xs ≡ L ++ E ++ G → x ∷ xs ≡ cond l (x ∷ L) L ++ cond e (x ∷ E) E ++ cond g (x ∷ G) G
greater xs x L E G l e g is_l is_e is_g none neither is =
    rw (is_l, is_e, is_g, none, neither)
    (ap (λ (t : List Fault). x ∷ t) (is ∙ ap (λ (t : List Fault). t ++ E ++ G) none ∙ ap (λ (t : List Fault). t ++ G) neither))

pub thirds : (key : Fault → ℕ) (k : ℕ) (xs : List Fault) → Rises key xs
    → xs ≡ filter (λ x. nat_lt (key x) k) xs ++ filter (λ x. key x == k) xs ++ filter (λ x. nat_lt k (key x)) xs
thirds key k [] rises = refl
thirds key k (x ∷ xs) rises = by (cases_order (key x) k) (thirds key k xs rises.1)
  where
    L : List Fault
    L = filter (λ x. nat_lt (key x) k) xs

    E : List Fault
    E = filter (λ x. key x == k) xs

    G : List Fault
    G = filter (λ x. nat_lt k (key x)) xs

    none : k ≤ key x → L ≡ []
    none from = filter-none (λ x. nat_lt (key x) k) xs
        (weaker (λ y. key x ≤ key y) (λ y. nat_lt (key y) k ≡ false) (λ y up. le-ltb (key y) k (omega (arith, from, up))) xs rises.0)

    neither : k < key x → E ≡ []
    neither from = filter-none (λ x. key x == k) xs
        (weaker (λ y. key x ≤ key y) (λ y. (key y == k) ≡ false)
        (λ y up. ne_eqb (key y) k (λ e. absurd (omega (arith, from, up, e)))) xs rises.0)

    by : (key x ≡ k) ⊎ ((key x < k) ⊎ (k < key x)) → xs ≡ L ++ E ++ G
        → x ∷ xs ≡ cond (nat_lt (key x) k) (x ∷ L) L ++ cond (key x == k) (x ∷ E) E ++ cond (nat_lt k (key x)) (x ∷ G) G
    by (inl at) is =
        same xs x L E G (nat_lt (key x) k) (key x == k) (nat_lt k (key x)) (le-ltb (key x) k (omega (arith, at))) (eq-eqb (key x) k at)
        (le-ltb k (key x) (omega (arith, at))) (none (omega (arith, at))) is
    by (inr (inl less)) is =
        lesser xs x L E G (nat_lt (key x) k) (key x == k) (nat_lt k (key x)) (lt-ltb (key x) k less)
        (ne_eqb (key x) k (λ e. absurd (omega (arith, less, e)))) (le-ltb k (key x) (omega (arith, less))) is
    by (inr (inr more)) is =
        greater xs x L E G (nat_lt (key x) k) (key x == k) (nat_lt k (key x)) (le-ltb (key x) k (omega (arith, more)))
        (ne_eqb (key x) k (λ e. absurd (omega (arith, more, e)))) (lt-ltb k (key x) more) (none (omega (arith, more))) (neither more) is
