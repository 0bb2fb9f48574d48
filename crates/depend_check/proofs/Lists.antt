-- Own: what holds of some view of a list, and lists that are made item by item.
use Rattle.std.proofs.Common.{◌≡◌, ℕ, ◌+◌, ◌<◌, List, [], ◌∷◌, ◌++◌, length, get_or, take, map, refl, sym, ap, ◌∙◌, arith}
use Rattle.std.proofs.Common.{Bool, true, false, ◌||◌, cond, true≢false, ◌↔◌, inl, inr}
use Rattle.std.specs.List.{Contains, list_any, flat_map, filter}
use Rattle.std.specs.List.Sorted.{IsPermutation}
use Rattle.std.proofs.lemmas.List.{take_more, append_assoc, append-nil, length-map, map-append}
use Rattle.std.proofs.lemmas.List.Elements.{Contains-append_left, Contains-append_right, Contains-append_cases}
use Rattle.std.proofs.lemmas.List.Elements.{All-contains, All-filter, All-contains_itself, filter_passes, filter_more}
use Rattle.std.proofs.lemmas.List.Sorted.{IsPermutation-map, IsPermutation-sym, Contains-permutation}
use Rattle.std.proofs.lemmas.List as texts
use Rattle.elem_rules.proofs.ForAbove.{no_member, contains_one, one_contains}
use Rattle.std.proofs.lemmas.List.Folds.{flat_map-map, list_any_at, Any-from_list_any}
use Rattle.std.proofs.lemmas.Grind.{flat_map-append}

pub any_view : {X Y : Type 0} (test : Y → Bool) (v : X → Y) (xs : List X) → list_any (λ x. test (v x)) xs ≡ list_any test (map v xs)
any_view test v [] = refl
any_view test v (x ∷ xs) = ap (λ (b : Bool). test (v x) || b) (any_view test v xs)

one_more : {X A : Type 0} (f : X → List A) (xs : List X) (i : ℕ) (x : X) → x ≡ get_or xs i x → i < length xs
    → flat_map f (take (i + 1) xs) ≡ flat_map f (take i xs) ++ f x
one_more f xs i x e l =
    ap (flat_map f) (take_more xs i x l)
    ∙ ap (λ y. flat_map f (take i xs ++ y ∷ [])) (sym e)
    ∙ flat_map-append f (take i xs) (x ∷ [])
    ∙ ap (λ zs. flat_map f (take i xs) ++ zs) (append-nil (f x))

pub flat_more : {X A : Type 0} (f : X → List A) (init old new : List A) (xs : List X) (i : ℕ) (x : X) → x ≡ get_or xs i x
    → i < length xs → old ≡ init ++ flat_map f (take i xs) → new ≡ old ++ f x → new ≡ init ++ flat_map f (take (i + 1) xs)
flat_more f init old new xs i x e l told more =
    more ∙ ap (λ ys. ys ++ f x) told ∙ append_assoc init (flat_map f (take i xs)) (f x)
    ∙ ap (λ ys. init ++ ys) (sym (one_more f xs i x e l))

-- the same over views
pub flat_more_views : {X Y A : Type 0} (f : Y → List A) (v : X → Y) (init old new : List A) (xs : List X) (i : ℕ) (x : X)
    → x ≡ get_or xs i x → i < length xs → old ≡ init ++ flat_map f (map v (take i xs)) → new ≡ old ++ f (v x)
    → new ≡ init ++ flat_map f (map v (take (i + 1) xs))
flat_more_views f v init old new xs i x e l told more =
    flat_more (λ y. f (v y)) init old new xs i x e l (told ∙ ap (λ ys. init ++ ys) (flat_map-map f v (take i xs))) more
    ∙ ap (λ ys. init ++ ys) (sym (flat_map-map f v (take (i + 1) xs)))

-- what a view of a list has
pub from_map : {X Y : Type 0} (v : X → Y) (xs : List X) (y : Y) → Contains (map v xs) y → (x : X) × Contains xs x × (v x ≡ y)
from_map v [] y c = absurd (no_member y c)
from_map v (x ∷ xs) y c = elim (Contains-append_cases (v x ∷ []) (map v xs) y c) [
  | inl e ↦ (x, Contains-append_left (x ∷ []) xs x (one_contains x), sym (contains_one (v x) y e))
  | inr e ↦ let r = from_map v xs y e in (r.0, Contains-append_right (x ∷ []) xs r.0 r.1, r.2)
]

pub in_map : {X Y : Type 0} (v : X → Y) (xs : List X) (x : X) → Contains xs x → Contains (map v xs) (v x)
in_map v xs x (k, l, e) =
    let n : length (map v xs) ≡ length xs = length-map xs v in
    (k, omega arith, texts.get_or-map v xs k x (v x) l ∙ ap v e)

pub more_views : {X Y : Type 0} (v : X → Y) (xs : List X) (i : ℕ) (x : X) → x ≡ get_or xs i x → i < length xs
    → map v (take (i + 1) xs) ≡ map v (take i xs) ++ v x ∷ []
more_views v xs i x e l =
    ap (map v) (take_more xs i x l) ∙ ap (λ y. map v (take i xs ++ y ∷ [])) (sym e) ∙ map-append v (take i xs) (x ∷ [])

pub any_same : {X : Type 0} (p q : X → Bool) (xs : List X) → ((x : X) → p x ≡ q x) → list_any p xs ≡ list_any q xs
any_same p q [] same = refl
any_same p q (x ∷ xs) same = ap (λ b. b || list_any p xs) (same x) ∙ ap (λ b. q x || b) (any_same p q xs same)

-- what has an item that passes
pub any_with : {X : Type 0} (test : X → Bool) (xs : List X) (x : X) → Contains xs x → test x ≡ true → list_any test xs ≡ true
any_with test xs x c h = list_any_at test xs c.0 x c.1 (ap test c.2 ∙ h)

pub with_any : {X : Type 0} (test : X → Bool) (xs : List X) → list_any test xs ≡ true → (x : X) × Contains xs x × (test x ≡ true)
with_any test xs h = let a = Any-from_list_any test xs h in (a.1, (a.0, a.2, a.3), a.4)

pub same_truth : (a b : Bool) → (a ≡ true → b ≡ true) → (b ≡ true → a ≡ true) → a ≡ b
same_truth true b to back = sym (to refl)
same_truth false true to back = back refl
same_truth false false to back = refl

-- what a test keeps
in_kept : {X : Type 0} (b : Bool) (x : X) (xs : List X) (y : X) → (b ≡ true → Contains (x ∷ xs) y) → (b ≡ false → Contains xs y)
    → Contains (cond b (x ∷ xs) xs) y
in_kept true x xs y first rest = first refl
in_kept false x xs y first rest = rest refl

in_filter : {X : Type 0} (test : X → Bool) (xs : List X) (x : X) → Contains xs x → test x ≡ true → Contains (filter test xs) x
in_filter test [] x c h = absurd (no_member x c)
in_filter test (y ∷ ys) x c h = elim (Contains-append_cases (y ∷ []) ys x c) [
  | inl e ↦ in_kept (test y) y (filter test ys) x
      (λ k. Contains-append_left (y ∷ []) (filter test ys) x e)
      (λ k. absurd (true≢false (sym h ∙ ap test (contains_one y x e) ∙ k)))
  | inr e ↦ let c2 = in_filter test ys x e h in
      in_kept (test y) y (filter test ys) x (λ k. Contains-append_right (y ∷ []) (filter test ys) x c2) (λ k. c2)
]

pub of_filter : {X : Type 0} (test : X → Bool) (xs : List X) (x : X) → Contains (filter test xs) x ↔ (Contains xs x × (test x ≡ true))
of_filter test xs x = (
  λ c. (
    All-contains (Contains xs) (filter test xs) x (All-filter test (Contains xs) xs (All-contains_itself xs)) c,
    All-contains (λ y. test y ≡ true) (filter test xs) x (filter_passes test xs) c,
  ),
  λ w. in_filter test xs x w.0 w.1,
)

-- a list in another order has the same items, and so have its views
pub reordered : {X Y : Type 0} (v : X → Y) (xs ys : List X) (y : Y) → IsPermutation xs ys → Contains (map v ys) y ↔ Contains (map v xs) y
reordered v xs ys y moved =
    let m = IsPermutation-map v xs ys moved in (
      Contains-permutation (map v ys) (map v xs) y (IsPermutation-sym (map v xs) (map v ys) m),
      Contains-permutation (map v xs) (map v ys) y m,
    )

-- what a test kept of the items so far, with one more
pub kept_more : {X Y : Type 0} (test : Y → Bool) (v : X → Y) (all : List X) (i : ℕ) (x : X) (old new : List Y) → x ≡ get_or all i x
    → i < length all → old ≡ filter test (take i (map v all)) → new ≡ old ++ cond (test (v x)) (v x ∷ []) []
    → new ≡ filter test (take (i + 1) (map v all))
kept_more test v all i x old new is l told more =
    let n : length (map v all) ≡ length all = length-map all v in
    let e : get_or (map v all) i (v x) ≡ v x = texts.get_or-map v all i x (v x) l ∙ ap v (sym is) in
    more
    ∙ ap (λ ys. ys ++ cond (test (v x)) (v x ∷ []) []) told
    ∙ ap (λ y. filter test (take i (map v all)) ++ cond (test y) (y ∷ []) []) (sym e)
    ∙ sym (filter_more test (map v all) i (v x) (omega arith))

kept_view : {X Y : Type 0} (b : Bool) (v : X → Y) (x : X) (xs : List X) (ys : List Y) → map v xs ≡ ys
    → map v (cond b (x ∷ xs) xs) ≡ cond b (v x ∷ ys) ys
kept_view true v x xs ys e = ap (λ l. v x ∷ l) e
kept_view false v x xs ys e = e

-- what a test keeps of a view
pub filter_view : {X Y : Type 0} (test : Y → Bool) (v : X → Y) (xs : List X) → map v (filter (λ x. test (v x)) xs) ≡ filter test (map v xs)
filter_view test v [] = refl
filter_view test v (x ∷ xs) =
    kept_view (test (v x)) v x (filter (λ y. test (v y)) xs) (filter test (map v xs)) (filter_view test v xs)
