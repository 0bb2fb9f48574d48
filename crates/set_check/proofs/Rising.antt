-- Faults that stand in order have one fault for each key, which a search by halves finds.
use Rattle.std.proofs.Common.{◌≡◌, ◌↔◌, ◌⊎◌, inl, inr, ℕ, ◌+◌, ◌<◌, Bool, true, false, not, List, [], ◌∷◌, ◌++◌, length, get_or}
use Rattle.std.proofs.Common.{refl, sym, ap, ◌∙◌, subst, arith, ⊎_elim, true≢false, if◌then◌else◌}
use Rattle.std.specs.Prelude.{Result, Ok, Err, is_ok}
use Rattle.std.specs.List.{Contains, filter}
use Rattle.std.specs.List.Sorted.{IsBinarySearchResult, IsNonDecreasingBy, IsSearchInRange, IsSorted}
use Rattle.std.specs.Ordering.{is_lt, is_eq, ordering_index, ordering_reverse}
use Rattle.std.specs.declared.cmp.Ordering.{Ordering}
use Rattle.std.specs.declared.cmp.Ordering.TheVariants.{Less, Equal, Greater}
use Rattle.std.specs.Cmp.{IsTotalOrder}
use Rattle.std.specs.Cmp.Lexicographic.{on_texts}
use Rattle.std.proofs.lemmas.Cmp.{nat_list_cmp_total, tied_itself}
use Rattle.std.proofs.lemmas.List.{get_or_default}
use Rattle.std.proofs.lemmas.List.Elements.{Contains-append_left, Contains-append_right, Contains-append_cases}
use Rattle.std.proofs.lemmas.List.Folds.{list_any_at, list_any_none, Any-from_list_any}
use Rattle.std.proofs.lemmas.List.Sorted.{searchable_from_sorted}
use Rattle.std.proofs.lemmas.Bool.{cases_lt, cases_order, false_from_ne_true, not-true}
use Rattle.std.proofs.lemmas.Map.Keys.{Less-from_sorted}
use Rattle.std.proofs.lemmas.Map.Views.{tells_apart}
use Rattle.std.proofs.lemmas.Map.Lookups.{exact_bytes}
use Rattle.hub_kinds.specs.declared.fault.Fault.{Fault}
use Rattle.hub_kinds.specs.Words.{AreRising, key_of, order_by, IsKeyedBy}
use Rattle.guide_tree.proofs.ForAbove.{In}
use Rattle.guide_law.proofs.ForAbove.{in_contains, contains_in}
use Rattle.set_check.specs.Adding.{HasKeyAmong, IsBeside, has_key_among}

abbrev order : Fault → Fault → Ordering
order = order_by key_of

total : IsTotalOrder order
total = on_texts key_of

tied : (x y : Fault) → key_of x ≡ key_of y → order x y ≡ Equal
tied x y k = ap (λ (l : List ℕ). order_by {A = List ℕ} (λ m. m) l (key_of y)) k ∙ tied_itself nat_list_cmp_total (key_of y)

-- the one in front has another key
before : (faults : List Fault) (x y : Fault) (i j : ℕ) → AreRising faults → key_of x ≡ key_of y → i < j → j < length faults
    → get_or faults i x ≡ x → get_or faults j y ≡ y → ⊥
before faults x y i j up k l m a b =
    let less : order (get_or faults i x) (get_or faults j x) ≡ Less = Less-from_sorted order faults i j x up l m in
    let here : get_or faults j x ≡ y = get_or_default faults j x y m ∙ b in
    let same : order x y ≡ Less = ap (λ (z : Fault). order z y) (sym a) ∙ ap (order (get_or faults i x)) (sym here) ∙ less in
    let no : Equal ≡ Less = sym (tied x y k) ∙ same in cc

pub rising_keyed : (faults : List Fault) → AreRising faults → IsKeyedBy key_of faults
rising_keyed faults up x y (i, l, a) (j, m, b) k = elim (cases_order i j) [
  | inl e ↦ sym a ∙ get_or_default faults i x y l ∙ ap (λ (n : ℕ). get_or faults n y) e ∙ b
  | inr h ↦ elim h [
    | inl h ↦ absurd (before faults x y i j up k h m a b)
    | inr h ↦ absurd (before faults y x j i up (sym k) h l b a)
  ]
]

behind : (a b : Ordering) → a ≡ ordering_reverse b → a ≡ Less → is_lt b ≡ false
behind a Less e h = let k : Greater ≡ Less = sym e ∙ h in cc
behind a Equal e h = refl
behind a Greater e h = refl

sorted : (faults : List Fault) → AreRising faults → IsSorted order faults
sorted faults up k d l m =
    behind (order (get_or faults k d) (get_or faults (k + 1) d)) (order (get_or faults (k + 1) d) (get_or faults k d))
    (total.antisymm (get_or faults k d) (get_or faults (k + 1) d))
    (Less-from_sorted order faults k (k + 1) d up (omega arith) (omega arith))

searchable : (faults : List Fault) (f : Fault) → AreRising faults → IsNonDecreasingBy (λ y. ordering_index (order y f)) faults
searchable faults f up = searchable_from_sorted nat_list_cmp_total key_of faults (key_of f) (sorted faults up)

-- what a search by halves answers is whether one of the faults has the key
pub searched : (faults : List Fault) (f : Fault) (r : Result ℕ ℕ) → AreRising faults → IsSearchInRange r (length faults)
    → IsBinarySearchResult (λ y. order y f) faults r → is_ok r ≡ has_key_among faults f
searched faults f (Ok i) up l h = sym (list_any_at (λ e. is_eq (order e f)) faults i f l (ap is_eq (h f)))
searched faults f (Err i) up l h =
    let p = h (searchable faults f up) in
    sym (list_any_none (λ e. is_eq (order e f)) faults (λ k d m. elim (cases_lt k i) [
      | inl a ↦ ap is_eq (p.0 k d (omega arith) a)
      | inr b ↦ ap is_eq (p.1 k d b m)
    ]))

key_among : (faults : List Fault) (f : Fault) → has_key_among faults f ≡ true → HasKeyAmong faults f
key_among faults f h =
    let a = Any-from_list_any (λ e. is_eq (order e f)) faults h in
    (a.1, (a.0, a.2, a.3), tells_apart exact_bytes (key_of a.1) (key_of f) a.4)

among_key : (faults : List Fault) (f : Fault) → HasKeyAmong faults f → has_key_among faults f ≡ true
among_key faults f (e, c, k) =
    list_any_at (λ x. is_eq (order x f)) faults c.0 e c.1 (ap (λ (x : Fault). is_eq (order x f)) c.2 ∙ ap is_eq (tied e f k))

kept_by : {X : Type 0} (p : X → Bool) (y : X) (xs : List X) (x : X) (b : Bool) → p y ≡ b
    → In (filter p xs) x ↔ (In xs x × (p x ≡ true))
    → In (if b then y ∷ filter p xs else filter p xs) x ↔ ((y ≡ x ⊎ In xs x) × (p x ≡ true))
kept_by p y xs x true e rest = (
  λ h. ⊎_elim (λ a. (inl a, ap p (sym a) ∙ e)) (λ t. (inr (rest.0 t).0, (rest.0 t).1)) h,
  λ h. ⊎_elim (λ a. inl a) (λ t. inr (rest.1 (t, h.1))) h.0,
)
kept_by p y xs x false e rest = (
  λ h. (inr (rest.0 h).0, (rest.0 h).1),
  λ h. ⊎_elim (λ a. absurd (true≢false (sym h.1 ∙ ap p (sym a) ∙ e))) (λ t. rest.1 (t, h.1)) h.0,
)

kept : {X : Type 0} (p : X → Bool) (xs : List X) (x : X) → In (filter p xs) x ↔ (In xs x × (p x ≡ true))
kept p [] x = (λ h. absurd h, λ h. absurd h.0)
kept p (y ∷ xs) x = kept_by p y xs x (p y) refl (kept p xs x)

-- these faults, and after them those of the others whose key none of them has
pub put_beside : (errors inside others kept_others all : List Fault) → ((f : Fault) → Contains inside f ↔ Contains errors f)
    → kept_others ≡ filter (λ f. not (has_key_among inside f)) others → all ≡ inside ++ kept_others
    → (f : Fault) → Contains all f ↔ IsBeside errors others f
put_beside errors inside others kept_others all same are is f = (to, back)
  where
    alone : has_key_among inside f ≡ false → HasKeyAmong errors f → ⊥
    alone free h = true≢false (sym (among_key inside f (h.0, (same h.0).1 h.1, h.2)) ∙ free)

    told : Contains inside f ⊎ Contains kept_others f → IsBeside errors others f
    told (inl c) = inl ((same f).0 c)
    told (inr c) =
        let k = (kept (λ x. not (has_key_among inside x)) others f).0
        (contains_in (filter (λ x. not (has_key_among inside x)) others) f (subst (λ (l : List Fault). Contains l f) are c)) in
        inr (in_contains others f k.0, alone (not-true (has_key_among inside f) k.1))

    to : Contains all f → IsBeside errors others f
    to c = told (Contains-append_cases inside kept_others f (subst (λ (l : List Fault). Contains l f) is c))

    back : IsBeside errors others f → Contains all f
    back (inl c) = subst (λ (l : List Fault). Contains l f) (sym is) (Contains-append_left inside kept_others f ((same f).1 c))
    back (inr (c, none)) =
        let free : has_key_among inside f ≡ false = false_from_ne_true (has_key_among inside f)
        (λ h. let k = key_among inside f h in none (k.0, (same k.0).0 k.1, k.2)) in
        let k = in_contains (filter (λ x. not (has_key_among inside x)) others) f
        ((kept (λ x. not (has_key_among inside x)) others f).1 (contains_in others f c, ap not free)) in
        subst (λ (l : List Fault). Contains l f) (sym is) (Contains-append_right inside kept_others f
        (subst (λ (l : List Fault). Contains l f) (sym are) k))
