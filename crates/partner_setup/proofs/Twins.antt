-- The rows after one, by what tells them apart, with one more in front.
use Rattle.std.proofs.Common.{◌≡◌, ◌<◌, ℕ, ◌+◌, Bool, true, false, ◌||◌, List, ◌∷◌, drop, length, get_or, cond, refl, sym, ap, subst, ◌∙◌}
use Rattle.std.proofs.Common.{Option, Some}
use Rattle.std.specs.BTreeSet.{BTreeSet, contains}
use Rattle.std.specs.Ordering.{is_eq, nat_cmp}
use Rattle.std.specs.Cmp.Lexicographic.{slice_cmp}
use Rattle.std.specs.List.{list_any}
use Rattle.std.proofs.lemmas.List.{drop_more}
use Rattle.hub_kinds.specs.Words.{has_same_key, order_by}
use Rattle.partner_setup.specs.SetupFaults.{key_of_texts, twin_from}
use Rattle.partner_setup.specs.declared.told.Told.{Told}

abbrev pub key_of : Told → List ℕ
key_of t = key_of_texts t.first.now t.second.now t.third.now

-- what can't be distinguished from a row
abbrev pub is_told : {A : Type 0} → (A → List ℕ) → Told → A → Bool
is_told tells q x = is_eq (slice_cmp nat_cmp (tells x) (key_of q))

-- the set has what can't be distinguished from one of the rows, and nothing else
abbrev pub HasTold : {A : Type 0} → (A → List ℕ) → BTreeSet Told → List A → Type 0
HasTold tells set rows = (q : Told) → contains (order_by key_of) set q ≡ list_any (is_told tells q) rows

or_else : (b c : Bool) → cond b true c ≡ (b || c)
or_else true c = refl
or_else false c = refl

one_more : {A : Type 0} (tells : A → List ℕ) (old new : BTreeSet Told) (k : Told) (x : A) (xs : List A) → key_of k ≡ tells x
    → ((q : Told) → contains (order_by key_of) new q ≡ cond (is_eq (order_by key_of k q)) true (contains (order_by key_of) old q))
    → HasTold tells old xs → HasTold tells new (x ∷ xs)
one_more tells old new k x xs told added has = λ q.
    added q
    ∙ ap (cond (is_eq (order_by key_of k q)) true) (has q)
    ∙ or_else (is_eq (order_by key_of k q)) (list_any (is_told tells q) xs)
    ∙ ap (λ (key : List ℕ). is_eq (slice_cmp nat_cmp key (key_of q)) || list_any (is_told tells q) xs) told

-- the row at a place, before those after it
pub more_told : {A : Type 0} (tells : A → List ℕ) (rows : List A) (old new : BTreeSet Told) (k : Told) (i : ℕ) (row : A)
    → i < length rows → row ≡ get_or rows i row → key_of k ≡ tells row
    → ((q : Told) → contains (order_by key_of) new q ≡ cond (is_eq (order_by key_of k q)) true (contains (order_by key_of) old q))
    → HasTold tells old (drop (i + 1) rows) → HasTold tells new (drop i rows)
more_told tells rows old new k i row within is told added has =
    subst (λ (xs : List _). HasTold tells new xs) (sym (drop_more rows i row within))
    (one_more tells old new k (get_or rows i row) (drop (i + 1) rows) (told ∙ ap tells is) added has)

-- whether one after it has its key
same_behind : {A : Type 0} (tells : A → List ℕ) (old : BTreeSet Told) (k : Told) (x : A) (xs : List A) → key_of k ≡ tells x
    → HasTold tells old xs → contains (order_by key_of) old k ≡ list_any (λ (y : A). has_same_key tells y x) xs
same_behind tells old k x xs told has =
    has k ∙ ap (λ (key : List ℕ). list_any (λ y. is_eq (slice_cmp nat_cmp (tells y) key)) xs) told

pub more_twin : {A : Type 0} (tells : A → List ℕ) (rows : List A) (old : BTreeSet Told) (k : Told) (i : ℕ) (row : A) (twin : Option ℕ)
    → i < length rows → row ≡ get_or rows i row → key_of k ≡ tells row → HasTold tells old (drop (i + 1) rows)
    → twin ≡ twin_from tells (i + 1) (drop (i + 1) rows)
    → cond (contains (order_by key_of) old k) (Some i) twin ≡ twin_from tells i (drop i rows)
more_twin tells rows old k i row twin within is told has so_far =
    ap (λ (b : Bool). cond b (Some i) twin)
    (same_behind tells old k (get_or rows i row) (drop (i + 1) rows) (told ∙ ap tells is) has)
    ∙ ap (cond (list_any (λ y. has_same_key tells y (get_or rows i row)) (drop (i + 1) rows)) (Some i)) so_far
    ∙ ap (twin_from tells i) (sym (drop_more rows i row within))
