-- Numbers in runs: a search in a run that is in order, and a run that is joined with the last ones.
use Rattle.std.proofs.Common.{◌≡◌, ℕ, ◌+◌, ◌-◌, ◌<◌, List, [], ◌∷◌, ◌++◌, Bool, true, false, ◌||◌, refl, sym, ap, ◌∙◌}
use Rattle.std.proofs.Common.{length, take, drop, set, subst, zero, suc, get_or, All}
use Rattle.std.proofs.Common.{Vec, inl, inr, arith}
use Rattle.std.specs.Cmp.Lexicographic.{slice_cmp}
use Rattle.std.specs.List.Sorted.{IsBinarySearchResult, IsPermutation, IsSearchInRange, IsSorted}
use Rattle.std.specs.Ordering.{is_eq, nat_cmp, ordering_reverse}
use Rattle.std.specs.Result.{OnErr, is_ok}
use Rattle.std.specs.Str.{bytes_eq}
use Rattle.std.specs.declared.alloc.Global.{Global}
use Rattle.std.specs.declared.cmp.Ordering.{Ordering}
use Rattle.std.specs.declared.cmp.Ordering.TheVariants.{Less, Equal, Greater}
use Rattle.std.specs.declared.result.Result.{Result}
use Rattle.std.specs.declared.result.Result.TheVariants.{Ok, Err}
use Rattle.std.proofs.lemmas.Cmp.{nat_list_cmp_total}
use Rattle.std.proofs.Math.Seq.{drop-cons}
use Rattle.std.proofs.lemmas.List.{length-drop, take-append-drop, take_all}
use Rattle.std.proofs.lemmas.List.Elements.{All-append, All-cons, All-nil, All-take}
use Rattle.std.proofs.lemmas.List.Folds.{list_any-append, list_any_at, list_any_none}
use Rattle.std.proofs.lemmas.List.Sorted.{list_any-IsPermutation, searchable_from_sorted}
use Rattle.std.proofs.lemmas.Map.Text.{is_eq-slice_cmp}
use Rattle.std.proofs.lemmas.Bool.{cases_lt}
use native.Mathlib.Numerals.{add-one}
use Rattle.number_register.specs.SeenNumbers.{HaveSeen, is_among, keys_in}
use Rattle.number_register.specs.declared.seen.Seen.{Seen}

reversed_is_eq : (r : Ordering) → is_eq (ordering_reverse r) ≡ is_eq r
reversed_is_eq Less = refl
reversed_is_eq Equal = refl
reversed_is_eq Greater = refl

-- two numbers are equal where their bytes are
equal_bytes : (key other : List ℕ) → bytes_eq key other ≡ is_eq (slice_cmp nat_cmp other key)
equal_bytes key other =
    sym (is_eq-slice_cmp key other) ∙ ap is_eq (nat_list_cmp_total.antisymm key other) ∙ reversed_is_eq (slice_cmp nat_cmp other key)

-- what a search by halves answers is whether the number is in the run
pub searched : (run : List (List ℕ)) (key : List ℕ) (r : Result ℕ ℕ) → IsSorted (slice_cmp nat_cmp) run
    → IsSearchInRange r (length run) → IsBinarySearchResult (λ y. slice_cmp nat_cmp y key) run r → is_ok r ≡ is_among key run
searched run key (Ok i) up l h =
    sym (list_any_at (bytes_eq key) run i key l (equal_bytes key _ ∙ ap is_eq (h key)))
searched run key (Err i) up l h =
    let p = h (searchable_from_sorted nat_list_cmp_total (λ y. y) run key up) in
    sym (list_any_none (bytes_eq key) run (λ k d m. elim (cases_lt k i) [
      | inl a ↦ equal_bytes key _ ∙ ap is_eq (p.0 k d (omega arith) a)
      | inr b ↦ equal_bytes key _ ∙ ap is_eq (p.1 k d b m)
    ]))

or_assoc : (a b c : Bool) → ((a || b) || c) ≡ (a || (b || c))
or_assoc true b c = refl
or_assoc false b c = refl

among_both : (number : List ℕ) (xs ys : List (Vec (List ℕ) Global))
    → is_among number (keys_in (xs ++ ys)) ≡ (is_among number (keys_in xs) || is_among number (keys_in ys))
among_both number [] ys = refl
among_both number (x ∷ xs) ys =
    list_any-append (bytes_eq number) x.items (keys_in (xs ++ ys))
    ∙ ap (λ (b : Bool). is_among number x.items || b) (among_both number xs ys)
    ∙ sym (or_assoc (is_among number x.items) (is_among number (keys_in xs)) (is_among number (keys_in ys)))
    ∙ ap (λ (b : Bool). b || is_among number (keys_in ys)) (sym (list_any-append (bytes_eq number) x.items (keys_in xs)))

turned : (front back keys : Bool) → (front || ((keys || back) || false)) ≡ ((front || back) || keys)
turned true back keys = refl
turned false true true = refl
turned false true false = refl
turned false false true = refl
turned false false false = refl

-- a run in order with the numbers of the last runs and these, in the place of those runs
module _ (runs : List (Vec (List ℕ) Global)) (kept : ℕ) (keys : List (List ℕ)) (run : Vec (List ℕ) Global)
    (same : IsPermutation (keys ++ keys_in (drop kept runs)) run.items) where
  among_joined : (number : List ℕ) → is_among number (keys_in (take kept runs ++ run ∷ []))
      ≡ (is_among number (keys_in runs) || is_among number keys)
  among_joined number =
      among_both number (take kept runs) (run ∷ [])
      ∙ ap (λ (b : Bool). front || b) (list_any-append (bytes_eq number) run.items []
      ∙ ap (λ (b : Bool). b || false) (sym (list_any-IsPermutation (bytes_eq number) _ _ same)
      ∙ list_any-append (bytes_eq number) keys (keys_in (drop kept runs))))
      ∙ turned front back (is_among number keys)
      ∙ ap (λ (b : Bool). b || is_among number keys) (sym (among_both number (take kept runs) (drop kept runs))
      ∙ ap (λ (rs : List (Vec (List ℕ) Global)). is_among number (keys_in rs)) (take-append-drop kept runs))
    where
      front : Bool
      front = is_among number (keys_in (take kept runs))

      back : Bool
      back = is_among number (keys_in (drop kept runs))

  pub joined : (old new : Seen) (numbers : List (List ℕ)) → old.runs.items ≡ runs → new.runs.items ≡ take kept runs ++ run ∷ []
      → IsSorted (slice_cmp nat_cmp) run.items → HaveSeen old numbers → HaveSeen new (numbers ++ keys)
  joined old new numbers were are sorted has = record {
    same = λ number. ap (λ (rs : List (Vec (List ℕ) Global)). is_among number (keys_in rs)) are ∙ among_joined number
        ∙ ap (λ (b : Bool). b || is_among number keys) (ap (λ (rs : List (Vec (List ℕ) Global)). is_among number (keys_in rs)) (sym were)
        ∙ has.same number)
        ∙ sym (list_any-append (bytes_eq number) numbers keys);
    ordered = subst (All InOrder) (sym are) (All-append InOrder (take kept runs) (run ∷ [])
        (All-take InOrder kept runs (subst (All InOrder) were has.ordered)) (All-cons InOrder run [] sorted (All-nil InOrder)));
  }
    where
      InOrder : Vec (List ℕ) Global → Type 0
      InOrder r = IsSorted (slice_cmp nat_cmp) r.items

-- a run is in order where it is lent
pub in_slice : (lent : List (List ℕ)) (run : Vec (List ℕ) Global) → lent ≡ run.items → IsSorted (slice_cmp nat_cmp) run.items
    → IsSorted (slice_cmp nat_cmp) lent
in_slice lent run same sorted = subst (IsSorted (slice_cmp nat_cmp)) (sym same) sorted

-- from a place on up to the end
pub rest_whole : {X : Type 0} (k : ℕ) (xs : List X) → take (length xs - k) (drop k xs) ≡ drop k xs
rest_whole k xs = let long = length-drop k xs in take_all (length xs - k) (drop k xs) (omega (arith, long))

-- what holds always holds of an error
pub kept_always : {T E P : Type 0} (r : Result T E) → P → OnErr r P
kept_always (Ok x) p = tt
kept_always (Err e) p = p

-- with the same runs the same numbers were seen
pub kept_runs : (old new : Seen) (numbers : List (List ℕ)) → new.runs.items ≡ old.runs.items → HaveSeen old numbers → HaveSeen new numbers
kept_runs old new numbers are has = record {
  same = λ number. ap (λ (rs : List (Vec (List ℕ) Global)). is_among number (keys_in rs)) are ∙ has.same number;
  ordered = subst (All (λ r. IsSorted (slice_cmp nat_cmp) r.items)) (sym are) has.ordered;
}

-- a number among the runs that are left is in the next one, or in those after it
pub next_run : (key : List ℕ) (runs : List (Vec (List ℕ) Global)) (i : ℕ) (run : Vec (List ℕ) Global) → i < length runs
    → run ≡ get_or runs i run
    → is_among key (keys_in (drop i runs)) ≡ (is_among key run.items || is_among key (keys_in (drop (i + 1) runs)))
next_run key runs i run l is =
    ap (λ (rs : List (Vec (List ℕ) Global)). is_among key (keys_in rs)) (drop-cons runs i run l)
    ∙ ap (λ (r : Vec (List ℕ) Global). is_among key (r.items ++ keys_in (drop (suc i) runs))) (sym is)
    ∙ ap (λ (n : ℕ). is_among key (run.items ++ keys_in (drop n runs))) (sym (add-one i))
    ∙ list_any-append (bytes_eq key) run.items (keys_in (drop (i + 1) runs))

pub run_in_order : (runs : List (Vec (List ℕ) Global)) (i : ℕ) (run : Vec (List ℕ) Global) → i < length runs → run ≡ get_or runs i run
    → All (λ r. IsSorted (slice_cmp nat_cmp) r.items) runs → IsSorted (slice_cmp nat_cmp) run.items
run_in_order runs i run l is all =
    subst (λ (r : Vec (List ℕ) Global). IsSorted (slice_cmp nat_cmp) r.items) (sym is) (all i run l)

-- the last of those that are kept, exchanged
pub exchanged : {X : Type 0} (kept : ℕ) (xs : List X) (x : X) → kept < length xs → set (take (kept + 1) xs) kept x ≡ take kept xs ++ x ∷ []
exchanged kept [] x l = absurd (omega (arith, l))
exchanged zero (y ∷ ys) x l = ap (λ (n : ℕ). set (take n (y ∷ ys)) zero x) (add-one zero)
exchanged (suc kept) (y ∷ ys) x l =
    ap (λ (n : ℕ). set (take n (y ∷ ys)) (suc kept) x) (add-one (suc kept))
    ∙ ap (λ t. y ∷ t) (ap (λ (n : ℕ). set (take n ys) kept x) (sym (add-one kept)) ∙ exchanged kept ys x (omega (arith, l)))
