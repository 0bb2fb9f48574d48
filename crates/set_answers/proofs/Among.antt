-- A number among one more number, and among numbers that rise.
use Rattle.std.proofs.Common.{◌≡◌, ℕ, List, [], ◌∷◌, ◌++◌, Bool, true, false, ◌||◌, cond, refl, sym, ap, subst, ◌∙◌, true≢false, Option}
use Rattle.std.proofs.Common.{Some, None, All}
use Rattle.std.specs.declared.cmp.Ordering.{Ordering}
use Rattle.std.specs.declared.cmp.Ordering.TheVariants.{Less, Equal, Greater}
use Rattle.std.specs.Ordering.{nat_cmp, is_lt, is_eq, ordering_reverse}
use Rattle.std.specs.Cmp.{IsTotalOrder}
use Rattle.std.specs.Cmp.Lexicographic.{slice_cmp}
use Rattle.std.proofs.lemmas.List.Folds.{list_any-append, list_any_none}
use Rattle.std.proofs.lemmas.List.Elements.{All-append, All-cons, All-nil, All-weaker}
use Rattle.std.proofs.lemmas.Map.Text.{is_eq-slice_cmp}
use Rattle.std.proofs.lemmas.List.{map-append}
use Rattle.std.specs.BTreeSet.{BTreeSet, contains}
use Rattle.hub_kinds.specs.Words.{by_text}
use Rattle.set_answers.specs.Known.{AreUpTo, HasExactly, Knows, KnowsLent, is_greater, is_known, read}
use Rattle.set_answers.specs.Seen.{is_among}
use Rattle.set_answers.specs.declared.seen.Seen.{Seen}
use denote.Ref.{Bor}

chosen_or : (b c : Bool) → cond b true c ≡ (c || (b || false))
chosen_or true true = refl
chosen_or true false = refl
chosen_or false true = refl
chosen_or false false = refl

less_from_test : (r : Ordering) → is_lt r ≡ true → r ≡ Less
less_from_test Less h = refl
less_from_test Equal h = absurd (true≢false (sym h))
less_from_test Greater h = absurd (true≢false (sym h))

-- what isn't above the lesser of two numbers is below the greater
not_above : (r s t : Ordering) → (r ≡ Less → t ≡ Less) → (r ≡ Equal → t ≡ s) → is_lt (ordering_reverse r) ≡ false → s ≡ Less → t ≡ Less
not_above Less s t f g h k = f refl
not_above Equal s t f g h k = g refl ∙ k
not_above Greater s t f g h k = absurd (true≢false h)

irreflexive : (r : Ordering) → r ≡ ordering_reverse r → is_lt r ≡ false
irreflexive Less h = ap is_lt h
irreflexive Equal h = refl
irreflexive Greater h = refl

reversed_is_eq : (r : Ordering) → is_eq (ordering_reverse r) ≡ is_eq r
reversed_is_eq Less = refl
reversed_is_eq Equal = refl
reversed_is_eq Greater = refl

module _ {K : Type 0} (cmp : K → K → Ordering) (total : IsTotalOrder cmp) where
  equal_both_ways : (a b : K) → is_eq (cmp a b) ≡ is_eq (cmp b a)
  equal_both_ways a b = ap is_eq (total.antisymm a b) ∙ reversed_is_eq (cmp b a)

  known_more : (q number : K) (numbers : List K)
      → cond (is_eq (cmp number q)) true (is_known cmp q numbers) ≡ is_known cmp q (numbers ++ number ∷ [])
  known_more q number numbers =
      chosen_or (is_eq (cmp number q)) (is_known cmp q numbers)
      ∙ ap (λ (b : Bool). is_known cmp q numbers || (b || false)) (equal_both_ways number q)
      ∙ sym (list_any-append (λ k. is_eq (cmp q k)) numbers (number ∷ []))

  -- a set with one more number has exactly these
  pub has_more : (old new : BTreeSet K) (number : K) (numbers : List K)
      → ((q : K) → contains cmp new q ≡ cond (is_eq (cmp number q)) true (contains cmp old q))
      → HasExactly cmp old numbers → HasExactly cmp new (numbers ++ number ∷ [])
  has_more old new number numbers added has = λ q.
      added q ∙ ap (λ (b : Bool). cond (is_eq (cmp number q)) true b) (has q) ∙ known_more q number numbers

  up_to_is_below : (g x number : K) → is_lt (cmp g number) ≡ true → is_lt (cmp g x) ≡ false → cmp x number ≡ Less
  up_to_is_below g x number above h =
      let less : cmp g number ≡ Less = less_from_test (cmp g number) above in
      not_above (cmp x g) (cmp g number) (cmp x number) (λ e. total.trans x g number e less) (total.congr x g number)
      (ap is_lt (sym (total.antisymm g x)) ∙ h) less

  -- what is below a number is another one
  below_differs : (x number : K) → cmp x number ≡ Less → is_eq (cmp number x) ≡ false
  below_differs x number less = ap is_eq (total.antisymm number x ∙ ap ordering_reverse less)

  pub greater_is_new : (numbers : List K) (number : K) (greatest : Option K) → AreUpTo cmp greatest numbers
      → is_greater cmp number greatest ≡ true → is_known cmp number numbers ≡ false
  greater_is_new numbers number None none h = ap (is_known cmp number) none
  greater_is_new numbers number (Some g) all h =
      list_any_none (λ k. is_eq (cmp number k)) numbers
      (All-weaker (λ x. is_lt (cmp g x) ≡ false) (λ x. is_eq (cmp number x) ≡ false)
      (λ x e. below_differs x number (up_to_is_below g x number h e)) numbers all)

  -- nothing that isn't above a number is above a greater one
  below_stays : (x number : K) → cmp x number ≡ Less → is_lt (cmp number x) ≡ false
  below_stays x number less = ap is_lt (total.antisymm number x ∙ ap ordering_reverse less)

  not_below_itself : (x : K) → is_lt (cmp x x) ≡ false
  not_below_itself x = irreflexive (cmp x x) (total.antisymm x x)

  pub greater_is_greatest : (numbers : List K) (number : K) (greatest : Option K) → AreUpTo cmp greatest numbers
      → is_greater cmp number greatest ≡ true → AreUpTo cmp (Some number) (numbers ++ number ∷ [])
  greater_is_greatest numbers number None none h =
      subst (λ ns. All (λ n. is_lt (cmp number n) ≡ false) (ns ++ number ∷ [])) (sym none)
      (All-cons (λ n. is_lt (cmp number n) ≡ false) number [] (not_below_itself number) (All-nil (λ n. is_lt (cmp number n) ≡ false)))
  greater_is_greatest numbers number (Some g) all h =
      All-append (λ n. is_lt (cmp number n) ≡ false) numbers (number ∷ [])
      (All-weaker (λ x. is_lt (cmp g x) ≡ false) (λ x. is_lt (cmp number x) ≡ false)
      (λ x e. below_stays x number (up_to_is_below g x number h e)) numbers all)
      (All-cons (λ n. is_lt (cmp number n) ≡ false) number [] (not_below_itself number) (All-nil (λ n. is_lt (cmp number n) ≡ false)))

-- numbers that are texts are equal where their bytes are
pub known_is_among : (number : List ℕ) (numbers : List (List ℕ)) → is_known (slice_cmp nat_cmp) number numbers ≡ is_among number numbers
known_is_among number [] = refl
known_is_among number (n ∷ ns) = λ i. is_eq-slice_cmp number n i || known_is_among number ns i

lent_is_among : (number : Bor (List ℕ)) (lent : List (Bor (List ℕ))) → is_known by_text number lent ≡ is_among number.now (read lent)
lent_is_among number [] = refl
lent_is_among number (n ∷ ns) = λ i. is_eq-slice_cmp number.now n.now i || lent_is_among number ns i

-- whether a lent number was there, and that it is then
pub lent_was_there : (old : Seen (Bor (List ℕ))) (number : Bor (List ℕ)) (numbers : List (List ℕ)) (earlier : Bool)
    → ((lent : List (Bor (List ℕ))) → Knows by_text old lent → earlier ≡ is_known by_text number lent) → KnowsLent old numbers
    → earlier ≡ is_among number.now numbers
lent_was_there old number numbers earlier told knows =
    told knows.0 knows.1 ∙ lent_is_among number knows.0 ∙ ap (is_among number.now) knows.2

pub lent_is_there : (old new : Seen (Bor (List ℕ))) (number : Bor (List ℕ)) (numbers : List (List ℕ))
    → ((lent : List (Bor (List ℕ))) → Knows by_text old lent → Knows by_text new (lent ++ number ∷ [])) → KnowsLent old numbers
    → KnowsLent new (numbers ++ number.now ∷ [])
lent_is_there old new number numbers told knows = (
  knows.0 ++ number ∷ [],
  told knows.0 knows.1,
  map-append (λ (n : Bor (List ℕ)). n.now) knows.0 (number ∷ []) ∙ ap (λ (ns : List (List ℕ)). ns ++ number.now ∷ []) knows.2,
)
