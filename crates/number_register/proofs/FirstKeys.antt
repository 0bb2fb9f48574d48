-- First positions of keys, and keys that rise.
use Rattle.std.proofs.Common.{◌≡◌, ℕ, zero, suc, ◌+◌, ◌<◌, ◌≤◌, ◌≢◌, ◌⊎◌, inl, inr, Bool, true, false, List, [], ◌∷◌, ◌++◌}
use Rattle.std.proofs.Common.{Option, Some, None, length, ltb, cond, replicate, refl, sym, ap, subst, ◌∙◌, arith, true≢false}
use Rattle.std.proofs.lemmas.Bool.{ltb-true, cases_eq, cases_lt}
use Rattle.std.proofs.lemmas.Option.{none-some}
use Rattle.std.specs.Prelude.{slice_get, slice_set}
use Rattle.std.specs.Ordering.{is_eq, ordering_reverse}
use Rattle.std.specs.Cmp.{IsTotalOrder}
use Rattle.std.specs.declared.cmp.Ordering.{Ordering}
use Rattle.std.specs.declared.cmp.Ordering.TheVariants.{Less, Equal, Greater}
use Rattle.number_register.specs.First.{AreBelow, AreRising, Follows, Precedes, first_from, first_of, lesser, where_before}

lesser_low : (n p : ℕ) (o : Option ℕ) → ((m : ℕ) → o ≡ Some m → n + 1 ≤ m) → p ≡ n → lesser p o ≡ Some n
lesser_low n p None h e = ap Some e
lesser_low n p (Some m) h e = let k = h m refl in ap Some (omega arith)

lesser_kept : (n p : ℕ) → n ≤ p → lesser p (Some n) ≡ Some n
lesser_kept n p h = ap Some (omega arith)

bound_by : (n m : ℕ) (b : Bool) (o : Option ℕ) → ((k : ℕ) → o ≡ Some k → n + 1 ≤ k) → cond b (Some n) o ≡ Some m → n ≤ m
bound_by n m true o h e = let same : n ≡ m = cc in omega arith
bound_by n m false o h e = let k = h m e in omega arith

same_both : (n p : ℕ) (c : Bool) → n ≤ p → Some n ≡ cond c (lesser p (Some n)) (Some n)
same_both n p true h = sym (lesser_kept n p h)
same_both n p false h = refl

kept_by : (n p : ℕ) (b c : Bool) (new old : Option ℕ) → n ≤ p → new ≡ cond c (lesser p old) old
    → cond b (Some n) new ≡ cond c (lesser p (cond b (Some n) old)) (cond b (Some n) old)
kept_by n p true c new old h e = same_both n p c h
kept_by n p false c new old h e = e

before_by : (n m : ℕ) (b : Bool) → ltb m n ≡ b → n ≤ m → cond b (Some m) None ≡ None
before_by n m true e h = let low = ltb-true m n e in absurd (omega arith)
before_by n m false e h = refl

at_start : (n : ℕ) (o : Option ℕ) → ((m : ℕ) → o ≡ Some m → n ≤ m) → where_before n o ≡ None
at_start n None h = refl
at_start n (Some m) h = before_by n m (ltb m n) refl (h m refl)

module _ {K : Type 0} where
  -- a first position is not before the count's start
  pub from_bound : (test : K → Bool) (n : ℕ) (keys : List (Option K)) (m : ℕ) → first_from test n keys ≡ Some m → n ≤ m
  from_bound test n [] m is = absurd (none-some m is)
  from_bound test n (None ∷ keys) m is = let h = from_bound test (n + 1) keys m is in omega arith
  from_bound test n (Some key ∷ keys) m is =
      bound_by n m (test key) (first_from test (n + 1) keys) (λ k e. from_bound test (n + 1) keys k e) is

  moved_to : (test : K → Bool) (key : K) (o : Option ℕ) (p q : ℕ) → p ≡ q → cond (test key) (lesser p o) o ≡ cond (test key) (lesser q o) o
  moved_to test key o p q e = ap (λ (k : ℕ). cond (test key) (lesser k o) o) e

  -- one more key
  pub first_set : (test : K → Bool) (n : ℕ) (keys : List (Option K)) (at : ℕ) (key : K) → slice_get keys at ≡ Some None
      → first_from test n (slice_set keys at (Some key))
      ≡ cond (test key) (lesser (n + at) (first_from test n keys)) (first_from test n keys)
  first_set test n [] at key is = cc
  first_set test n (None ∷ keys) zero key is =
      ap (λ (o : Option ℕ). cond (test key) o (first_from test (n + 1) keys))
      (sym (lesser_low n (n + 0) (first_from test (n + 1) keys) (from_bound test (n + 1) keys) (omega arith)))
  first_set test n (Some a ∷ keys) zero key is = cc
  first_set test n (None ∷ keys) (suc at) key is =
      first_set test (n + 1) keys at key is ∙ moved_to test key (first_from test (n + 1) keys) (n + 1 + at) (n + suc at) (omega arith)
  first_set test n (Some a ∷ keys) (suc at) key is =
      kept_by n (n + suc at) (test a) (test key) (first_from test (n + 1) (slice_set keys at (Some key))) (first_from test (n + 1) keys)
      (omega arith)
      (first_set test (n + 1) keys at key is ∙ moved_to test key (first_from test (n + 1) keys) (n + 1 + at) (n + suc at) (omega arith))

  -- where no key before a position passes, the first that does isn't before it
  pub not_before : (test : K → Bool) (n : ℕ) (keys : List (Option K)) (at : ℕ)
      → ((j : ℕ) (a : K) → j < at → slice_get keys j ≡ Some (Some a) → test a ≡ false)
      → where_before (n + at) (first_from test n keys) ≡ None
  not_before test n [] at none = refl
  not_before test n (x ∷ keys) zero none =
      ap (λ (p : ℕ). where_before p (first_from test n (x ∷ keys))) (let e : n + 0 ≡ n = omega arith in e)
      ∙ at_start n (first_from test n (x ∷ keys)) (from_bound test n (x ∷ keys))
  not_before test n (None ∷ keys) (suc at) none =
      ap (λ (p : ℕ). where_before p (first_from test (n + 1) keys)) (let e : n + suc at ≡ n + 1 + at = omega arith in e)
      ∙ not_before test (n + 1) keys at (λ j a low is. none (suc j) a (omega (arith, low)) is)
  not_before test n (Some b ∷ keys) (suc at) none =
      ap (λ (c : Bool). where_before (n + suc at) (cond c (Some n) (first_from test (n + 1) keys))) (none 0 b (omega arith) refl)
      ∙ ap (λ (p : ℕ). where_before p (first_from test (n + 1) keys)) (let e : n + suc at ≡ n + 1 + at = omega arith in e)
      ∙ not_before test (n + 1) keys at (λ j a low is. none (suc j) a (omega (arith, low)) is)

  -- one key more at the end
  pub first_snoc : (test : K → Bool) (n : ℕ) (keys : List (Option K)) (key : K)
      → first_from test n (keys ++ Some key ∷ [])
      ≡ cond (test key) (lesser (n + length keys) (first_from test n keys)) (first_from test n keys)
  first_snoc test n [] key = ap (λ (p : ℕ). cond (test key) (Some p) None) (omega arith)
  first_snoc test n (None ∷ keys) key =
      first_snoc test (n + 1) keys key
      ∙ moved_to test key (first_from test (n + 1) keys) (n + 1 + length keys) (n + suc (length keys)) (omega arith)
  first_snoc test n (Some a ∷ keys) key =
      kept_by n (n + suc (length keys)) (test a) (test key) (first_from test (n + 1) (keys ++ Some key ∷ [])) (first_from test (n + 1) keys)
      (omega arith)
      (first_snoc test (n + 1) keys key
      ∙ moved_to test key (first_from test (n + 1) keys) (n + 1 + length keys) (n + suc (length keys)) (omega arith))

  pub first_absent : (test : K → Bool) (n : ℕ) (keys : List (Option K)) → first_from test n (keys ++ None ∷ []) ≡ first_from test n keys
  first_absent test n [] = refl
  first_absent test n (None ∷ keys) = first_absent test (n + 1) keys
  first_absent test n (Some a ∷ keys) = ap (λ (o : Option ℕ). cond (test a) (Some n) o) (first_absent test (n + 1) keys)

  module _ (cmp : K → K → Ordering) (total : IsTotalOrder cmp) where
    -- equal keys have one first position
    pub same_first : (keys : List (Option K)) (p q : K) → is_eq (cmp p q) ≡ true → first_of cmp keys p ≡ first_of cmp keys q
    same_first keys p q e = λ i. first_from (λ k. is_eq (same k i)) 0 keys where
      from_test : (o : Ordering) → is_eq o ≡ true → o ≡ Equal
      from_test Less h = absurd (true≢false (sym h))
      from_test Equal h = refl
      from_test Greater h = absurd (true≢false (sym h))

      same : (k : K) → cmp k p ≡ cmp k q
      same k = total.antisymm k p ∙ ap ordering_reverse (total.congr p q k (from_test (cmp p q) e)) ∙ sym (total.antisymm k q)

    -- what a map that gives each key its first position gives after one more
    pub noted : (keys more : List (Option K)) (at : ℕ) (key : K) (old new : K → Option ℕ)
        → ((test : K → Bool) → first_from test 0 more ≡ cond (test key) (lesser at (first_from test 0 keys)) (first_from test 0 keys))
        → ((q : K) → old q ≡ first_of cmp keys q)
        → ((q : K) → new q ≡ cond (is_eq (cmp key q)) (lesser at (old key)) (old q)) → (q : K) → new q ≡ first_of cmp more q
    noted keys more at key old new is was now q = now q ∙ by_test (is_eq (cmp key q)) refl ∙ sym (is (λ k. is_eq (cmp k q))) where
      by_test : (b : Bool) → is_eq (cmp key q) ≡ b
          → cond b (lesser at (old key)) (old q) ≡ cond b (lesser at (first_of cmp keys q)) (first_of cmp keys q)
      by_test true e = ap (lesser at) (was key ∙ same_first keys key q e)
      by_test false e = was q

    less_is_not_equal : (o : Ordering) → o ≡ Less → is_eq o ≡ false
    less_is_not_equal o e = ap is_eq e

    -- of keys that rise none has an equal one before it
    pub rising_first : (keys : List (Option K)) (at : ℕ) (key : K) → AreRising cmp keys → slice_get keys at ≡ Some (Some key)
        → where_before at (first_of cmp keys key) ≡ None
    rising_first keys at key rising there =
        ap (λ (p : ℕ). where_before p (first_of cmp keys key)) (let e : at ≡ 0 + at = omega arith in e)
        ∙ not_before (λ k. is_eq (cmp k key)) 0 keys at (λ j a low is. less_is_not_equal (cmp a key) (rising j at a key low is there))

    set_at : (keys : List (Option K)) (at : ℕ) (x : Option K) (j : ℕ) (b : K) → slice_get (slice_set keys at x) j ≡ Some (Some b)
        → ((j ≡ at) × (x ≡ Some b)) ⊎ (slice_get keys j ≡ Some (Some b))
    set_at [] at x j b is = inr is
    set_at (y ∷ keys) zero x zero b is = inl (refl, let e : x ≡ Some b = cc in e)
    set_at (y ∷ keys) zero x (suc j) b is = inr is
    set_at (y ∷ keys) (suc at) x zero b is = inr is
    set_at (y ∷ keys) (suc at) x (suc j) b is = step (set_at keys at x j b is) where
      step : ((j ≡ at) × (x ≡ Some b)) ⊎ (slice_get keys j ≡ Some (Some b))
          → ((suc j ≡ suc at) × (x ≡ Some b)) ⊎ (slice_get keys j ≡ Some (Some b))
      step (inl e) = inl (ap suc e.0, e.1)
      step (inr e) = inr e

    -- keys go on rising with one that is greater than those before it and less than those after it
    pub rising_more : (keys : List (Option K)) (at : ℕ) (key : K) → AreRising cmp keys → Follows cmp keys at key → Precedes cmp keys at key
        → AreRising cmp (slice_set keys at (Some key))
    rising_more keys at key rising follows precedes i j a b low is_a is_b =
        choose (set_at keys at (Some key) i a is_a) (set_at keys at (Some key) j b is_b) where
          choose : ((i ≡ at) × (Some key ≡ Some a)) ⊎ (slice_get keys i ≡ Some (Some a))
              → ((j ≡ at) × (Some key ≡ Some b)) ⊎ (slice_get keys j ≡ Some (Some b)) → cmp a b ≡ Less
          choose (inl x) (inl y) = absurd (let e = x.0 in let f = y.0 in omega (arith, low, e, f))
          choose (inl x) (inr y) =
              let e : key ≡ a = cc in subst (λ (k : K). cmp k b ≡ Less) e (precedes j b (subst (λ (n : ℕ). n < j) x.0 low) y)
          choose (inr x) (inl y) =
              let e : key ≡ b = cc in subst (λ (k : K). cmp a k ≡ Less) e (follows i a (subst (λ (n : ℕ). i < n) y.0 low) x)
          choose (inr x) (inr y) = rising i j a b low x y

    pub below_more : (keys : List (Option K)) (at : ℕ) (key : K) (end new : ℕ) → AreBelow end keys → end ≤ new → at < new
        → AreBelow new (slice_set keys at (Some key))
    below_more keys at key end new below more within i a is = choose (set_at keys at (Some key) i a is) where
      choose : ((i ≡ at) × (Some key ≡ Some a)) ⊎ (slice_get keys i ≡ Some (Some a)) → i < new
      choose (inl x) = let e = x.0 in omega (arith, e, within)
      choose (inr x) = let h = below i a x in omega (arith, h, more)

  module _ (cmp : K → K → Ordering) (total : IsTotalOrder cmp) where
    -- a key follows all before it where it follows the nearest of them
    pub follows_nearest : (keys : List (Option K)) (at p : ℕ) (key other : K) → slice_get keys p ≡ Some (Some other) → cmp other key ≡ Less
        → ((i : ℕ) (a : K) → p < i → i < at → slice_get keys i ≡ Some (Some a) → ⊥) → AreRising cmp keys → Follows cmp keys at key
    follows_nearest keys at p key other there less none rising i a low is = choose (cases_eq i p) (cases_lt p i) where
      choose : (i ≡ p) ⊎ (i ≢ p) → (p < i) ⊎ (i ≤ p) → cmp a key ≡ Less
      choose (inl e) h =
          let same : Some (Some a) ≡ Some (Some other) = sym is ∙ ap (slice_get keys) e ∙ there in
          let item : a ≡ other = cc in
          subst (λ (k : K). cmp k key ≡ Less) (sym item) less
      choose (inr d) (inl h) = absurd (none i a h low is)
      choose (inr d) (inr h) = total.trans a other key (rising i p a other (let e = d in omega (arith, h, e)) is there) less

  -- nothing in a list of absent keys
  pub none_there : (n i : ℕ) (a : K) → slice_get (replicate {A = Option K} n None) i ≡ Some (Some a) → ⊥
  none_there zero i a is = cc
  none_there (suc n) zero a is = cc
  none_there (suc n) (suc i) a is = none_there n i a is
