-- The first position of a key in a book, and what that says of numbers.
use Rattle.std.proofs.Common.{◌≡◌, ℕ, zero, suc, ◌+◌, ◌<◌, Bool, true, false, List, [], ◌∷◌, get_or, Option, Some, None}
use Rattle.std.proofs.Common.{cond, ltb, MatchOption, refl, sym, ap, subst, ◌∙◌, true≢false, arith}
use Rattle.std.specs.Prelude.{option_map, slice_get}
use Rattle.std.specs.Ordering.{is_eq}
use Rattle.std.specs.declared.cmp.Ordering.{Ordering}
use Rattle.std.proofs.lemmas.Bool.{ltb-true, ltb-false}
use Rattle.std.proofs.lemmas.Option.{none-some, slice_get-get_or, slice_get_within}
use Rattle.hub_kinds.specs.declared.place.Place.{Place}
use Rattle.number_register.specs.First.{first_from, first_of, where_before}
use Rattle.work_core.specs.Core.{was_recorded}
use Rattle.number_register.specs.Slots.{AreSlots, slot}

-- the first key that passes
record IsFound {K : Type 0} (test : K → Bool) (n : ℕ) (keys : List (Option K)) (m : ℕ) : Type 0 where
  pub at : ℕ
  pub is : m ≡ n + at
  pub key : K
  pub there : slice_get keys at ≡ Some (Some key)
  pub passes : test key ≡ true
  pub least : (l : ℕ) (a : K) → l < at → slice_get keys l ≡ Some (Some a) → test a ≡ false

abbrev None_passes : {K : Type 0} → (K → Bool) → List (Option K) → Type 0
None_passes {K} test keys = (l : ℕ) (a : K) → slice_get keys l ≡ Some (Some a) → test a ≡ false

module _ {K : Type 0} (test : K → Bool) where
  later : (n m : ℕ) (x : Option K) (keys : List (Option K)) → ((a : K) → x ≡ Some a → test a ≡ false) → IsFound test (n + 1) keys m
      → IsFound test n (x ∷ keys) m
  later n m x keys none f = record {
    at = suc f.at;
    is = f.is ∙ (let e : n + 1 + f.at ≡ n + suc f.at = omega arith in e);
    key = f.key;
    there = f.there;
    passes = f.passes;
    least = least;
  } where
    least : (l : ℕ) (a : K) → l < suc f.at → slice_get (x ∷ keys) l ≡ Some (Some a) → test a ≡ false
    least zero a low is = none a (let e : x ≡ Some a = cc in e)
    least (suc l) a low is = f.least l a (omega arith) is

  found : (n : ℕ) (keys : List (Option K)) (m : ℕ) → first_from test n keys ≡ Some m → IsFound test n keys m
  found n [] m is = absurd (none-some m is)
  found n (None ∷ keys) m is = later n m None keys (λ a e. absurd (none-some a e)) (found (n + 1) keys m is)
  found n (Some key ∷ keys) m is = by_test (found (n + 1) keys m) (test key) refl is where
    by_test : (first_from test (n + 1) keys ≡ Some m → IsFound test (n + 1) keys m) → (b : Bool) → test key ≡ b → cond b (Some n)
        (first_from test (n + 1) keys) ≡ Some m → IsFound test n (Some key ∷ keys) m
    by_test rest true e h = record {
      at = 0;
      is = let same : n ≡ m = cc in sym same ∙ (let z : n ≡ n + 0 = omega arith in z);
      key = key;
      there = refl;
      passes = e;
      least = λ l a low there. absurd (omega arith);
    }
    by_test rest false e h = later n m (Some key) keys (λ a same. (let k : key ≡ a = cc in ap test (sym k)) ∙ e) (rest h)

  not_found : (n : ℕ) (keys : List (Option K)) → first_from test n keys ≡ None → None_passes test keys
  not_found n [] is l a there = absurd (none-some (Some a) there)
  not_found n (None ∷ keys) is zero a there = let e : None ≡ Some a = cc in absurd (none-some a e)
  not_found n (None ∷ keys) is (suc l) a there = not_found (n + 1) keys is l a there
  not_found n (Some key ∷ keys) is l a there = by_test (λ h. not_found (n + 1) keys h) (test key) refl is l there where
    by_test : (first_from test (n + 1) keys ≡ None → None_passes test keys) → (b : Bool) → test key ≡ b → cond b (Some n)
        (first_from test (n + 1) keys) ≡ None → (l : ℕ)
        → slice_get (Some key ∷ keys) l ≡ Some (Some a) → test a ≡ false
    by_test rest true e h l at = absurd (none-some n (sym h))
    by_test rest false e h zero at = (let k : key ≡ a = cc in ap test (sym k)) ∙ e
    by_test rest false e h (suc l) at = rest h l a at

-- of recorded numbers: the first before a position that has a value
abbrev pub IsFirstBefore : {V : Type 0} → List V → (ℕ → Place) → List Place → ℕ → V → Option ℕ → Type 0
IsFirstBefore {V} numbers at recorded i v result = MatchOption result
    ((m : ℕ) → m < i → slice_get numbers m ≡ Some v → was_recorded recorded (at m) ≡ true → ⊥)
    (λ m. (m < i) × (slice_get numbers m ≡ Some v) × (was_recorded recorded (at m) ≡ true)
    × ((l : ℕ) → l < m → slice_get numbers l ≡ Some v → was_recorded recorded (at l) ≡ true → ⊥))

module _ {K V : Type 0} (cmp : K → K → Ordering) (read : K → V) (numbers : List V) (at : ℕ → Place) (recorded : List Place)
    (keys : List (Option K)) (are : AreSlots read numbers at recorded keys) where
  key_by : (x : Option (Option K)) (v : V) (b : Bool) → b ≡ true → option_map (option_map read) x ≡ Some (slot b v)
      → (k : K) × (x ≡ Some (Some k)) × (read k ≡ v)
  key_by None v b e h = absurd (none-some (slot b v) h)
  key_by (Some x) v false e h = absurd (true≢false (sym e))
  key_by (Some None) v true e h = let s : None ≡ Some v = cc in absurd (none-some v s)
  key_by (Some (Some k)) v true e h = (k, refl, let s : read k ≡ v = cc in s)

  -- what is recorded has its key
  pub key_there : (j : ℕ) (v : V) → slice_get numbers j ≡ Some v → was_recorded recorded (at j) ≡ true
      → (k : K) × (slice_get keys j ≡ Some (Some k)) × (read k ≡ v)
  key_there j v is e = key_by (slice_get keys j) v (was_recorded recorded (at j)) e (are j v is)

  recorded_by : (x : Option (Option K)) (k : K) (v : V) (b : Bool) → x ≡ Some (Some k) → option_map (option_map read) x ≡ Some (slot b v)
      → (b ≡ true) × (read k ≡ v)
  recorded_by x k v true e h =
      let s : Some (Some (read k)) ≡ Some (Some v) = sym (ap (option_map (option_map read)) e) ∙ h in
      let t : read k ≡ v = cc in (refl, t)
  recorded_by x k v false e h =
      let s : Some (Some (read k)) ≡ Some None = sym (ap (option_map (option_map read)) e) ∙ h in
      let t : Some (read k) ≡ None = cc in absurd (none-some (read k) (sym t))

  -- where a book answers by its keys, its answer is the first recorded number
  pub first_before : ((a b : K) → is_eq (cmp a b) ≡ true → read a ≡ read b) → ((a b : K) → read a ≡ read b → is_eq (cmp a b) ≡ true)
      → (i : ℕ) (v : V) (key : K) → slice_get numbers i ≡ Some v → read key ≡ v → (result : Option ℕ)
      → result ≡ where_before i (first_of cmp keys key) → IsFirstBefore numbers at recorded i v result
  first_before same equal i v key own reads result is = by_first (first_of cmp keys key) refl is where
    passes : (l : ℕ) → slice_get numbers l ≡ Some v → was_recorded recorded (at l) ≡ true
        → (a : K) × (slice_get keys l ≡ Some (Some a)) × (is_eq (cmp a key) ≡ true)
    passes l is e = let k = key_there l v is e in (k.0, k.1, equal k.0 key (k.2 ∙ sym reads))

    above : (m : ℕ) → IsFound (λ k. is_eq (cmp k key)) 0 keys m → (l : ℕ) → l < m → slice_get numbers l ≡ Some v
        → was_recorded recorded (at l) ≡ true → ⊥
    above m f l low is e =
        let a = passes l is e in
        let g : m ≡ 0 + f.at = f.is in
        absurd (true≢false (sym a.2 ∙ f.least l a.0 (omega arith) a.1))

    own_number : (m : ℕ) → IsFound (λ k. is_eq (cmp k key)) 0 keys m → m < i
        → (slice_get numbers m ≡ Some v) × (was_recorded recorded (at m) ≡ true)
    own_number m f low =
        let within = slice_get_within numbers i v own in
        let number : slice_get numbers m ≡ Some (get_or numbers m v) = slice_get-get_or numbers m v (omega arith) in
        let g : m ≡ 0 + f.at = f.is in
        let h : m ≡ f.at = omega arith in
        let r = recorded_by (slice_get keys m) f.key (get_or numbers m v) (was_recorded recorded (at m))
        (ap (slice_get keys) h ∙ f.there) (are m (get_or numbers m v) number) in
        (number ∙ ap (λ (w : V). Some w) (sym r.1 ∙ same f.key key f.passes ∙ reads), r.0)

    by_where : (m : ℕ) → IsFound (λ k. is_eq (cmp k key)) 0 keys m → (b : Bool) → ltb m i ≡ b → (r : Option ℕ) → r ≡ cond b (Some m) None
        → IsFirstBefore numbers at recorded i v r
    by_where m f true e None h = absurd (none-some m h)
    by_where m f true e (Some r) h =
        let k : r ≡ m = cc in let low = ltb-true m i e in let o = own_number m f low in
        subst (λ (x : ℕ). IsFirstBefore numbers at recorded i v (Some x)) (sym k) (low, o.0, o.1, above m f)
    by_where m f false e None h = let high = ltb-false m i e in λ l low is rec. above m f l (omega arith) is rec
    by_where m f false e (Some r) h = absurd (none-some r (sym h))

    by_first : (o : Option ℕ) → first_of cmp keys key ≡ o → result ≡ where_before i (first_of cmp keys key)
        → IsFirstBefore numbers at recorded i v result
    by_first None e h = none_by result (h ∙ ap (where_before i) e) where
      none_by : (r : Option ℕ) → r ≡ None → IsFirstBefore numbers at recorded i v r
      none_by None h = λ l low is rec.
          let a = passes l is rec in absurd (true≢false (sym a.2 ∙ not_found (λ k. is_eq (cmp k key)) 0 keys e l a.0 a.1))
      none_by (Some r) h = absurd (none-some r (sym h))
    by_first (Some m) e h =
        by_where m (found (λ k. is_eq (cmp k key)) 0 keys m e) (ltb m i) refl result (h ∙ ap (where_before i) e)
