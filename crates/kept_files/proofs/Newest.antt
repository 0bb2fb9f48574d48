-- Rows by their addresses: the last one of each, in the order of bytes.
use Rattle.std.proofs.Common.{◌≡◌, ◌∙◌, ℕ, Bool, true, false, cond, not, ◌&&◌, List, [], ◌∷◌, Option, Some, None, refl, sym, ap, subst}
use Rattle.std.proofs.Common.{reverse}
use Rattle.std.specs.Prelude.{slice_get}
use Rattle.std.specs.Cmp.Lexicographic.{nat_list_cmp_total, nat_list_eq_equiv, slice_cmp}
use Rattle.std.specs.List.{AllByRecursion, dedup, dedup_from, filter, find}
use Rattle.std.specs.List.Sorted.{IsStrictlySortedBy, ties}
use Rattle.std.specs.Option.{option_or}
use Rattle.std.specs.Ordering.{eq_by_cmp, is_eq, is_lt, nat_cmp, ordering_reverse}
use Rattle.std.specs.Str.{bytes_eq}
use Rattle.std.specs.declared.cmp.Ordering.{Ordering}
use Rattle.std.specs.declared.cmp.Ordering.TheVariants.{Equal, Greater, Less}
use Rattle.std.proofs.lemmas.List.{reverse-append}
use Rattle.std.proofs.lemmas.List.Elements.{filter_agree}
use Rattle.std.proofs.lemmas.List.Folds.{find-append}
use Rattle.std.proofs.lemmas.Map.Text.{is_eq-slice_cmp}
use Rattle.std.proofs.lemmas.Slice.Eq.{bytes_eq-Decides}
use Rattle.hub_kinds.specs.Rising.{IsRisingBy, order_by}

pub or_none : {X : Type 0} (o : Option X) → option_or o None ≡ o
or_none None = refl
or_none (Some x) = refl

pub or_or : {X : Type 0} (a b c : Option X) → option_or (option_or a b) c ≡ option_or a (option_or b c)
or_or None b c = refl
or_or (Some a) b c = refl

module _ {X : Type 0} (key : X → List ℕ) where
  -- the last one with an address
  abbrev pub last_by : (address : List ℕ) → List X → Option X
  last_by address [] = None
  last_by address (x ∷ xs) = option_or (last_by address xs) (cond (bytes_eq (key x) address) (Some x) None)

  abbrev pub first_by : (address : List ℕ) → List X → Option X
  first_by address xs = find (λ x. bytes_eq (key x) address) xs

  -- the last one of a list is the first one of the list turned round
  pub first_reversed : (address : List ℕ) (xs : List X) → first_by address (reverse xs) ≡ last_by address xs
  first_reversed address [] = refl
  first_reversed address (x ∷ xs) =
      ap (first_by address) (reverse-append (x ∷ []) xs) ∙ find-append (λ x. bytes_eq (key x) address) (reverse xs) (x ∷ [])
      ∙ ap (λ o. option_or o (cond (bytes_eq (key x) address) (Some x) None)) (first_reversed address xs)

  -- a stable sort keeps the first one of each address
  first_kept : (p : X → Bool) (b : Bool) (x : X) (found : Option X) (rest : List X) → found ≡ slice_get rest 0
      → cond b (Some x) found ≡ slice_get (cond b (x ∷ rest) rest) 0
  first_kept p true x found rest same = refl
  first_kept p false x found rest same = same

  first_of_filter : (p : X → Bool) (xs : List X) → find p xs ≡ slice_get (filter p xs) 0
  first_of_filter p [] = refl
  first_of_filter p (x ∷ xs) = first_kept p (p x) x (find p xs) (filter p xs) (first_of_filter p xs)

  tie_by : (o : Ordering) → not (is_lt o) && not (is_lt (ordering_reverse o)) ≡ is_eq o
  tie_by Less = refl
  tie_by Equal = refl
  tie_by Greater = refl

  pub ties_at : (x y : X) → ties (λ a b. is_lt (order_by key a b)) x y ≡ bytes_eq (key y) (key x)
  ties_at x y =
      ap (λ o. not (is_lt (order_by key x y)) && not (is_lt o)) (nat_list_cmp_total.antisymm (key y) (key x))
      ∙ tie_by (order_by key x y) ∙ is_eq-slice_cmp (key x) (key y) ∙ nat_list_eq_equiv.symm (key x) (key y)

  pub first_sorted : (x : X) (xs sorted : List X)
      → filter (ties (λ a b. is_lt (order_by key a b)) x) sorted ≡ filter (ties (λ a b. is_lt (order_by key a b)) x) xs
      → first_by (key x) sorted ≡ first_by (key x) xs
  first_sorted x xs sorted stable =
      let at : X → Bool = λ y. bytes_eq (key y) (key x) in
      let same = filter_agree (ties (λ a b. is_lt (order_by key a b)) x) at (ties_at x) in
      first_of_filter at sorted ∙ ap (λ l. slice_get l 0) (sym (same sorted) ∙ stable ∙ same xs) ∙ sym (first_of_filter at xs)

  -- and so does keeping the first of each address among neighbours
  skip : (b c : Bool) (k x : X) (rest : Option X) → c ≡ b → cond b (Some k) rest ≡ cond b (Some k) (cond c (Some x) rest)
  skip true c k x rest same = refl
  skip false c k x rest same = ap (λ t. cond t (Some x) rest) (sym same)

  one_step : (p : X → Bool) (b : Bool) (k x : X) (xs of_k of_x : List X) → (b ≡ true → p x ≡ p k)
      → find p of_k ≡ find p (k ∷ xs) → find p of_x ≡ find p (x ∷ xs) → find p (cond b of_k (k ∷ of_x)) ≡ find p (k ∷ x ∷ xs)
  one_step p true k x xs of_k of_x same one two = one ∙ skip (p k) (p x) k x (find p xs) (same refl)
  one_step p false k x xs of_k of_x same one two = ap (λ o. cond (p k) (Some k) o) two

  same_key : (x y : X) → eq_by_cmp (order_by key) x y ≡ true → key x ≡ key y
  same_key x y tie = (bytes_eq-Decides (key x) (key y)).0 (sym (is_eq-slice_cmp (key x) (key y)) ∙ tie)

  first_from : (address : List ℕ) (k : X) (xs : List X)
      → first_by address (dedup_from (eq_by_cmp (order_by key)) k xs) ≡ first_by address (k ∷ xs)
  first_from address k [] = refl
  first_from address k (x ∷ xs) =
      one_step (λ y. bytes_eq (key y) address) (eq_by_cmp (order_by key) x k) k x xs (dedup_from (eq_by_cmp (order_by key)) k xs)
      (dedup_from (eq_by_cmp (order_by key)) x xs) (λ tie. ap (λ t. bytes_eq t address) (same_key x k tie)) (first_from address k xs)
      (first_from address x xs)

  pub first_once : (address : List ℕ) (xs : List X) → first_by address (dedup (eq_by_cmp (order_by key)) xs) ≡ first_by address xs
  first_once address [] = refl
  first_once address (x ∷ xs) = first_from address x xs

  -- in a list that rises, the first one of an address is the last one
  differs : (xs ys : List ℕ) → slice_cmp nat_cmp xs ys ≡ Less → bytes_eq ys xs ≡ false
  differs xs ys less = nat_list_eq_equiv.symm ys xs ∙ sym (is_eq-slice_cmp xs ys) ∙ ap is_eq less

  pub none_after : (x : X) (xs : List X) → AllByRecursion (λ y. order_by key x y ≡ Less) xs → last_by (key x) xs ≡ None
  none_after x [] above = refl
  none_after x (y ∷ ys) above =
      ap (λ o. option_or o (cond (bytes_eq (key y) (key x)) (Some y) None)) (none_after x ys above.1)
      ∙ ap (λ b. cond b (Some y) None) (differs (key x) (key y) above.0)

  either_way : (b : Bool) (x : X) (last first : Option X) → (b ≡ true → last ≡ None) → last ≡ first
      → option_or last (cond b (Some x) None) ≡ cond b (Some x) first
  either_way true x last first none same = ap (λ o. option_or o (Some x)) (none refl)
  either_way false x last first none same = or_none last ∙ same

  pub last_is_first : (address : List ℕ) (xs : List X) → IsRisingBy key xs → last_by address xs ≡ first_by address xs
  unfolding IsStrictlySortedBy
  last_is_first address [] up = refl
  last_is_first address (x ∷ xs) up =
      either_way (bytes_eq (key x) address) x (last_by address xs) (first_by address xs)
      (λ tie. subst (λ a. last_by a xs ≡ None) ((bytes_eq-Decides (key x) address).0 tie) (none_after x xs up.0))
      (last_is_first address xs up.1)
