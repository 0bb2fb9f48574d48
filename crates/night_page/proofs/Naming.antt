-- Names that are in order are searched by halves, and are just the texts that they were made of.
use Rattle.std.proofs.Common.{◌≡◌, ◌∙◌, ◌↔◌, ℕ, ◌+◌, Bool, true, false, ◌||◌, List, [], ◌∷◌, ap, arith, get_or, inl, inr, length, map}
use Rattle.std.proofs.Common.{refl, sym}
use Rattle.std.specs.Cmp.{IsTotalOrder}
use Rattle.std.specs.Cmp.Lexicographic.{on_texts, slice_cmp}
use Rattle.std.specs.List.{Contains, list_any}
use Rattle.std.specs.List.Sorted.{IsBinarySearchResult, IsSearchInRange, IsSorted}
use Rattle.std.specs.Ordering.{is_eq, is_lt, nat_cmp, ordering_reverse}
use Rattle.std.specs.Result.{is_ok}
use Rattle.std.specs.Str.{bytes_eq}
use Rattle.std.specs.declared.cmp.Ordering.{Ordering}
use Rattle.std.specs.declared.cmp.Ordering.TheVariants.{Less, Equal, Greater}
use Rattle.std.specs.declared.result.Result.{Result}
use Rattle.std.specs.declared.result.Result.TheVariants.{Ok, Err}
use Rattle.std.proofs.Math.ListN.{get_or-map}
use Rattle.std.proofs.lemmas.Bool.{cases_lt}
use Rattle.std.proofs.lemmas.Cmp.{nat_list_cmp_total}
use Rattle.std.proofs.lemmas.List.{length-map}
use Rattle.std.proofs.lemmas.List.Folds.{Any-from_list_any, list_any_at, list_any_none}
use Rattle.std.proofs.lemmas.List.Sorted.{searchable_from_sorted}
use Rattle.std.proofs.lemmas.Map.Keys.{Less-from_sorted}
use Rattle.std.proofs.lemmas.Map.Text.{is_eq-slice_cmp}
use Rattle.hub_kinds.specs.Rising.{IsKeyedBy, IsRisingBy, order_by}
use Rattle.night_page.specs.Names.{AreNames, text_of, texts_of}
use Rattle.night_page.specs.declared.name.Name.{Name}

abbrev order : Name → Name → Ordering
order = order_by text_of

total : IsTotalOrder order
total = on_texts text_of

pub named_once : (names : List Name) → IsKeyedBy text_of names
named_once names x y here there same = ap (λ (t : List ℕ). record { text = t }) same

behind : (a b : Ordering) → a ≡ ordering_reverse b → a ≡ Less → is_lt b ≡ false
behind a Less e h = let k : Greater ≡ Less = sym e ∙ h in cc
behind a Equal e h = refl
behind a Greater e h = refl

sorted : (names : List Name) → IsRisingBy text_of names → IsSorted order names
sorted names up k d l m =
    behind (order (get_or names k d) (get_or names (k + 1) d)) (order (get_or names (k + 1) d) (get_or names k d))
    (total.antisymm (get_or names k d) (get_or names (k + 1) d))
    (Less-from_sorted order names k (k + 1) d up (omega arith) (omega arith))

reversed_is_eq : (r : Ordering) → is_eq (ordering_reverse r) ≡ is_eq r
reversed_is_eq Less = refl
reversed_is_eq Equal = refl
reversed_is_eq Greater = refl

equal_bytes : (key other : List ℕ) → bytes_eq key other ≡ is_eq (slice_cmp nat_cmp other key)
equal_bytes key other =
    sym (is_eq-slice_cmp key other) ∙ ap is_eq (nat_list_cmp_total.antisymm key other) ∙ reversed_is_eq (slice_cmp nat_cmp other key)

any_map : {X Y : Type 0} (p : Y → Bool) (f : X → Y) (xs : List X) → list_any (λ x. p (f x)) xs ≡ list_any p (map f xs)
any_map p f [] = refl
any_map p f (x ∷ xs) = ap (λ (b : Bool). p (f x) || b) (any_map p f xs)

-- what a search by halves answers is whether one of the names is the text
pub searched : (names : List Name) (key : List ℕ) (r : Result ℕ ℕ) → IsRisingBy text_of names → IsSearchInRange r (length names)
    → IsBinarySearchResult (λ y. slice_cmp nat_cmp (text_of y) key) names r → is_ok r ≡ list_any (bytes_eq key) (texts_of names)
searched names key (Ok i) up l h =
    sym (list_any_at (λ (n : Name). bytes_eq key (text_of n)) names i (record { text = key }) l
    (equal_bytes key _ ∙ ap is_eq (h (record { text = key }))))
    ∙ any_map (bytes_eq key) text_of names
searched names key (Err i) up l h =
    let p = h (searchable_from_sorted nat_list_cmp_total text_of names key (sorted names up)) in
    sym (list_any_none (λ (n : Name). bytes_eq key (text_of n)) names (λ k d m. elim (cases_lt k i) [
      | inl a ↦ equal_bytes key _ ∙ ap is_eq (p.0 k d (omega arith) a)
      | inr b ↦ equal_bytes key _ ∙ ap is_eq (p.1 k d b m)
    ]))
    ∙ any_map (bytes_eq key) text_of names

into : (p : List ℕ → Bool) (xs ys : List (List ℕ)) → ((t : List ℕ) → Contains xs t → Contains ys t) → list_any p xs ≡ true
    → list_any p ys ≡ true
into p xs ys all h =
    let a = Any-from_list_any p xs h in
    let c = all a.1 (a.0, a.2, a.3) in
    list_any_at p ys c.0 a.1 c.1 (ap p c.2 ∙ a.4)

both_ways : (a b : Bool) → (a ≡ true → b ≡ true) → (b ≡ true → a ≡ true) → a ≡ b
both_ways true true there back = refl
both_ways true false there back = sym (there refl)
both_ways false true there back = back refl
both_ways false false there back = refl

text_in : (names : List Name) (n : Name) → Contains names n → Contains (texts_of names) (text_of n)
text_in names n (i, low, at) =
    (i, omega (arith, low, length-map names text_of), get_or-map text_of names i n ∙ ap text_of at)

name_in : (names : List Name) (t : List ℕ) → Contains (texts_of names) t → Contains names (record { text = t })
name_in names t (i, low, at) = (
  i,
  omega (arith, low, length-map names text_of),
  ap (λ (x : List ℕ). record { text = x }) (sym (get_or-map text_of names i (record { text = t })) ∙ at),
)

-- the names that are in order are the texts that they were made of
pub named : (found names : List Name) → ((n : Name) → Contains names n ↔ Contains found n) → IsRisingBy text_of names
    → AreNames (texts_of found) names
named found names same up = record {
  same = λ t. (
    λ here. text_in found (record { text = t }) ((same (record { text = t })).0 (name_in names t here)),
    λ here. text_in names (record { text = t }) ((same (record { text = t })).1 (name_in found t here)),
  );
  rising = up;
}

-- lists of the same texts pass a test alike
pub same_any : (p : List ℕ → Bool) (xs ys : List (List ℕ)) → ((t : List ℕ) → Contains xs t ↔ Contains ys t) → list_any p xs ≡ list_any p ys
same_any p xs ys same =
    both_ways (list_any p xs) (list_any p ys) (into p xs ys (λ t. (same t).0)) (into p ys xs (λ t. (same t).1))
