-- Texts after their lengths are ordered by their lengths first, and then byte by byte.
use Rattle.std.proofs.Common.{◌≡◌, ℕ, Bool, ◌||◌, List, [], ◌∷◌, ◌++◌, length, map, inl, inr, refl, sym, ap, ◌∙◌, arith}
use Rattle.std.specs.Cmp.{nat_cmp_is}
use Rattle.std.proofs.lemmas.Bool.Decides.{leb_tells}
use Rattle.std.specs.Ordering.{nat_cmp, ordering_then}
use Rattle.std.specs.declared.cmp.Ordering.{Ordering}
use Rattle.std.specs.declared.cmp.Ordering.TheVariants.{Less, Equal, Greater}
use Rattle.std.specs.Cmp.Lexicographic.{slice_cmp}
use Rattle.std.specs.List.{list_any}
use Rattle.hub_kinds.specs.Words.{has_same_key, has_twice}
use Rattle.partner_setup.specs.SetupFaults.{told}

pub then_assoc : (a b c : Ordering) → ordering_then (ordering_then a b) c ≡ ordering_then a (ordering_then b c)
then_assoc Less b c = refl
then_assoc Equal b c = refl
then_assoc Greater b c = refl

cmp_front : (a b r s : List ℕ) → length a ≡ length b
    → slice_cmp nat_cmp (a ++ r) (b ++ s) ≡ ordering_then (slice_cmp nat_cmp a b) (slice_cmp nat_cmp r s)
cmp_front [] [] r s e = refl
cmp_front [] (y ∷ b) r s e = absurd (omega arith)
cmp_front (x ∷ a) [] r s e = absurd (omega arith)
cmp_front (x ∷ a) (y ∷ b) r s e =
    ap (ordering_then (nat_cmp x y)) (cmp_front a b r s (omega arith))
    ∙ sym (then_assoc (nat_cmp x y) (slice_cmp nat_cmp a b) (slice_cmp nat_cmp r s))

by_lengths : (o : Ordering) (a b r s : List ℕ) → (o ≡ Equal → length a ≡ length b)
    → ordering_then o (slice_cmp nat_cmp (a ++ r) (b ++ s))
    ≡ ordering_then (ordering_then o (slice_cmp nat_cmp a b)) (slice_cmp nat_cmp r s)
by_lengths Less a b r s same = refl
by_lengths Equal a b r s same = cmp_front a b r s (same refl)
by_lengths Greater a b r s same = refl

pub then_equal : (o : Ordering) → ordering_then o Equal ≡ o
then_equal Less = refl
then_equal Equal = refl
then_equal Greater = refl

equal_numbers : (x y : ℕ) → nat_cmp x y ≡ Equal → x ≡ y
equal_numbers x y e = elim (leb_tells x y) [
  | inl w ↦ elim (leb_tells y x) [
    | inl v ↦ omega (arith, w, v)
    | inr v ↦ let less = nat_cmp_is x y Less v.1 ∙ e in cc
  ]
  | inr w ↦ let more = nat_cmp_is x y Greater w.1 ∙ e in cc
]

pub told_order : (a b r s : List ℕ) → slice_cmp nat_cmp (told a r) (told b s)
    ≡ ordering_then (ordering_then (nat_cmp (length a) (length b)) (slice_cmp nat_cmp a b)) (slice_cmp nat_cmp r s)
told_order a b r s = by_lengths (nat_cmp (length a) (length b)) a b r s (equal_numbers (length a) (length b))

same_behind : {A : Type 0} (f : A → List ℕ) (x : A) (xs : List A)
    → list_any (has_same_key f x) xs ≡ list_any (has_same_key (λ (k : List ℕ). k) (f x)) (map f xs)
same_behind f x [] = refl
same_behind f x (y ∷ ys) = ap (λ (b : Bool). has_same_key f x y || b) (same_behind f x ys)

by_keys : {A : Type 0} (f : A → List ℕ) (xs : List A) → has_twice f xs ≡ has_twice (λ (k : List ℕ). k) (map f xs)
by_keys f [] = refl
by_keys f (x ∷ xs) =
    ap (λ (b : Bool). b || has_twice f xs) (same_behind f x xs)
    ∙ ap (λ (b : Bool). list_any (has_same_key (λ (k : List ℕ). k) (f x)) (map f xs) || b) (by_keys f xs)

-- what is told apart by the same, stands twice alike
pub twice_alike : {A B : Type 0} (f : A → List ℕ) (g : B → List ℕ) (xs : List A) (ys : List B) → map f xs ≡ map g ys
    → has_twice f xs ≡ has_twice g ys
twice_alike f g xs ys e = by_keys f xs ∙ ap (has_twice (λ (k : List ℕ). k)) e ∙ sym (by_keys g ys)
