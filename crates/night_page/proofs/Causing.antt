-- There is something to do exactly if there is a cause.
use Rattle.std.proofs.Common.{◌≡◌, ◌↔◌, ℕ, Bool, ◌||◌, List, [], ◌∷◌, Option, Some, None, arith, refl}
use Rattle.std.specs.Prelude.{is_some}
use Rattle.std.specs.List.{Contains, cons_option, filter_map, list_any}
use Rattle.night_page.specs.Names.{is_filled, texts_of}
use Rattle.night_page.specs.declared.name.Name.{Name}

by_first : {Y : Type 0} (o : Option Y) (ys : List Y) (b : Bool) → is_filled ys ≡ b → is_filled (cons_option o ys) ≡ (is_some o || b)
by_first None ys b later = later
by_first (Some y) ys b later = refl

pub filled : {X Y : Type 0} (h : X → Option Y) (xs : List X) → is_filled (filter_map h xs) ≡ list_any (λ x. is_some (h x)) xs
filled h [] = refl
filled h (x ∷ xs) = by_first (h x) (filter_map h xs) (list_any (λ y. is_some (h y)) xs) (filled h xs)

first_in : (x : List ℕ) (xs : List (List ℕ)) → Contains (x ∷ xs) x
first_in x xs = (0, omega arith, refl)

none_in : (x : List ℕ) → Contains [] x → ⊥
none_in x (i, low, at) = absurd (omega (arith, low))

pub same_filled : (xs ys : List (List ℕ)) → ((t : List ℕ) → Contains xs t ↔ Contains ys t) → is_filled xs ≡ is_filled ys
same_filled [] [] same = refl
same_filled [] (y ∷ ys) same = absurd (none_in y ((same y).1 (first_in y ys)))
same_filled (x ∷ xs) [] same = absurd (none_in x ((same x).0 (first_in x xs)))
same_filled (x ∷ xs) (y ∷ ys) same = refl

pub texts_filled : (names : List Name) → is_filled (texts_of names) ≡ is_filled names
texts_filled [] = refl
texts_filled (name ∷ names) = refl
