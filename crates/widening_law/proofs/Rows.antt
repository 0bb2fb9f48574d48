-- A row of a new list stands at a row of the old list and is at most as strict, or after all of those and may be empty.
use Rattle.std.proofs.Common.{◌≡◌, ℕ, zero, suc, ◌≤◌, ◌<◌, ◌⊎◌, inl, inr, List, [], ◌∷◌, Bool, true, length, refl, subst, arith}
use Rattle.std.proofs.Common.{Option, Some, None}
use Rattle.std.specs.Prelude.{◌&&◌, slice_get}
use Rattle.std.specs.List.{list_all}
use Rattle.std.proofs.lemmas.Bool.{and_parts}
use Rattle.guide_tree.specs.declared.element.Component.{Component}
use Rattle.guide_tree.specs.declared.element.Element.{Element}
use Rattle.guide_widening.specs.Rows.{is_wider_component, are_wider_components, fits_no_component, is_wider_element, are_wider_elements}
use Rattle.guide_widening.specs.Rows.{fits_empty}

pub record Before {X : Type 0} (wider : X → X → Bool) (old : List X) (k : ℕ) (row : X) : Type 0 where
  pub before : X
  pub there : slice_get old k ≡ Some before
  pub is : wider before row ≡ true

abbrev pub Held : {X : Type 0} → (wider : X → X → Bool) → (free : X → Bool) → List X → ℕ → X → Type 0
Held wider free old k row = Before wider old k row ⊎ ((length old ≤ k) × (free row ≡ true))

all_get : {X : Type 0} (free : X → Bool) (xs : List X) (k : ℕ) (x : X) → list_all free xs ≡ true → slice_get xs k ≡ Some x
    → free x ≡ true
all_get free [] k x all e = let n : None ≡ Some x = e in cc
all_get free (y ∷ xs) zero x all e =
    let same : y ≡ x = cc in
    subst (λ z. free z ≡ true) same (and_parts (free y) (list_all free xs) all).0
all_get free (y ∷ xs) (suc k) x all e = all_get free xs k x (and_parts (free y) (list_all free xs) all).1 e

module _ {X : Type 0} (wider : X → X → Bool) (free : X → Bool) (old : List X) (x : X) where
  here : (y row : X) → wider x y ≡ true → Some y ≡ Some row → Held wider free (x ∷ old) zero row
  here y row w e =
      let same : y ≡ row = cc in
      inl (record { before = x; there = refl; is = subst (λ z. wider x z ≡ true) same w })

  later : (k : ℕ) (row : X) → Held wider free old k row → Held wider free (x ∷ old) (suc k) row
  later k row (inl b) = inl (record { before = b.before; there = b.there; is = b.is })
  later k row (inr p) = let l = p.0 in inr ((omega arith), p.1)

pub component_held : (old new : List Component) (k : ℕ) (row : Component) → are_wider_components old new ≡ true
    → slice_get new k ≡ Some row → Held is_wider_component fits_no_component old k row
component_held [] new k row h e = inr ((omega arith), all_get fits_no_component new k row h e)
component_held (x ∷ old) [] k row h e = cc
component_held (x ∷ old) (y ∷ new) zero row h e =
    here is_wider_component fits_no_component old x y row
    (and_parts (is_wider_component x y) (are_wider_components old new) h).0 e
component_held (x ∷ old) (y ∷ new) (suc k) row h e =
    later is_wider_component fits_no_component old x k row
    (component_held old new k row (and_parts (is_wider_component x y) (are_wider_components old new) h).1 e)

pub components_more : (old new : List Component) → are_wider_components old new ≡ true → length old ≤ length new
components_more [] new h = omega arith
components_more (x ∷ old) [] h = cc
components_more (x ∷ old) (y ∷ new) h =
    let l = components_more old new (and_parts (is_wider_component x y) (are_wider_components old new) h).1 in omega arith

pub element_held : (old new : List Element) (k : ℕ) (row : Element) → are_wider_elements old new ≡ true
    → slice_get new k ≡ Some row → Held is_wider_element fits_empty old k row
element_held [] new k row h e = inr ((omega arith), all_get fits_empty new k row h e)
element_held (x ∷ old) [] k row h e = cc
element_held (x ∷ old) (y ∷ new) zero row h e =
    here is_wider_element fits_empty old x y row
    (and_parts (is_wider_element x y) (are_wider_elements old new) h).0 e
element_held (x ∷ old) (y ∷ new) (suc k) row h e =
    later is_wider_element fits_empty old x k row
    (element_held old new k row (and_parts (is_wider_element x y) (are_wider_elements old new) h).1 e)

pub elements_more : (old new : List Element) → are_wider_elements old new ≡ true → length old ≤ length new
elements_more [] new h = omega arith
elements_more (x ∷ old) [] h = cc
elements_more (x ∷ old) (y ∷ new) h =
    let l = elements_more old new (and_parts (is_wider_element x y) (are_wider_elements old new) h).1 in omega arith
