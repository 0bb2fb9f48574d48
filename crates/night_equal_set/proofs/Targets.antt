-- What a dependency asks of its target.
use Rattle.std.proofs.Common.{◌≡◌, ◌↔◌, ℕ, zero, suc, List, [], ◌∷◌, Bool, true, false, ◌&&◌, ◌||◌, not, Option, Some, None, refl, sym}
use Rattle.std.proofs.Common.{ap, ◌∙◌, subst, arith}
use Rattle.std.specs.Prelude.{IsTrue, IsFalse, bytes_eq}
use mathlib.Core.Logic.{inl, inr}
use Rattle.std.specs.List.{Contains, list_all, list_any}
use Rattle.std.specs.Option.{option_map_or}
use Rattle.std.proofs.lemmas.List.Elements.{Contains-append_left, Contains-append_right, Contains-append_cases}
use Rattle.x12_bytes.specs.declared.delims.Delims.{Delims}
use Rattle.guide_tree.specs.declared.slot.Slot.{Slot}
use Rattle.guide_tree.specs.declared.rows.Dependency.{Dependency}
use Rattle.guide_tree.specs.declared.rows.DependencyKind.{DependencyKind}
use Rattle.guide_tree.specs.declared.rows.DependencyKind.TheVariants.{Need, Ban}
use Rattle.elem_rules.proofs.ForAbove.{no_member, contains_one, one_contains}
use Rattle.depend_check.specs.Standing.{stands_at, fills, triggers}
use Rattle.depend_check.specs.Kept as old_kept
use Rattle.night_definition.specs.Segments.{element}
use Rattle.night_definition.specs.Elements.{is_filled}
use Rattle.night_definition.specs.Guides.{Given, is_among}
use Rattle.night_definition.specs.Rules as room
use Rattle.night_definition.specs.Sets as room_sets
use Rattle.night_equal_set.specs.Meeting.{TargetsAreOne}
use Rattle.night_equal_set.proofs.Facts.{same_text}

pub label_is : (label : List ℕ) (x : Given) → room.has_label label x.1 ≡ stands_at label x
label_is label x = by x.1.label
  where
    by : (o : Option (List ℕ)) → option_map_or (bytes_eq label) o false ≡ option_map_or (λ l. bytes_eq l label) o false
    by None = refl
    by (Some l) = same_text label l

pub trigger_is : (r : Dependency) (x : Given) → room.triggers r x ≡ triggers r x
trigger_is r x = ap (λ b. b && is_among r.codes (element r.at x.0)) (label_is r.slot x)

pub any_same : {A : Type 0} (p q : A → Bool) → ((x : A) → p x ≡ q x) → (xs : List A) → list_any p xs ≡ list_any q xs
any_same p q same [] = refl
any_same p q same (x ∷ xs) = ap (λ b. b || list_any p xs) (same x) ∙ ap (λ b. q x || b) (any_same p q same xs)

pub all_given : {A : Type 0} (p : A → Bool) (xs : List A) → list_all p xs ≡ true → (x : A) → Contains xs x → p x ≡ true
all_given p [] all x there = absurd (no_member x there)
all_given p (y ∷ xs) all x there = elim (Contains-append_cases (y ∷ []) xs x there) [
  | inl e ↦ subst (λ z. p z ≡ true) (sym (contains_one y x e)) (front (p y) (list_all p xs) all)
  | inr e ↦ all_given p xs (behind (p y) (list_all p xs) all) x e
]
  where
    front : (a b : Bool) → (a && b) ≡ true → a ≡ true
    front a b is = grind arith

    behind : (a b : Bool) → (a && b) ≡ true → b ≡ true
    behind a b is = grind arith

pub all_from : {A : Type 0} (p : A → Bool) (xs : List A) → ((x : A) → Contains xs x → p x ≡ true) → list_all p xs ≡ true
all_from p [] each = refl
all_from p (y ∷ xs) each =
    both (p y) (list_all p xs) (each y (Contains-append_left (y ∷ []) xs y (one_contains y)))
    (all_from p xs (λ x there. each x (Contains-append_right (y ∷ []) xs x there)))
  where
    both : (a b : Bool) → a ≡ true → b ≡ true → (a && b) ≡ true
    both a b one two = grind arith

none_any : {A : Type 0} (p : A → Bool) (xs : List A) → list_all (λ x. not (p x)) xs ≡ not (list_any p xs)
none_any p [] = refl
none_any p (x ∷ xs) = ap (λ b. not (p x) && b) (none_any p xs) ∙ by (p x) (list_any p xs)
  where
    by : (a b : Bool) → (not a && not b) ≡ not (a || b)
    by true b = refl
    by false b = refl

module _ (d : Delims) (xs : List Given) (r : Dependency) where
  abbrev at : DependencyKind → ℕ → Dependency
  at kind element = record r { kind = kind; element = element }

  kept : (kind : DependencyKind) (e : ℕ) → room_sets.IsTargetKept d xs (at kind e) ↔ old_kept.IsTargetKept d xs r.target kind e
  kept Need zero =
      let same : list_any (λ x. room.has_label r.target x.1) xs ≡ list_any (stands_at r.target) xs =
      any_same (λ x. room.has_label r.target x.1) (stands_at r.target) (label_is r.target) xs in
      (λ h. sym same ∙ h, λ h. same ∙ h)
  kept Ban zero =
      let same : list_all (λ x. not (room.has_label r.target x.1)) xs ≡ not (list_any (stands_at r.target) xs) =
      none_any (λ x. room.has_label r.target x.1) xs ∙ ap not
      (any_same (λ x. room.has_label r.target x.1) (stands_at r.target) (label_is r.target) xs) in
      (λ h. off (list_any (stands_at r.target) xs) (sym same ∙ h), λ h. same ∙ on (list_any (stands_at r.target) xs) h)
    where
      off : (b : Bool) → not b ≡ true → b ≡ false
      off b is = grind arith

      on : (b : Bool) → b ≡ false → not b ≡ true
      on b is = grind arith
  kept Need (suc e) = (
    λ h x there used. to (room.has_label r.target x.1) (fills d (suc e) x)
        (all_given (λ x. not (room.has_label r.target x.1) || is_filled d (element (suc e) x.0)) xs h x there)
        (label_is r.target x ∙ used),
    λ h. all_from (λ x. not (room.has_label r.target x.1) || is_filled d (element (suc e) x.0)) xs
        (λ x there. from (room.has_label r.target x.1) (fills d (suc e) x) (λ used. h x there (sym (label_is r.target x) ∙ used))),
  )
    where
      to : (a b : Bool) → (not a || b) ≡ true → a ≡ true → b ≡ true
      to true b is used = is
      to false b is used = grind arith

      from : (a b : Bool) → (a ≡ true → b ≡ true) → (not a || b) ≡ true
      from true b is = is refl
      from false b is = refl
  kept Ban (suc e) = (
    λ h x there used. to (room.has_label r.target x.1) (fills d (suc e) x)
        (all_given (λ x. not (room.has_label r.target x.1 && is_filled d (element (suc e) x.0))) xs h x there)
        (label_is r.target x ∙ used),
    λ h. all_from (λ x. not (room.has_label r.target x.1 && is_filled d (element (suc e) x.0))) xs
        (λ x there. from (room.has_label r.target x.1) (fills d (suc e) x) (λ used. h x there (sym (label_is r.target x) ∙ used))),
  )
    where
      to : (a b : Bool) → not (a && b) ≡ true → a ≡ true → b ≡ false
      to true true is used = sym is
      to true false is used = refl
      to false b is used = grind arith

      from : (a b : Bool) → (a ≡ true → b ≡ false) → not (a && b) ≡ true
      from true b is = ap not (is refl)
      from false b is = refl

pub targets : TargetsAreOne
targets d xs r = kept d xs r r.kind r.element
