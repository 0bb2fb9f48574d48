-- The sets of later interchanges after those of earlier ones.
use Rattle.std.proofs.Common.{◌≡◌, ◌≢◌, ◌<◌, ℕ, zero, suc, ◌==◌, Bool, true, false, List, [], ◌∷◌, ◌++◌, Some, length, refl, sym, ap}
use Rattle.std.proofs.Common.{subst, ◌∙◌, append-nil, eqb-true, eq-eqb, true≢false}
use Rattle.std.specs.Prelude.{slice_get, slice_index_or, slice_set}
use Rattle.std.specs.List.{filter}
use Rattle.std.proofs.lemmas.List.Concat.{flat_map-append}
use Rattle.std.proofs.lemmas.List.Elements.{filter-append}
use Rattle.std.proofs.lemmas.Option.{get_or_from_slice_get}
use Rattle.answered_sets.specs.Judged.{JudgedValue, PlacedValue, all_sets, sets_of}
use Rattle.partner_setup.specs.Setup.{SetupValue}
use Rattle.mailbox.specs.Deliveries.{AreDelivered, delivered_to, is_delivered_to}
use Rattle.mailbox.specs.Delivering.{HasGrown}
use Rattle.mailbox.proofs.Growing.{Lists, grown_as, grown_twice}
use Rattle.mailbox.proofs.Replacing.{length_set, set_here, set_there, there_is}

-- at this place alone
abbrev at_place : (k : ℕ) → List PlacedValue → (q : ℕ) → List PlacedValue
at_place zero sets zero = sets
at_place zero sets (suc q) = []
at_place (suc k) sets zero = []
at_place (suc k) sets (suc q) = at_place k sets q

at_same : (k : ℕ) (sets : List PlacedValue) → at_place k sets k ≡ sets
at_same zero sets = refl
at_same (suc k) sets = at_same k sets

at_other : (k q : ℕ) (sets : List PlacedValue) → k ≢ q → at_place k sets q ≡ []
at_other zero zero sets other = absurd (other refl)
at_other zero (suc q) sets other = refl
at_other (suc k) zero sets other = refl
at_other (suc k) (suc q) sets other = at_other k q sets (λ e. other (ap suc e))

-- one list more
list_more : (ls : Lists) (sets : List PlacedValue) (q : ℕ)
    → slice_index_or ls q [] ++ at_place (length ls) sets q ≡ slice_index_or (ls ++ sets ∷ []) q []
list_more [] sets zero = refl
list_more [] sets (suc q) = refl
list_more (l ∷ ls) sets zero = append-nil l
list_more (l ∷ ls) sets (suc q) = list_more ls sets q

module _ (a b : Lists) (k : ℕ) (sets : List PlacedValue) (within : k < length a)
    (made : (xs : List PlacedValue) → slice_get a k ≡ Some xs → b ≡ slice_set a k (xs ++ sets)) where
  had : (xs : List PlacedValue) × (slice_get a k ≡ Some xs)
  had = there_is a k within

  set : b ≡ slice_set a k (had.0 ++ sets)
  set = made had.0 had.1

  by : (q : ℕ) (xs : List PlacedValue) → slice_get a q ≡ Some xs → (c : Bool) → (k == q) ≡ c
      → slice_get b q ≡ Some (xs ++ at_place k sets q)
  by q xs there true same =
      let q_is : k ≡ q = eqb-true k q same in
      let here : slice_get a k ≡ Some xs = subst (λ (n : ℕ). slice_get a n ≡ Some xs) (sym q_is) there in
      subst (λ (n : ℕ). slice_get b n ≡ Some (xs ++ sets)) q_is
      (ap (λ (ls : Lists). slice_get ls k) (made xs here) ∙ set_here a k xs (xs ++ sets) here)
      ∙ ap (λ (ys : List PlacedValue). Some (xs ++ ys)) (sym (ap (at_place k sets) (sym q_is) ∙ at_same k sets))
  by q xs there false other =
      let apart : k ≢ q = λ e. true≢false (sym (eq-eqb k q e) ∙ other) in
      ap (λ (ls : Lists). slice_get ls q) set
      ∙ set_there a k q (had.0 ++ sets) apart
      ∙ there ∙ ap (λ (ys : List PlacedValue). Some ys) (sym (append-nil xs))
      ∙ ap (λ (ys : List PlacedValue). Some (xs ++ ys)) (sym (at_other k q sets apart))

  grown_at : HasGrown (at_place k sets) a b
  grown_at = record {
    count = ap (λ (ls : Lists). length ls) set ∙ length_set a k (had.0 ++ sets);
    each = λ q xs there. by q xs there (k == q) refl;
  }

-- the lists so far, and one more
pub lists_grown : (done : Lists) (sets : List PlacedValue) (first a b : Lists) (k : ℕ) → k ≡ length done → k < length a
    → ((xs : List PlacedValue) → slice_get a k ≡ Some xs → b ≡ slice_set a k (xs ++ sets))
    → HasGrown (λ q. slice_index_or done q []) first a → HasGrown (λ q. slice_index_or (done ++ sets ∷ []) q []) first b
lists_grown done sets first a b k is within made before =
    grown_as _ _ first b
    (λ q. ap (λ (n : ℕ). slice_index_or done q [] ++ at_place n sets q) is ∙ list_more done sets q)
    (grown_twice _ _ first a b before (grown_at a b k sets within made))

-- those of all
pub delivered_joined : (setup : SetupValue) (xs ys all : List JudgedValue) (a more b : Lists) → xs ++ ys ≡ all → AreDelivered setup xs a
    → AreDelivered setup ys more → HasGrown (λ q. slice_index_or more q []) a b → AreDelivered setup all b
delivered_joined setup xs ys all a more b is first second grown = record {
  count = grown.count ∙ first.count;
  each = λ q within. grown.each q (delivered_to setup q xs) (first.each q within)
      ∙ ap (λ (ps : List PlacedValue). Some (delivered_to setup q xs ++ ps))
      (get_or_from_slice_get more q (delivered_to setup q ys) [] (second.each q within))
      ∙ ap (λ (ps : List PlacedValue). Some ps) (sym (filter-append (is_delivered_to setup q) (all_sets xs) (all_sets ys)))
      ∙ ap (λ (ps : List PlacedValue). Some (filter (is_delivered_to setup q) ps)) (sym (flat_map-append sets_of xs ys))
      ∙ ap (λ (js : List JudgedValue). Some (delivered_to setup q js)) is;
}
