-- Lists that grow by one item, and what is read of their items so far.
use Rattle.std.proofs.Common.{◌≡◌, ℕ, ◌+◌, List, [], ◌∷◌, ◌++◌, Some, map, take, length, get_or, refl, ap, subst, ◌∙◌}
use Rattle.std.specs.Prelude.{option_map, slice_get}
use Rattle.std.specs.List.{All}
use Rattle.std.proofs.lemmas.List.{take_more}
use Rattle.std.proofs.lemmas.List.Elements.{All-get_or}
use Rattle.std.proofs.Common.{length-append}
use Rattle.std.proofs.lemmas.Option.{get_or_from_slice_get, slice_get-map, slice_get_within}
use Rattle.set_check.specs.Codes.{control_of}
use Rattle.env_index.specs.declared.entry.SetEnvelope.{SetEnvelope}
use Rattle.set_answers.specs.Answers.{controls_of}

pub map_snoc : {A B : Type 0} (f : A → B) (xs : List A) (y : A) → map f (xs ++ y ∷ []) ≡ map f xs ++ f y ∷ []
map_snoc f [] y = refl
map_snoc f (x ∷ xs) y = ap (λ ys. f x ∷ ys) (map_snoc f xs y)

pub length_snoc : {A : Type 0} (xs : List A) (y : A) → length (xs ++ y ∷ []) ≡ length xs + 1
length_snoc xs y = length-append xs (y ∷ [])

-- one item more of the first ones
pub take_one_more : {A : Type 0} (xs : List A) (i : ℕ) (x : A) → slice_get xs i ≡ Some x → take (i + 1) xs ≡ take i xs ++ x ∷ []
take_one_more {A} xs i x is = take_more xs i x (slice_get_within xs i x is)
    ∙ ap (λ (y : A). take i xs ++ y ∷ []) (get_or_from_slice_get xs i x x is)

pub controls_more : (sets : List SetEnvelope) (i : ℕ) (set : SetEnvelope) → slice_get sets i ≡ Some set
    → controls_of (take (i + 1) sets) ≡ controls_of (take i sets) ++ control_of set.header ∷ []
controls_more sets i set is = ap controls_of (take_one_more sets i set is)
    ∙ map_snoc (λ (s : SetEnvelope). control_of s.header) (take i sets) set

-- what holds of each item holds of the one at a place
pub at_index : {A : Type 0} (P : A → Type 0) (xs : List A) (i : ℕ) (x : A) → slice_get xs i ≡ Some x → All P xs → P x
at_index P xs i x is all = subst P (get_or_from_slice_get xs i x x is) (All-get_or P xs i x (slice_get_within xs i x is) all)

-- what stands beside an item in the list of what is made of each
pub mapped_at : {A B : Type 0} (f : A → B) (xs : List A) (ys : List B) (i : ℕ) (x : A) (d : B) → ys ≡ map f xs → slice_get xs i ≡ Some x
    → get_or ys i d ≡ f x
mapped_at f xs ys i x d are at =
    get_or_from_slice_get ys i (f x) d (ap (λ l. slice_get l i) are ∙ slice_get-map f xs i ∙ ap (option_map f) at)
