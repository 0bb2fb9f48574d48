-- A text that isn't empty has a part that isn't, among its first parts or after them.
use Rattle.std.proofs.Common.{◌≡◌, ◌<◌, ◌⊎◌, inl, inr, ℕ, zero, suc, Bool, true, false, not, ◌&&◌, List, [], ◌∷◌, drop, refl, arith}
use Rattle.std.specs.Prelude.{Option, Some, None, ◌==◌, ◌||◌}
use Rattle.std.specs.List.{list_all, list_any, onto_first, slice_split}
use Rattle.std.specs.Option.{option_map_or}
use Rattle.std.proofs.lemmas.Bool.{or_cases, or_left, or_right}
use Rattle.x12_bytes.specs.declared.delims.Delims.{Delims}
use Rattle.x12_segs.specs.Words.{components, occurrences, part_or_empty, parts_by}
use Rattle.elem_rules.specs.Divided.{is_empty, is_filled, is_inner_separator}

rest_false : (a b : Bool) → a ≡ true → (a && b) ≡ false → b ≡ false
rest_false true b h f = f
rest_false false b h f = cc

abbrev has_other : (ℕ → Bool) → List ℕ → Bool
has_other p part = not (list_all p part)

-- a byte before a part
onto_self : (p : ℕ → Bool) (x : ℕ) (parts : List (List ℕ)) → p x ≡ false → list_any (has_other p) (onto_first x parts) ≡ true
onto_self p x [] other = rw (other) refl
onto_self p x (part ∷ parts) other = rw (other) refl

grow : (a b : Bool) → not b ≡ true → not (a && b) ≡ true
grow true b is = is
grow false b is = refl

longer : (p : ℕ → Bool) (x : ℕ) (part : List ℕ) → has_other p part ≡ true → has_other p (x ∷ part) ≡ true
longer p x part other = grow (p x) (list_all p part) other

onto_some : (p : ℕ → Bool) (x : ℕ) (parts : List (List ℕ)) → list_any (has_other p) parts ≡ true
    → list_any (has_other p) (onto_first x parts) ≡ true
onto_some p x [] some = cc
onto_some p x (part ∷ parts) some = elim (or_cases (has_other p part) (list_any (has_other p) parts) some) [
  | inl is ↦ or_left (has_other p (x ∷ part)) (list_any (has_other p) parts) (longer p x part is)
  | inr is ↦ or_right (has_other p (x ∷ part)) (list_any (has_other p) parts) is
]

onto : (p : ℕ → Bool) (x : ℕ) (xs : List ℕ) (parts : List (List ℕ)) (b : Bool) → p x ≡ b → list_all p (x ∷ xs) ≡ false
    → (list_all p xs ≡ false → list_any (has_other p) parts ≡ true) → list_any (has_other p) (onto_first x parts) ≡ true
onto p x xs parts true is other some = onto_some p x parts (some (rest_false (p x) (list_all p xs) is other))
onto p x xs parts false is other some = onto_self p x parts is

split_at : (p q : ℕ → Bool) (x : ℕ) (xs : List ℕ) (b : Bool) → q x ≡ b → (q x ≡ true → p x ≡ true) → list_all p (x ∷ xs) ≡ false
    → (list_all p xs ≡ false → list_any (has_other p) (slice_split q xs) ≡ true)
    → list_any (has_other p) (slice_split q (x ∷ xs)) ≡ true
split_at p q x xs true is sep other some = rw (is) (some (rest_false (p x) (list_all p xs) (sep is) other))
split_at p q x xs false is sep other some = rw (is) (onto p x xs (slice_split q xs) (p x) refl other some)

split : (p q : ℕ → Bool) → ((b : ℕ) → q b ≡ true → p b ≡ true) → (xs : List ℕ) → list_all p xs ≡ false
    → list_any (has_other p) (slice_split q xs) ≡ true
split p q sep [] other = cc
split p q sep (x ∷ xs) other = split_at p q x xs (q x) refl (sep x) other (split p q sep xs)

one_part : (delims : Delims) (text : List ℕ) → is_empty delims text ≡ false → list_any (is_filled delims) (text ∷ []) ≡ true
one_part delims text filled = rw (filled) refl

is_component : (delims : Delims) (b : ℕ) → (b == delims.component) ≡ true → is_inner_separator delims b ≡ true
is_component delims b is =
    or_left (b == delims.component) (option_map_or (λ separator. b == separator) delims.repetition false) is

is_repetition : (delims : Delims) (s b : ℕ) → delims.repetition ≡ Some s → (b == s) ≡ true → is_inner_separator delims b ≡ true
is_repetition delims s b own is =
    or_right (b == delims.component) (option_map_or (λ separator. b == separator) delims.repetition false) (rw (own) is)

by : (delims : Delims) (r : Option ℕ) (text : List ℕ) → delims.repetition ≡ r → is_empty delims text ≡ false
    → list_any (is_filled delims) (parts_by r text) ≡ true
by delims None text own filled = one_part delims text filled
by delims (Some s) text own filled =
    split (is_inner_separator delims) (λ b. b == s) (λ b. is_repetition delims s b own) text filled

pub filled_occurrence : (delims : Delims) (text : List ℕ) → is_empty delims text ≡ false
    → list_any (is_filled delims) (occurrences delims text) ≡ true
filled_occurrence delims text filled = by delims delims.repetition text refl filled

pub filled_component : (delims : Delims) (text : List ℕ) → is_empty delims text ≡ false
    → list_any (is_filled delims) (components delims text) ≡ true
filled_component delims text filled =
    split (is_inner_separator delims) (λ b. b == delims.component) (is_component delims) text filled

-- one of the first n is so, or one after them
pub record IsAt (test : List ℕ → Bool) (n : ℕ) (parts : List (List ℕ)) : Type 0 where
  pub k : ℕ
  pub few : k < n
  pub passes : test (part_or_empty parts k) ≡ true

later : (test : List ℕ → Bool) (n : ℕ) (x : List ℕ) (xs : List (List ℕ)) → IsAt test n xs → IsAt test (suc n) (x ∷ xs)
later test n x xs at = record { k = suc at.k; few = (let few = at.few in omega arith); passes = at.passes }

pub first_or_behind : (test : List ℕ → Bool) (n : ℕ) (parts : List (List ℕ)) → list_any test parts ≡ true
    → IsAt test n parts ⊎ (list_any test (drop n parts) ≡ true)
first_or_behind test zero parts some = inr some
first_or_behind test (suc n) [] some = cc
first_or_behind test (suc n) (x ∷ xs) some = elim (or_cases (test x) (list_any test xs) some) [
  | inl is ↦ inl (record { k = zero; few = omega arith; passes = is })
  | inr is ↦ elim (first_or_behind test n xs is) [
    | inl at ↦ inl (later test n x xs at)
    | inr behind ↦ inr behind
  ]
]
