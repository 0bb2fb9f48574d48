-- What is empty has empty parts, and after the last part that isn't empty there is none.
use Rattle.std.proofs.Common.{◌≡◌, ℕ, zero, suc, ◌-◌, ◌≤◌, List, [], ◌∷◌, Bool, true, false, ◌||◌, not, refl, drop, cond, arith}
use Rattle.std.proofs.Common.{Option, Some, None}
use Rattle.std.specs.Prelude.{◌==◌}
use Rattle.std.specs.List.{list_all, list_any, slice_split, onto_first}
use Rattle.std.proofs.lemmas.Bool.{and_parts, and_from, or_parts, or_from}
use Rattle.x12_bytes.specs.declared.delims.Delims.{Delims}
use Rattle.x12_segs.specs.Words.{occurrences, components, parts_by, part_or_empty}
use Rattle.elem_rules.specs.Divided.{is_empty, is_filled, is_inner_separator, has_more, occurrence_in, component_in}

-- each part passes where the text does
onto_pass : (p : ℕ → Bool) (b : ℕ) (parts : List (List ℕ)) → p b ≡ true → list_all (λ t. list_all p t) parts ≡ true
    → list_all (λ t. list_all p t) (onto_first b parts) ≡ true
onto_pass p b [] is are = grind arith
onto_pass p b (t ∷ parts) is are = grind arith

parts_pass : (p q : ℕ → Bool) (text : List ℕ) → list_all p text ≡ true → list_all (λ t. list_all p t) (slice_split q text) ≡ true
parts_pass p q [] is = refl
parts_pass p q (b ∷ text) is = by (q b) (parts_pass p q text (grind arith))
  where
    by : (c : Bool) → list_all (λ t. list_all p t) (slice_split q text) ≡ true
        → list_all (λ t. list_all p t) (cond c ([] ∷ slice_split q text) (onto_first b (slice_split q text))) ≡ true
    by true are = are
    by false are = onto_pass p b (slice_split q text) (grind arith) are

module _ (delims : Delims) where
  abbrev pub AreEmpty : List (List ℕ) → Type 0
  AreEmpty parts = list_all (is_empty delims) parts ≡ true

  pub empty_occurrences : (text : List ℕ) → is_empty delims text ≡ true → AreEmpty (occurrences delims text)
  empty_occurrences text empty = by delims.repetition
    where
      by : (o : Option ℕ) → AreEmpty (parts_by o text)
      by None = and_from (is_empty delims text) true empty refl
      by (Some r) = parts_pass (is_inner_separator delims) (λ b. b == r) text empty

  pub empty_components : (text : List ℕ) → is_empty delims text ≡ true → AreEmpty (components delims text)
  empty_components text empty = parts_pass (is_inner_separator delims) (λ b. b == delims.component) text empty

  pub empty_part : (parts : List (List ℕ)) (k : ℕ) → AreEmpty parts → is_empty delims (part_or_empty parts k) ≡ true
  empty_part [] k are = refl
  empty_part (t ∷ parts) zero are = (and_parts (is_empty delims t) (list_all (is_empty delims) parts) are).0
  empty_part (t ∷ parts) (suc k) are = empty_part parts k (and_parts (is_empty delims t) (list_all (is_empty delims) parts) are).1

  not_filled : (text : List ℕ) → is_empty delims text ≡ true → is_filled delims text ≡ false
  not_filled text empty = by (is_empty delims text) empty
    where
      by : (b : Bool) → b ≡ true → not b ≡ false
      by true h = refl
      by false h = cc

  -- after the first n there is nothing that isn't empty
  pub none_more : (n : ℕ) (parts : List (List ℕ)) → AreEmpty parts → has_more delims n parts ≡ false
  none_more zero [] are = refl
  none_more (suc n) [] are = refl
  none_more zero (t ∷ parts) are =
      let p = and_parts (is_empty delims t) (list_all (is_empty delims) parts) are in
      or_from (is_filled delims t) (list_any (is_filled delims) parts) (not_filled t p.0) (none_more zero parts p.1)
  none_more (suc n) (t ∷ parts) are = none_more n parts (and_parts (is_empty delims t) (list_all (is_empty delims) parts) are).1

  is_empty_not : (text : List ℕ) → is_filled delims text ≡ false → is_empty delims text ≡ true
  is_empty_not text h = by (is_empty delims text) h
    where
      by : (b : Bool) → not b ≡ false → b ≡ true
      by true h = refl
      by false h = cc

  pub past_empty : (n k : ℕ) (parts : List (List ℕ)) → has_more delims n parts ≡ false → n ≤ k
      → is_empty delims (part_or_empty parts k) ≡ true
  past_empty n k [] none l = refl
  past_empty zero zero (t ∷ parts) none l =
      is_empty_not t (or_parts (is_filled delims t) (list_any (is_filled delims) parts) none).0
  past_empty zero (suc k) (t ∷ parts) none l =
      past_empty zero k parts (or_parts (is_filled delims t) (list_any (is_filled delims) parts) none).1 (omega arith)
  past_empty (suc n) zero (t ∷ parts) none l = absurd (omega arith)
  past_empty (suc n) (suc k) (t ∷ parts) none l = past_empty n k parts none (omega arith)

  -- fewer parts are no more than more of them
  pub fewer_none : (n m : ℕ) (parts : List (List ℕ)) → has_more delims n parts ≡ false → n ≤ m → has_more delims m parts ≡ false
  fewer_none n zero [] none l = refl
  fewer_none n (suc m) [] none l = refl
  fewer_none zero zero (t ∷ parts) none l = none
  fewer_none (suc n) zero (t ∷ parts) none l = absurd (omega arith)
  fewer_none zero (suc m) (t ∷ parts) none l =
      fewer_none zero m parts (or_parts (is_filled delims t) (list_any (is_filled delims) parts) none).1 (omega arith)
  fewer_none (suc n) (suc m) (t ∷ parts) none l = fewer_none n m parts none (omega arith)

  pub empty_occurrence : (text : List ℕ) (n : ℕ) → is_empty delims text ≡ true → is_empty delims (occurrence_in delims text n) ≡ true
  empty_occurrence text n empty = empty_part (occurrences delims text) (n - 1) (empty_occurrences text empty)

  pub empty_component : (text : List ℕ) (m : ℕ) → is_empty delims text ≡ true → is_empty delims (component_in delims text m) ≡ true
  empty_component text m empty = empty_part (components delims text) (m - 1) (empty_components text empty)
