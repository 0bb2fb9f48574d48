-- The first delivered interchange, and those after it.
use Rattle.std.proofs.Common.{◌≡◌, ◌<◌, ◌≤◌, ◌⊎◌, inl, inr, ℕ, zero, suc, ◌+◌, ◌-◌, ◌*◌, ◌/◌, ◌%◌, ◌==◌, Bool, true, false}
use Rattle.std.proofs.Common.{if◌then◌else◌, List, [], ◌∷◌, take, drop, length, map, refl, sym, ap, ◌∙◌, arith, length-drop}
use Rattle.std.proofs.Math.Nat.{add-mod_left, add-div_left, mod-eq_of_lt, div-eq_of_lt, zero-div, zero-mod, zero-mul, add-mul}
use Rattle.std.proofs.lemmas.Bool.{cases_lt}
use Rattle.std.proofs.lemmas.Bool.Decides.{nat_tests}
use Rattle.std.proofs.lemmas.List.{drop-drop}
use Rattle.std.specs.List.{range_with_len}
use Rattle.count_numbers.specs.Layout.{in_interchange, interchange_count, interchanges_of}

-- by what is left and how many are full
abbrev pub by_rest : (r q : ℕ) → ℕ
by_rest r q = if r == 0 then q else q + 1

full_by : (b : Bool) (q : ℕ) → (if b then q + 1 else q + 1 + 1) ≡ suc (if b then q else q + 1)
full_by true q = omega arith
full_by false q = omega arith

one_full : (cap r : ℕ) → 0 < cap → interchange_count cap (cap + r) ≡ suc (interchange_count cap r)
one_full cap r h =
    ap (λ (x : ℕ). by_rest x ((cap + r) / cap)) (add-mod_left cap r) ∙ ap (by_rest (r % cap)) (add-div_left r h)
    ∙ full_by (r % cap == 0) (r / cap)

pub not_none : (n : ℕ) → (suc n == 0) ≡ false
not_none n = grind (arith, nat_tests)

one_started : (cap n : ℕ) → suc n < cap → interchange_count cap (suc n) ≡ 1
one_started cap n h =
    ap (λ (x : ℕ). by_rest x (suc n / cap)) (mod-eq_of_lt h) ∙ ap (by_rest (suc n)) (div-eq_of_lt h)
    ∙ ap (λ (b : Bool). if b then 0 else 0 + 1) (not_none n)

none_left : (cap : ℕ) → interchange_count cap 0 ≡ 0
none_left cap = ap (λ (x : ℕ). by_rest x (0 / cap)) (zero-mod cap) ∙ ap (by_rest 0) (zero-div cap)

count_more : (cap n : ℕ) → 0 < cap → 0 < n → interchange_count cap n ≡ suc (interchange_count cap (n - cap))
count_more cap zero h some = absurd (omega arith)
count_more cap (suc n) h some = cases (cases_lt (suc n) cap)
  where
    cases : (suc n < cap) ⊎ (cap ≤ suc n) → interchange_count cap (suc n) ≡ suc (interchange_count cap (suc n - cap))
    cases (inl few) =
        let none : 0 ≡ suc n - cap = omega arith in
        one_started cap n few ∙ ap suc (sym (none_left cap) ∙ ap (interchange_count cap) none)
    cases (inr many) =
        let all : suc n ≡ cap + (suc n - cap) = omega arith in
        ap (interchange_count cap) all ∙ one_full cap (suc n - cap) h

module _ {A : Type 0} (cap : ℕ) (xs : List A) where
  next_place : (a : ℕ) → in_interchange cap xs (a + 1) ≡ in_interchange cap (drop cap xs) a
  next_place a =
      let place : (a + 1) * cap ≡ cap + a * cap = add-mul a 1 cap ∙ omega arith in
      ap (λ (n : ℕ). take cap (drop n xs)) place ∙ sym (ap (take cap) (drop-drop (a * cap) cap xs))

  next_places : (a c : ℕ) → map (in_interchange cap xs) (range_with_len (a + 1) c)
      ≡ map (in_interchange cap (drop cap xs)) (range_with_len a c)
  next_places a zero = refl
  next_places a (suc c) =
      ap (λ (x : List A). x ∷ map (in_interchange cap xs) (range_with_len (a + 1 + 1) c)) (next_place a)
      ∙ ap (λ (rest : List (List A)). in_interchange cap (drop cap xs) a ∷ rest) (next_places (a + 1) c)

  pub first_interchange : 0 < cap → 0 < length xs → interchanges_of cap xs ≡ take cap xs ∷ interchanges_of cap (drop cap xs)
  first_interchange h some =
      ap (λ (n : ℕ). map (in_interchange cap xs) (range_with_len 0 n)) (count_more cap (length xs) h some)
      ∙ ap (λ (n : ℕ). take cap (drop n xs) ∷ map (in_interchange cap xs) (range_with_len (0 + 1) (interchange_count cap
      (length xs - cap))))
      (zero-mul cap)
      ∙ ap (λ (rest : List (List A)). take cap xs ∷ rest) (next_places 0 (interchange_count cap (length xs - cap))
      ∙ ap (λ (n : ℕ). map (in_interchange cap (drop cap xs)) (range_with_len 0 (interchange_count cap n))) (sym (length-drop cap xs)))

pub no_interchange : {A : Type 0} (cap : ℕ) (xs : List A) → length xs ≡ 0 → interchanges_of cap xs ≡ []
no_interchange {A} cap [] e = ap (λ (n : ℕ). map (in_interchange cap []) (range_with_len 0 n)) (none_left cap)
no_interchange cap (x ∷ xs) e = absurd (omega arith)
