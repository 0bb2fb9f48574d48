-- A header, and others with its fields and delimiters of their own.
use Rattle.std.proofs.Common.{◌≡◌, ℕ, zero, suc, ◌+◌, ◌-◌, ◌<◌, List, [], ◌∷◌, Bool, true, ◌&&◌, ◌||◌, nat_eq, ltb, cond, All, length}
use Rattle.std.proofs.Common.{take, drop, get_or, map, refl, sym, ap, ◌∙◌, inl, inr}
use Rattle.std.specs.Prelude.{codes, slice_index}
use Rattle.std.specs.List.{list_all}
use Rattle.std.proofs.lemmas.Bool.{and_parts, and_from, or_cases, cond_both, eqb-true, ltb-true}
use Rattle.std.proofs.lemmas.List.{drop-map, take-map}
use Rattle.std.proofs.lemmas.List.Elements.{All-cons, All-nil}
use Rattle.x12_bytes.specs.Header.{field_of, separator_place, width_of}

abbrev sample : List ℕ
sample = codes "ISA*00*0000000000*00*0000000000*00*000000000000000*00*000000000000000*000000*0000*0*00000*000000000*0*0*>~"

-- a byte of its fields: a zero or its component separator
abbrev plain : ℕ → Bool
plain b = nat_eq b 48 || nat_eq b 62

abbrev pub is_plain_field : ℕ → Bool
is_plain_field k = nat_eq (slice_index sample (separator_place k)) 42 && list_all plain (field_of sample k)

unfoldable pub are_plain_fields : ℕ → Bool
are_plain_fields zero = true
are_plain_fields (suc k) = is_plain_field (k + 1) && are_plain_fields k

pub all_plain : are_plain_fields 16 ≡ true
unfolding are_plain_fields
all_plain = refl

-- its characters are bytes
sample_small : list_all (λ b. ltb b 256) sample ≡ true
sample_small = refl

mapped_byte : (f : ℕ → ℕ) → f 0 ≡ 0 → (xs : List ℕ) (k : ℕ) → get_or (map f xs) k 0 ≡ f (get_or xs k 0)
mapped_byte f none [] k = sym none
mapped_byte f none (x ∷ xs) zero = refl
mapped_byte f none (x ∷ xs) (suc k) = mapped_byte f none xs k

module _ (e c t : ℕ) where
  -- a byte of the sample, with these delimiters in place of its own
  abbrev put : ℕ → ℕ
  put b = cond (nat_eq b 42) e (cond (nat_eq b 62) c (cond (nat_eq b 126) t b))

  abbrev pub made : List ℕ
  made = map put sample

  pub made_front : take 3 made ≡ codes "ISA"
  made_front = refl

  pub made_component : get_or made 104 0 ≡ c
  made_component = refl

  pub made_terminator : get_or made 105 0 ≡ t
  made_terminator = refl

  pub made_length : length made ≡ 106
  made_length = refl

  pub made_separator : (k : ℕ) → is_plain_field k ≡ true → get_or made (separator_place k) 0 ≡ e
  made_separator k is =
      let place : ℕ = separator_place k in
      let parts = and_parts (nat_eq (slice_index sample place) 42) (list_all plain (field_of sample k)) is in
      mapped_byte put refl sample place ∙ ap put (eqb-true (slice_index sample place) 42 parts.0)

  put_all : (p : ℕ → Bool) → p 48 ≡ true → p c ≡ true → (xs : List ℕ) → list_all plain xs ≡ true → list_all p (map put xs) ≡ true
  put_all p filler component [] all = refl
  put_all p filler component (x ∷ xs) all =
      let parts = and_parts (plain x) (list_all plain xs) all in
      let here : p (put x) ≡ true = elim (or_cases (nat_eq x 48) (nat_eq x 62) parts.0) [
        | inl zeroes ↦ ap (λ (b : ℕ). p (put b)) (eqb-true x 48 zeroes) ∙ filler
        | inr parted ↦ ap (λ (b : ℕ). p (put b)) (eqb-true x 62 parted) ∙ component
      ] in
      and_from (p (put x)) (list_all p (map put xs)) here (put_all p filler component xs parts.1)

  pub made_field : (p : ℕ → Bool) → p 48 ≡ true → p c ≡ true → (k : ℕ) → is_plain_field k ≡ true → list_all p (field_of made k) ≡ true
  made_field p filler component k is =
      let s : ℕ = separator_place k + 1 in
      let w : ℕ = s + width_of k - s in
      let parts = and_parts (nat_eq (slice_index sample (separator_place k)) 42) (list_all plain (field_of sample k)) is in
      ap (λ (l : List ℕ). list_all p (take w l)) (drop-map put s sample) ∙ ap (list_all p) (take-map put w (drop s sample))
      ∙ put_all p filler component (field_of sample k) parts.1

  module _ (element : e < 256) (component : c < 256) (terminator : t < 256) where
    put_small : (b : ℕ) → b < 256 → put b < 256
    put_small b lt =
        cond_both (nat_eq b 42) e (cond (nat_eq b 62) c (cond (nat_eq b 126) t b)) (λ x. x < 256) (λ _. element)
        (λ _. cond_both (nat_eq b 62) c (cond (nat_eq b 126) t b) (λ x. x < 256) (λ _. component)
        (λ _. cond_both (nat_eq b 126) t b (λ x. x < 256) (λ _. terminator) (λ _. lt)))

    map_small : (xs : List ℕ) → list_all (λ b. ltb b 256) xs ≡ true → All (λ b. b < 256) (map put xs)
    map_small [] all = All-nil (λ b. b < 256)
    map_small (x ∷ xs) all =
        let parts = and_parts (ltb x 256) (list_all (λ b. ltb b 256) xs) all in
        All-cons (λ b. b < 256) (put x) (map put xs) (put_small x (ltb-true x 256 parts.0)) (map_small xs parts.1)

    pub made_small : All (λ b. b < 256) made
    made_small = map_small sample sample_small
