-- Texts that are divided: what holds of their bytes holds in each part, and a text whose bytes are changed is divided as it was.
use Rattle.std.proofs.Common.{◌≡◌, ℕ, Bool, true, false, cond, List, [], ◌∷◌, map, refl, ap, ◌∙◌}
use Rattle.std.specs.List.{All, slice_split}
use Rattle.std.proofs.lemmas.List.Elements.{All-cons, All-head, All-nil, All-tail}

-- two facts of each item
pub all_both : {A : Type 0} (P Q : A → Type 0) (xs : List A) → All P xs → All Q xs → All (λ x. P x × Q x) xs
all_both P Q [] ps qs = All-nil (λ x. P x × Q x)
all_both P Q (x ∷ xs) ps qs =
    All-cons (λ y. P y × Q y) x xs (All-head P x xs ps, All-head Q x xs qs)
    (all_both P Q xs (All-tail P x xs ps) (All-tail Q x xs qs))

-- the same function of each item
pub map_as : {A B C : Type 0} (f : B → C) (h : A → B) (g : A → C) (P : A → Type 0) → ((x : A) → P x → f (h x) ≡ g x) → (xs : List A)
    → All P xs → map f (map h xs) ≡ map g xs
map_as f h g P same [] all = refl
map_as {A} {B} {C} f h g P same (x ∷ xs) all =
    ap (λ (y : C). y ∷ map f (map h xs)) (same x (All-head P x xs all))
    ∙ ap (λ (ys : List C). g x ∷ ys) (map_as f h g P same xs (All-tail P x xs all))

-- what each item is itself
pub map_none : {A : Type 0} (f : A → A) (P : A → Type 0) → ((x : A) → P x → f x ≡ x) → (xs : List A) → All P xs → map f xs ≡ xs
map_none f P same [] all = refl
map_none {A} f P same (x ∷ xs) all =
    ap (λ (y : A). y ∷ map f xs) (same x (All-head P x xs all))
    ∙ ap (λ (ys : List A). x ∷ ys) (map_none f P same xs (All-tail P x xs all))

abbrev onto : ℕ → List (List ℕ) → List (List ℕ)
onto x [] = (x ∷ []) ∷ []
onto x (part ∷ parts) = (x ∷ part) ∷ parts

-- each byte of each part
module _ (P : ℕ → Type 0) where
  onto_all : (x : ℕ) (parts : List (List ℕ)) → P x → All (All P) parts → All (All P) (onto x parts)
  onto_all x [] p all = All-cons (All P) (x ∷ []) [] (All-cons P x [] p (All-nil P)) (All-nil (All P))
  onto_all x (part ∷ parts) p all =
      All-cons (All P) (x ∷ part) parts (All-cons P x part p (All-head (All P) part parts all)) (All-tail (All P) part parts all)

  pub parts_all : (test : ℕ → Bool) (text : List ℕ) → All P text → All (All P) (slice_split test text)
  parts_all test [] all = All-cons (All P) [] [] (All-nil P) (All-nil (All P))
  parts_all test (x ∷ text) all = by (parts_all test text (All-tail P x text all)) (test x)
    where
      by : All (All P) (slice_split test text) → (b : Bool)
          → All (All P) (cond b ([] ∷ slice_split test text) (onto x (slice_split test text)))
      by rest true = All-cons (All P) [] (slice_split test text) (All-nil P) rest
      by rest false = onto_all x (slice_split test text) (All-head P x text all) rest

-- no part has a byte that divides
pub parts_lack : (test : ℕ → Bool) (text : List ℕ) → All (All (λ b. test b ≡ false)) (slice_split test text)
parts_lack test [] = let P : ℕ → Type 0 = λ b. test b ≡ false in All-cons (All P) [] [] (All-nil P) (All-nil (All P))
parts_lack test (x ∷ text) = by (parts_lack test text) (test x) refl
  where
    by : All (All (λ b. test b ≡ false)) (slice_split test text) → (b : Bool) → test x ≡ b
        → All (All (λ b. test b ≡ false)) (cond b ([] ∷ slice_split test text) (onto x (slice_split test text)))
    by rest true is = All-cons (All (λ b. test b ≡ false)) [] (slice_split test text) (All-nil (λ b. test b ≡ false)) rest
    by rest false is = onto_all (λ b. test b ≡ false) x (slice_split test text) is rest

-- bytes changed, which divide as they did
module _ (test was : ℕ → Bool) (change : ℕ → ℕ) where
  changed_onto : (b : Bool) (x : ℕ) (parts : List (List ℕ))
      → cond b ([] ∷ map (map change) parts) (onto (change x) (map (map change) parts))
      ≡ map (map change) (cond b ([] ∷ parts) (onto x parts))
  changed_onto true x parts = refl
  changed_onto false x [] = refl
  changed_onto false x (part ∷ parts) = refl

  pub parts_changed : (text : List ℕ) → All (λ b. test (change b) ≡ was b) text
      → slice_split test (map change text) ≡ map (map change) (slice_split was text)
  parts_changed [] all = refl
  parts_changed (x ∷ text) all =
      let P : ℕ → Type 0 = λ b. test (change b) ≡ was b in
      let behind : List (List ℕ) = slice_split test (map change text) in
      ap (λ (b : Bool). cond b ([] ∷ behind) (onto (change x) behind)) (All-head P x text all)
      ∙ ap (λ (parts : List (List ℕ)). cond (was x) ([] ∷ parts) (onto (change x) parts)) (parts_changed text (All-tail P x text all))
      ∙ changed_onto (was x) x (slice_split was text)

-- tests that say the same
pub parts_by_same : (test was : ℕ → Bool) → ((b : ℕ) → test b ≡ was b) → (text : List ℕ) → slice_split test text ≡ slice_split was text
parts_by_same test was same [] = refl
parts_by_same test was same (x ∷ text) =
    let behind : List (List ℕ) = slice_split test text in
    ap (λ (b : Bool). cond b ([] ∷ behind) (onto x behind)) (same x)
    ∙ ap (λ (parts : List (List ℕ)). cond (was x) ([] ∷ parts) (onto x parts)) (parts_by_same test was same text)
