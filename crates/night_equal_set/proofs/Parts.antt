-- The parts of a text, and lists that are made number by number.
use Rattle.std.proofs.Common.{◌≡◌, ℕ, zero, suc, ◌+◌, ◌-◌, ◌≤◌, List, [], ◌∷◌, ◌++◌, map, length, take, drop, Bool, true, false, ◌&&◌}
use Rattle.std.proofs.Common.{◌||◌, not, Option, Some, None, refl, sym, ap, ◌∙◌, subst, arith}
use Rattle.std.specs.Prelude.{◌==◌, if◌then◌else◌, slice_index_or, cond, flat_map, option_to_list}
use Rattle.std.specs.List.{list_all, list_any, slice_split, onto_first}
use Rattle.std.specs.Option.{option_map_or}
use Rattle.std.proofs.lemmas.List.{append_assoc, append-nil, map-append}
use Rattle.x12_bytes.specs.declared.delims.Delims.{Delims}
use Rattle.elem_rules.specs.Rows.{nth}
use Rattle.elem_rules.specs.Found.{up_to}
use Rattle.night_definition.specs.Elements.{is_filled, is_this, numbered, has_more, occurrences, components}

abbrev pub is_inner : Delims → ℕ → Bool
is_inner d b = b == d.component || is_this d.repetition b

-- each part passes where the text does
onto_pass : (p : ℕ → Bool) (b : ℕ) (parts : List (List ℕ)) → p b ≡ true → list_all (λ t. list_all p t) parts ≡ true
    → list_all (λ t. list_all p t) (onto_first b parts) ≡ true
onto_pass p b [] is are = grind arith
onto_pass p b (t ∷ parts) is are = grind arith

pub parts_pass : (p q : ℕ → Bool) (text : List ℕ) → list_all p text ≡ true → list_all (λ t. list_all p t) (slice_split q text) ≡ true
parts_pass p q [] is = refl
parts_pass p q (b ∷ text) is = by (q b) (parts_pass p q text (grind arith))
  where
    by : (c : Bool) → list_all (λ t. list_all p t) (slice_split q text) ≡ true
        → list_all (λ t. list_all p t) (cond c ([] ∷ slice_split q text) (onto_first b (slice_split q text))) ≡ true
    by true are = are
    by false are = onto_pass p b (slice_split q text) (grind arith) are

-- no part has a byte at which the text is divided
pub parts_free : (p q : ℕ → Bool) (text : List ℕ) → list_all p text ≡ true
    → list_all (λ t. list_all (λ b. not (q b) && p b) t) (slice_split q text) ≡ true
parts_free p q [] is = refl
parts_free p q (b ∷ text) is = by (q b) refl (parts_free p q text (grind arith))
  where
    by : (c : Bool) → q b ≡ c → list_all (λ t. list_all (λ b. not (q b) && p b) t) (slice_split q text) ≡ true
        → list_all (λ t. list_all (λ b. not (q b) && p b) t) (cond c ([] ∷ slice_split q text) (onto_first b (slice_split q text))) ≡ true
    by true same are = are
    by false same are = onto_pass (λ b. not (q b) && p b) b (slice_split q text) (grind arith) are

pub at_index : (p : ℕ → Bool) (parts : List (List ℕ)) (k : ℕ) → list_all (λ t. list_all p t) parts ≡ true
    → list_all p (slice_index_or parts k []) ≡ true
at_index p [] k are = refl
at_index p (t ∷ parts) zero are = grind arith
at_index p (t ∷ parts) (suc k) are = at_index p parts k (grind arith)

-- nothing is more where all is empty
pub none_more : (d : Delims) (n : ℕ) (parts : List (List ℕ)) → list_all (λ t. list_all (is_inner d) t) parts ≡ true
    → has_more d n parts ≡ false
none_more d zero [] are = refl
none_more d (suc n) [] are = refl
none_more d zero (t ∷ parts) are = let behind : has_more d zero parts ≡ false = none_more d zero parts (grind arith) in grind arith
none_more d (suc n) (t ∷ parts) are = none_more d n parts (grind arith)

-- an empty part of a part is the empty text
pub bare_empty : (d : Delims) (t : List ℕ) → list_all (λ b. not (b == d.component) && not (is_this d.repetition b)) t ≡ true
    → list_all (is_inner d) t ≡ true → t ≡ []
bare_empty d [] bare empty = refl
bare_empty d (b ∷ t) bare empty = absurd (by (b == d.component) (is_this d.repetition b)
    (list_all (λ b. not (b == d.component) && not (is_this d.repetition b)) t) (list_all (is_inner d) t) bare empty)
  where
    by : (c r x y : Bool) → (not c && not r && x) ≡ true → ((c || r) && y) ≡ true → ⊥
    by c r x y one two = grind arith

-- from the first number on
pub up_to_cons : {A : Type 0} (f : ℕ → List A) (n : ℕ) → up_to f (suc n) ≡ f 1 ++ up_to (λ k. f (k + 1)) n
up_to_cons f zero = sym (append-nil (f 1))
up_to_cons f (suc n) =
    ap (λ l. l ++ f (suc (suc n))) (up_to_cons f n) ∙ append_assoc (f 1) (up_to (λ k. f (k + 1)) n) (f (suc (suc n)))
    ∙ ap (λ j. f 1 ++ (up_to (λ k. f (k + 1)) n ++ f j)) (two n)
  where
    two : (n : ℕ) → suc (suc n) ≡ suc n + 1
    two n = omega arith

pub up_to_same : {A : Type 0} (f g : ℕ → List A) (n : ℕ) → ((k : ℕ) → 1 ≤ k → k ≤ n → f k ≡ g k) → up_to f n ≡ up_to g n
up_to_same f g zero same = refl
up_to_same f g (suc n) same =
    ap (λ l. l ++ f (suc n)) (up_to_same f g n (λ k from to. same k from (omega arith)))
    ∙ ap (λ l. up_to g n ++ l) (same (suc n) (omega arith) (omega arith))

pub up_to_none : {A : Type 0} (f : ℕ → List A) (n : ℕ) → ((k : ℕ) → 1 ≤ k → k ≤ n → f k ≡ []) → up_to f n ≡ []
up_to_none f zero none = refl
up_to_none f (suc n) none =
    ap (λ l. l ++ f (suc n)) (up_to_none f n (λ k from to. none k from (omega arith))) ∙ none (suc n) (omega arith) (omega arith)

nth_behind : {X : Type 0} (x : X) (xs : List X) (k : ℕ) → 1 ≤ k → nth (x ∷ xs) (k + 1) ≡ nth xs k
nth_behind x xs zero from = absurd (omega arith)
nth_behind x xs (suc k) from = ap (nth (x ∷ xs)) (two k)
  where
    two : (n : ℕ) → suc n + 1 ≡ suc (suc n)
    two n = omega arith

nth_none : {X : Type 0} (k : ℕ) → nth {X = X} [] k ≡ None
nth_none zero = refl
nth_none (suc k) = refl

pub tiled : {X A : Type 0} (g : ℕ → X → List A) (m n : ℕ) (xs : List X)
    → flat_map (λ x. g x.0 x.1) (numbered (m + 1) (take n xs)) ≡ up_to (λ k. option_map_or (g (m + k)) (nth xs k) []) n
tiled g m zero xs = refl
tiled g m (suc n) [] = sym (up_to_none (λ k. option_map_or (g (m + k)) (nth [] k) []) (suc n)
    (λ k from to. ap (λ o. option_map_or (g (m + k)) o []) (nth_none k)))
tiled g m (suc n) (x ∷ xs) =
    ap (λ l. g (m + 1) x ++ l)
    (tiled g (m + 1) n xs
    ∙ up_to_same (λ k. option_map_or (g (m + 1 + k)) (nth xs k) []) (λ k. option_map_or (g (m + (k + 1))) (nth (x ∷ xs) (k + 1)) []) n
    (λ k from to. ap (λ j. option_map_or (g j) (nth xs k) []) (on k) ∙ ap (λ o. option_map_or (g (m + (k + 1))) o [])
    (sym (nth_behind x xs k from))))
    ∙ sym (up_to_cons (λ k. option_map_or (g (m + k)) (nth (x ∷ xs) k) []) n)
  where
    on : (k : ℕ) → m + 1 + k ≡ m + (k + 1)
    on k = omega arith

pub map_flat : {X A B : Type 0} (h : A → B) (f : X → List A) (xs : List X) → map h (flat_map f xs) ≡ flat_map (λ x. map h (f x)) xs
map_flat h f [] = refl
map_flat h f (x ∷ xs) = map-append h (f x) (flat_map f xs) ∙ ap (λ l. map h (f x) ++ l) (map_flat h f xs)
