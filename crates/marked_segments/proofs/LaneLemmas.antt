-- The mask of 64 bytes, compared one by one, is that of the test.
use Rattle.std.proofs.Common.{◌≡◌, ℕ, ◌%◌, ◌^◌, ◌≤◌, ◌||◌, Bool, true, false, cond, eqb, ltb, leb}
use Rattle.std.proofs.Common.{Option, Some, None, unwrap_or, List, [], ◌∷◌, map, length, refl, ap}
use Rattle.std.proofs.Common.{ap₂, ◌∙◌, arith, bit_or}
use Rattle.std.proofs.lemmas.List.{length-map}
use Rattle.std.proofs.lemmas.Simd.{mask_l-mod}
use Rattle.std.specs.Simd.Lanes.{zip2, mask_l, top}
use Rattle.x12_bytes.specs.declared.delims.Delims.{Delims}
use Rattle.marked_segments.specs.Marks.{is_repetition, is_odd}

-- all bits where a test holds
abbrev pub ones : Bool → ℕ
ones b = cond b 255 0

or_of_ones : (a b : Bool) → bit_or (ones a) (ones b) ≡ ones (a || b)
or_of_ones true true = refl
or_of_ones true false = refl
or_of_ones false true = refl
or_of_ones false false = refl

either_each : (p q : ℕ → Bool) (v : List ℕ)
    → zip2 bit_or (map (λ x. ones (p x)) v) (map (λ x. ones (q x)) v) ≡ map (λ x. ones (p x || q x)) v
either_each p q [] = refl
either_each p q (x ∷ xs) = ap₂ (λ y ys. y ∷ ys) (or_of_ones (p x) (q x)) (either_each p q xs)

-- two tests, lane by lane
pub either : (p q : ℕ → Bool) (v : List ℕ) {a b : List ℕ} → a ≡ map (λ x. ones (p x)) v → b ≡ map (λ x. ones (q x)) v
    → zip2 bit_or a b ≡ map (λ x. ones (p x || q x)) v
either p q v e f = ap₂ (zip2 bit_or) e f ∙ either_each p q v

top_of_ones : (b : Bool) → top 7 (ones b) ≡ b
top_of_ones true = refl
top_of_ones false = refl

tops : (p : ℕ → Bool) (v : List ℕ) → map (top 7) (map (λ x. ones (p x)) v) ≡ map p v
tops p [] = refl
tops p (x ∷ xs) = ap₂ (λ y ys. y ∷ ys) (top_of_ones (p x)) (tops p xs)

-- the mask of a test
pub masked : (p : ℕ → Bool) (v : List ℕ) {z : List ℕ} → length v ≤ 64 → z ≡ map (λ x. ones (p x)) v
    → mask_l (map (top 7) z) % 2 ^ 64 ≡ mask_l (map p v)
masked p v short e =
    ap (λ l. mask_l (map (top 7) l) % 2 ^ 64) e ∙ ap (λ l. mask_l l % 2 ^ 64) (tops p v)
    ∙ mask_l-mod (map p v) 64 (omega (arith, length-map v p))

twice : (b : Bool) → (b || b) ≡ (b || false)
twice true = refl
twice false = refl

-- where there is no repetition separator, the component separator is looked for twice
repetition_or_component : (repetition : Option ℕ) (component x : ℕ)
    → (eqb x component || eqb x (unwrap_or repetition component)) ≡ (eqb x component || is_repetition repetition x)
repetition_or_component (Some s) component x = refl
repetition_or_component None component x = twice (eqb x component)

-- the test as it is made of lanes
abbrev pub is_found : Delims → ℕ → ℕ → Bool
is_found d r x = eqb x d.component || eqb x r || (ltb x 32 || leb 127 x)

pub found_are_odd : (d : Delims) (r : ℕ) → r ≡ unwrap_or d.repetition d.component → (v : List ℕ)
    → map (is_found d r) v ≡ map (is_odd d) v
found_are_odd d r e [] = refl
found_are_odd d r e (x ∷ xs) =
    let beyond : Bool = ltb x 32 || leb 127 x in
    let same = ap (λ s. eqb x d.component || eqb x s) e ∙ repetition_or_component d.repetition d.component x in
    ap₂ (λ (y : Bool) ys. y ∷ ys) (ap (λ odd. odd || beyond) same) (found_are_odd d r e xs)
