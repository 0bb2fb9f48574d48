-- The places of a mask's bits, lowest first, and that they are the places of the bytes that pass.
use Rattle.std.proofs.Common.{◌≡◌, ◌≢◌, ℕ, zero, suc, ◌+◌, ◌-◌, ◌*◌, ◌/◌, ◌%◌, ◌^◌, ◌<◌, ◌≤◌, ◌==◌}
use Rattle.std.proofs.Common.{min, Bool, true, false, cond, List, [], ◌∷◌, ◌++◌}
use Rattle.std.proofs.Common.{length, map, take, drop, get_or, bit_and, refl, sym, ap, ap₂, ◌∙◌, arith, add-one, pow-suc}
use Rattle.std.proofs.Math.ListN.{set}
use Rattle.std.proofs.Math.Seq.{take-suc-set}
use Rattle.std.specs.Simd.Lanes.{mask_l, chunk}
use Rattle.std.proofs.lemmas.List.{append_assoc, get_or-drop}
use Rattle.std.proofs.lemmas.Simd.{length-chunk, get_or-chunk}
use lib.Bits.{and_step, and_self}
use lib.Count.{count_trailing_zeros, under}
use Rattle.memchr.specs.Find.{places_from}
use Rattle.memchr.proofs.lemmas.PlaceLemmas.{places_from-append}
use Rattle.marked_segments.specs.Blocks.{IsMask}

-- base + i for each set bit i of the k low bits
unfoldable pub set_bits : ℕ → ℕ → ℕ → List ℕ
set_bits zero base x = []
set_bits (suc k) base x = cond (x % 2 == 1) (base ∷ set_bits k (base + 1) (x / 2)) (set_bits k (base + 1) (x / 2))

pub set_bits-zero : (k b : ℕ) → set_bits k b 0 ≡ []
unfolding set_bits
set_bits-zero zero b = refl
set_bits-zero (suc k) b = set_bits-zero k (b + 1)

bit_cases : (P : ℕ → Type 0) → P 0 → P 1 → (x : ℕ) → x < 2 → P x
bit_cases P p q zero h = p
bit_cases P p q (suc zero) h = q
bit_cases P p q (suc (suc r)) h = absurd (let no : ⊥ = omega arith in no)

abbrev turn : ℕ → ℕ → ℕ → ℕ → List ℕ
turn k b r t = cond (r == 1) (b ∷ set_bits k (b + 1) t) (set_bits k (b + 1) t)

abbrev Goal : ℕ → ℕ → ℕ → Type 0
Goal k b x =
    turn k b (x % 2) (x / 2)
    ≡ (b + under (x % 2) (count_trailing_zeros k (x / 2))) ∷ turn k b (bit_and x (x - 1) % 2) (bit_and x (x - 1) / 2)

odd : (k b x : ℕ) → x % 2 ≡ 1 → Goal k b x
odd k b x e =
    let y : ℕ = bit_and x (x - 1) in
    let half : (x - 1) / 2 ≡ x / 2 = omega arith in
    let low : min (x % 2) ((x - 1) % 2) ≡ 0 = omega arith in
    let is : y ≡ x / 2 * 2 + 0 = and_step x (x - 1) ∙ ap₂ (λ u v. u * 2 + v) (ap (bit_and (x / 2)) half ∙ and_self (x / 2)) low in
    let p : y % 2 ≡ 0 = omega arith in
    let q : y / 2 ≡ x / 2 = omega arith in
    let still : b + 0 ≡ b = omega arith in
    ap (λ r. turn k b r (x / 2)) e
    ∙ ap₂ (λ u v. u ∷ v) (sym (ap (λ r. b + under r (count_trailing_zeros k (x / 2))) e ∙ still)) (sym (ap₂ (turn k b) p q))

even : (k b x : ℕ) → 0 < x
    → (0 < x / 2 → set_bits k (b + 1) (x / 2) ≡ (b + 1 + count_trailing_zeros k (x / 2)) ∷ set_bits k (b + 1) (bit_and (x / 2) (x / 2 - 1)))
    → x % 2 ≡ 0 → Goal k b x
even k b x pos below e =
    let y : ℕ = bit_and x (x - 1) in
    let half : (x - 1) / 2 ≡ x / 2 - 1 = omega arith in
    let low : min (x % 2) ((x - 1) % 2) ≡ 0 = omega arith in
    let z : ℕ = bit_and (x / 2) (x / 2 - 1) in
    let is : y ≡ z * 2 + 0 = and_step x (x - 1) ∙ ap₂ (λ u v. u * 2 + v) (ap (bit_and (x / 2)) half) low in
    let p : y % 2 ≡ 0 = omega arith in
    let q : y / 2 ≡ z = omega arith in
    let t : ℕ = count_trailing_zeros k (x / 2) in
    let place : b + 1 + t ≡ b + suc t = omega arith in
    ap (λ r. turn k b r (x / 2)) e ∙ below (omega arith)
    ∙ ap₂ (λ u v. u ∷ v) (place ∙ sym (ap (λ r. b + under r t) e)) (sym (ap₂ (turn k b) p q))

-- the lowest bit's place leads those of the others
pub lowest : (k b x : ℕ) → 0 < x → x < 2 ^ k → set_bits k b x ≡ (b + count_trailing_zeros k x) ∷ set_bits k b (bit_and x (x - 1))
unfolding set_bits count_trailing_zeros
lowest zero b x pos h = absurd (let no : ⊥ = omega arith in no)
lowest (suc k) b x pos h =
    bit_cases (λ r. x % 2 ≡ r → Goal k b x) (even k b x pos (λ p. lowest k (b + 1) (x / 2) p (omega (arith, pow-suc 2 k)))) (odd k b x)
    (x % 2) (omega arith) refl

bit_of : (b : Bool) (m : ℕ) → ((cond b 1 0 + 2 * m) % 2 == 1) ≡ b
bit_of true m = let one : (1 + 2 * m) % 2 ≡ 1 = omega arith in ap (λ n. n == 1) one
bit_of false m = let none : (0 + 2 * m) % 2 ≡ 0 = omega arith in ap (λ n. n == 1) none

others : (b : Bool) (m : ℕ) → (cond b 1 0 + 2 * m) / 2 ≡ m
others true m = omega arith
others false m = omega arith

-- the bits of a mask are the places of the bytes that pass
bits_of_bytes : (test : ℕ → Bool) (text v : List ℕ) (k at : ℕ) → length v ≤ k
    → ((j : ℕ) → j < length v → get_or text (at + j) 0 ≡ get_or v j 0)
    → places_from test text at (length v) ≡ set_bits k at (mask_l (map test v))
unfolding places_from set_bits
bits_of_bytes test text [] k at short same = sym (set_bits-zero k at)
bits_of_bytes test text (x ∷ xs) zero at short same = absurd (let no : ⊥ = omega arith in no)
bits_of_bytes test text (x ∷ xs) (suc k) at short same =
    let m : ℕ = mask_l (map test xs) in
    let here : at ≡ at + 0 = omega arith in
    let byte : get_or text at 0 ≡ x = ap (λ n. get_or text n 0) here ∙ same 0 (omega arith) in
    let later : List ℕ = places_from test text (at + 1) (length xs) in
    let rest : later ≡ set_bits k (at + 1) m =
    bits_of_bytes test text xs k (at + 1) (omega arith) (λ j lt.
    (let on : at + 1 + j ≡ at + suc j = omega arith in ap (λ n. get_or text n 0) on) ∙ same (suc j) (omega arith)) in
    ap (λ y. cond (test y) (at ∷ later) later) byte ∙ ap (λ l. cond (test x) (at ∷ l) l) rest
    ∙ sym (ap₂ (λ b n. cond b (at ∷ set_bits k (at + 1) n) (set_bits k (at + 1) n)) (bit_of (test x) m) (others (test x) m))

-- what was noted up to a block, and the bits of its mask, are the places up to its end
pub places_by_mask : (test : ℕ → Bool) (text : List ℕ) (from at end mask : ℕ) (noted : List ℕ) → IsMask test text at end mask → from ≤ at
    → noted ≡ places_from test (drop from text) 0 (at - from)
    → noted ++ set_bits 64 (at - from) mask ≡ places_from test (drop from text) 0 (end - from)
places_by_mask test text from at end mask noted h low are =
    let order : at ≤ end = h.order in
    let within : end ≤ length text = h.within in
    let v : List ℕ = chunk at (end - at) text in
    let long : length v ≡ end - at = length-chunk at (end - at) text (omega arith) in
    let bits : places_from test (drop from text) (at - from) (length v) ≡ set_bits 64 (at - from) (mask_l (map test v)) =
    bits_of_bytes test (drop from text) v 64 (at - from) (omega (arith, h.short)) (λ j lt.
    get_or-drop from text (at - from + j) 0
    ∙ (let on : from + (at - from + j) ≡ at + j = omega arith in ap (λ n. get_or text n 0) on)
    ∙ sym (get_or-chunk at (end - at) text j 0 (omega arith))) in
    let behind : at - from ≡ 0 + (at - from) = omega arith in
    let sum : at - from + (end - at) ≡ end - from = omega arith in
    ap₂ (λ (l r : List ℕ). l ++ r) are (ap (set_bits 64 (at - from)) h.bits ∙ sym bits
    ∙ ap (places_from test (drop from text) (at - from)) long)
    ∙ ap (λ n. places_from test (drop from text) 0 (at - from) ++ places_from test (drop from text) n (end - at)) behind
    ∙ sym (places_from-append test (drop from text) 0 (at - from) (end - at))
    ∙ ap (places_from test (drop from text) 0) sum

-- the lowest bit's place is written after those that were noted
pub lowest_noted : (items : List ℕ) (count b x : ℕ) → count < length items → x ≢ 0 → x < 2 ^ 64
    → take (count + 1) (set items count (b + count_trailing_zeros 64 x)) ++ set_bits 64 b (bit_and x (x - 1))
    ≡ take count items ++ set_bits 64 b x
lowest_noted items count b x room some small =
    let place : ℕ = b + count_trailing_zeros 64 x in
    let rest : List ℕ = set_bits 64 b (bit_and x (x - 1)) in
    ap (λ (l : List ℕ). l ++ rest) (ap (λ n. take n (set items count place)) (add-one count) ∙ take-suc-set items count place room)
    ∙ append_assoc (take count items) (place ∷ []) rest
    ∙ ap (λ (l : List ℕ). take count items ++ l) (sym (lowest 64 b x (omega arith) small))
