-- What is written grows by a piece, and what is left to write shrinks by it.
use Rattle.std.proofs.Common.{◌≡◌, ℕ, suc, ◌+◌, List, ◌∷◌, ◌++◌, take, length, sym, ap, ◌∙◌, arith, append_assoc}
use Rattle.std.specs.List.{flat_map}
use Rattle.x12_write.specs.Extends.{Extends}

-- the first of the pieces that are left
first_taken : {X : Type 0} (k m : ℕ) (left rest : List X) (x : X) → k ≡ suc m → left ≡ x ∷ rest → take k left ≡ x ∷ take m rest
first_taken {X} k m left rest x ek e = ap (λ (xs : List X). take k xs) e ∙ ap (λ (n : ℕ). take n (x ∷ rest)) ek

pub one_written : {X : Type 0} (f : X → List ℕ) (k m : ℕ) (left rest : List X) (x : X) (old new all : List ℕ) → k ≡ suc m → left ≡ x ∷ rest
    → new ≡ old ++ f x → old ++ flat_map f (take k left) ≡ all → new ++ flat_map f (take m rest) ≡ all
one_written {X} f k m left rest x old new all ek e en was =
    ap (λ (t : List ℕ). t ++ flat_map f (take m rest)) en ∙ append_assoc old (f x) (flat_map f (take m rest))
    ∙ sym (ap (λ (xs : List X). old ++ flat_map f xs) (first_taken k m left rest x ek e)) ∙ was

pub one_counted : {X : Type 0} (k m w n : ℕ) (left rest : List X) (x : X) → k ≡ suc m → left ≡ x ∷ rest
    → w + length (take k left) ≡ n → w + 1 + length (take m rest) ≡ n
one_counted k m w n left rest x ek e was = let same = ap length (first_taken k m left rest x ek e) in omega (arith, same)

-- a text of three parts, the last by a count
pub three_parts : (old one two new a b : List ℕ) (c : ℕ → List ℕ) (m n : ℕ) → one ≡ old ++ a → two ≡ one ++ b → new ≡ two ++ c m → m ≡ n
    → new ≡ old ++ ((a ++ b) ++ c n)
three_parts old one two new a b c m n ea eb ec e =
    ec ∙ ap (λ (k : ℕ). two ++ c k) e
    ∙ ap (λ (t : List ℕ). t ++ c n) (eb ∙ ap (λ (t : List ℕ). t ++ b) ea ∙ append_assoc old a b)
    ∙ append_assoc old (a ++ b) (c n)

-- what was there before is still the beginning, when more is written
pub still_kept : {a b c : List ℕ} → Extends a b → Extends b c → Extends a c
still_kept {a} first second = record {
  rest = first.rest ++ second.rest;
  is = second.is ∙ ap (λ (t : List ℕ). t ++ second.rest) first.is ∙ append_assoc a first.rest second.rest;
}
