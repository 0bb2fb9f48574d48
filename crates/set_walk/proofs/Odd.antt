-- A byte is odd for the walk exactly where it is for the rules of elements.
use Rattle.std.proofs.Common.{◌≡◌, ℕ, ◌==◌, List, [], ◌∷◌, Bool, true, false, ◌&&◌, ◌||◌, not, Option, Some, None, refl, sym, ap}
use Rattle.std.proofs.Common.{arith, ◌∙◌}
use Rattle.std.specs.Prelude.{nat_le, nat_lt}
use Rattle.std.specs.List.{list_any}
use Rattle.std.specs.Option.{option_map_or}
use mathlib.Core.Logic.{inl, inr}
use Rattle.std.proofs.lemmas.Bool.{cases_lt, lt-ltb, lt-leb, le-ltb, le-leb}
use Rattle.x12_bytes.specs.declared.delims.Delims.{Delims}
use Rattle.x12_segs.specs.Words.{SegValue}
use Rattle.marked_segments.specs.Marked.{IsPlain}
use Rattle.marked_segments.specs.Marks.{is_beyond, is_odd, is_repetition}
use Rattle.elem_rules.specs.Clean.{is_odd as is_odd_element, is_strange}

by_tests : (p q r s t : Bool) → r ≡ not p → s ≡ not q → not ((p && q) || (false && t)) ≡ (r || s)
by_tests true true r s t a b = sym (ap (λ x. x || s) a ∙ b)
by_tests true false r s t a b = sym (ap (λ x. x || s) a ∙ b)
by_tests false q r s t a b = sym (ap (λ x. x || s) a)

low : (b : ℕ) → nat_lt b 32 ≡ not (nat_le 32 b)
low b = elim (cases_lt b 32) [
  | inl lt ↦ lt-ltb b 32 lt ∙ sym (ap not (lt-leb 32 b lt))
  | inr le ↦ le-ltb b 32 le ∙ sym (ap not (le-leb 32 b le))
]

high : (b : ℕ) → nat_le 127 b ≡ not (nat_le b 126)
high b = elim (cases_lt 126 b) [
  | inl lt ↦ le-leb 127 b (omega (arith, lt)) ∙ sym (ap not (lt-leb b 126 lt))
  | inr le ↦ lt-leb 127 b (omega (arith, le)) ∙ sym (ap not (le-leb b 126 le))
]

strange : (b : ℕ) → is_strange b ≡ is_beyond b
strange b = by_tests (nat_le 32 b) (nat_le b 126) (nat_lt b 32) (nat_le 127 b) (nat_le 128 b) (low b) (high b)

repeated : (o : Option ℕ) (b : ℕ) → option_map_or (λ separator. b == separator) o false ≡ is_repetition o b
repeated None b = refl
repeated (Some s) b = refl

odd_same : (delims : Delims) (b : ℕ) → is_odd_element delims b ≡ is_odd delims b
odd_same delims b =
    ap (λ x. ((b == delims.component) || x) || is_strange b) (repeated delims.repetition b)
    ∙ ap (λ x. ((b == delims.component) || is_repetition delims.repetition b) || x) (strange b)

any_same : (p q : ℕ → Bool) → ((x : ℕ) → p x ≡ q x) → (xs : List ℕ) → list_any p xs ≡ list_any q xs
any_same p q e [] = refl
any_same p q e (x ∷ xs) = ap (λ b. b || list_any p xs) (e x) ∙ ap (λ b. q x || b) (any_same p q e xs)

-- no byte of a plain segment is odd
pub none_odd : (at : List ℕ) (seg : SegValue) → IsPlain at seg → list_any (is_odd_element seg.delims) seg.bytes ≡ false
none_odd at seg h = any_same (is_odd_element seg.delims) (is_odd seg.delims) (odd_same seg.delims) seg.bytes ∙ h.none_odd
