-- The bits of a segment's elements: after the last separator all elements are empty.
use Rattle.std.proofs.Common.{◌≡◌, ℕ, zero, suc, ◌<◌, ◌≤◌, ◌∙◌, Bool, false, ap, sym, arith}
use mathlib.Core.Logic.{inl, inr}
use Rattle.std.proofs.lemmas.Bool.{cases_eq}
use Rattle.elem_rules.specs.Clean.{marked, bits_to}

-- bits of elements that aren't there add nothing
pub bits_rest : (present : ℕ → Bool) (n to : ℕ) → n ≤ to → ((k : ℕ) → n < k → present k ≡ false) → bits_to present to ≡ bits_to present n
bits_rest present n zero le none =
    let e : n ≡ 0 = omega arith in
    ap (bits_to present) (sym e)
bits_rest present n (suc to) le none = elim (cases_eq n (suc to)) [
  | inl e ↦ ap (bits_to present) (sym e)
  | inr e ↦ ap (marked (bits_to present to) (suc to)) (none (suc to) (omega (arith, e))) ∙ bits_rest present n to (omega (arith, e)) none
]
