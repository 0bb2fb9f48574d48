-- IK4, written one part after the other.
use Rattle.std.proofs.Common.{◌≡◌, ℕ, ◌<◌, List, [], ◌∷◌, ◌++◌, length, sym, ap, ◌∙◌, arith, append_assoc}
use Rattle.x12_bytes.specs.declared.delims.Delims.{Delims}
use Rattle.hub_kinds.specs.Words.{element_code_text}
use Rattle.hub_kinds.specs.declared.codes.ElementCode.{ElementCode}
use Rattle.hub_kinds.specs.declared.codes.ElementCode.TheVariants as element
use Rattle.x12_write.specs.Segment.{before_rest, trimmed, elements_text, end_text, segment_text}
use Rattle.x12_write.proofs.ForAbove.{before_rest-some}

-- each code has a text
element_text-some : (k : ElementCode) → 0 < length (element_code_text k)
element_text-some element.RequiredMissing = omega arith
element_text-some element.ConditionalMissing = omega arith
element_text-some element.TooManyElements = omega arith
element_text-some element.TooShort = omega arith
element_text-some element.TooLong = omega arith
element_text-some element.InvalidCharacter = omega arith
element_text-some element.InvalidCode = omega arith
element_text-some element.InvalidDate = omega arith
element_text-some element.InvalidTime = omega arith
element_text-some element.ExclusionViolated = omega arith
element_text-some element.TooManyRepetitions = omega arith
element_text-some element.TooManyComponents = omega arith
element_text-some element.CodeNotUsed = omega arith
element_text-some element.DependentMissing = omega arith
element_text-some element.NotUsedPresent = omega arith
element_text-some element.PatternFailure = omega arith
element_text-some element.DependentNotUsedPresent = omega arith

-- before a code nothing is left off
trimmed-code : (position reference code : List ℕ) (rest : List (List ℕ)) → 0 < length code
    → trimmed (position ∷ reference ∷ code ∷ rest) ≡ position ∷ trimmed (reference ∷ code ∷ rest)
trimmed-code position reference [] rest some = absurd (omega (arith, some))
trimmed-code position reference (b ∷ bs) rest some =
    let inner : trimmed (reference ∷ (b ∷ bs) ∷ rest)
    ≡ reference ∷ (b ∷ bs) ∷ trimmed rest = before_rest-some reference (b ∷ bs) (trimmed rest) in
    ap (before_rest position) inner ∙ before_rest-some position reference ((b ∷ bs) ∷ trimmed rest)
    ∙ sym (ap (λ (l : List (List ℕ)). position ∷ l) inner)

-- the segment, by its position and its last three elements
pub segment_text-code : (d : Delims) (id position reference copy : List ℕ) (k : ElementCode)
    → segment_text d id (position ∷ reference ∷ element_code_text k ∷ copy ∷ [])
    ≡ id ++ (d.element ∷ (position ++ end_text d (reference ∷ element_code_text k ∷ copy ∷ [])))
segment_text-code d id position reference copy k =
    let last : List (List ℕ) = reference ∷ element_code_text k ∷ copy ∷ [] in
    append_assoc id (elements_text d.element (trimmed (position ∷ last))) (d.terminator ∷ [])
    ∙ ap (λ (l : List (List ℕ)). id ++ (elements_text d.element l ++ d.terminator ∷ []))
    (trimmed-code position reference (element_code_text k) (copy ∷ []) (element_text-some k))
    ∙ ap (λ (t : List ℕ). id ++ t) (append_assoc (d.element ∷ position) (elements_text d.element (trimmed last)) (d.terminator ∷ []))

-- what four calls append, one after the other
pub appended : (out out1 out2 out3 out4 id position end : List ℕ) (separator : ℕ) → out1 ≡ out ++ id → out2 ≡ out1 ++ separator ∷ []
    → out3 ≡ out2 ++ position → out4 ≡ out3 ++ end → out4 ≡ out ++ (id ++ (separator ∷ (position ++ end)))
appended out out1 out2 out3 out4 id position end separator a b c d = rw (d, c, b, a) (simp append_assoc)
