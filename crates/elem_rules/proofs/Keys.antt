-- A fault has its key's place and code.
use Rattle.std.proofs.Common.{◌≡◌, ◌∙◌, List, [], ◌∷◌, get_or, refl, ap, sym}
use Rattle.std.specs.Prelude.{Some}
use Rattle.hub_kinds.specs.declared.codes.ElementCode.{ElementCode}
use Rattle.hub_kinds.specs.declared.codes.ElementCode.TheVariants as ik403
use Rattle.hub_kinds.specs.declared.fault.ElemFault.{ElemFault}
use Rattle.hub_kinds.specs.Words.{element_rank, elem_key}

abbrev all_codes : List ElementCode
all_codes =
    ik403.RequiredMissing ∷ ik403.ConditionalMissing ∷ ik403.TooManyElements ∷ ik403.TooShort ∷ ik403.TooLong ∷ ik403.InvalidCharacter
    ∷ ik403.InvalidCode ∷ ik403.InvalidDate ∷ ik403.InvalidTime ∷ ik403.ExclusionViolated ∷ ik403.TooManyRepetitions ∷
    ik403.TooManyComponents
    ∷ ik403.CodeNotUsed ∷ ik403.DependentMissing ∷ ik403.NotUsedPresent ∷ ik403.PatternFailure ∷ ik403.DependentNotUsedPresent ∷ []

code_at_rank : (code d : ElementCode) → get_or all_codes (element_rank code) d ≡ code
code_at_rank ik403.RequiredMissing d = refl
code_at_rank ik403.ConditionalMissing d = refl
code_at_rank ik403.TooManyElements d = refl
code_at_rank ik403.TooShort d = refl
code_at_rank ik403.TooLong d = refl
code_at_rank ik403.InvalidCharacter d = refl
code_at_rank ik403.InvalidCode d = refl
code_at_rank ik403.InvalidDate d = refl
code_at_rank ik403.InvalidTime d = refl
code_at_rank ik403.ExclusionViolated d = refl
code_at_rank ik403.TooManyRepetitions d = refl
code_at_rank ik403.TooManyComponents d = refl
code_at_rank ik403.CodeNotUsed d = refl
code_at_rank ik403.DependentMissing d = refl
code_at_rank ik403.NotUsedPresent d = refl
code_at_rank ik403.PatternFailure d = refl
code_at_rank ik403.DependentNotUsedPresent d = refl

same_code : (a b : ElementCode) → element_rank a ≡ element_rank b → a ≡ b
same_code a b h = sym (code_at_rank a a) ∙ ap (λ n. get_or all_codes n a) h ∙ code_at_rank b a

-- faults with the same key have the same place and code
pub same_place : (f g : ElemFault) → elem_key (Some f) ≡ elem_key (Some g)
    → (f.element ≡ g.element) × (f.component ≡ g.component) × (f.repetition ≡ g.repetition) × (f.code ≡ g.code)
same_place f g h =
    (ap (λ k. get_or k 0 0) h, ap (λ k. get_or k 1 0) h, ap (λ k. get_or k 2 0) h, same_code f.code g.code (ap (λ k. get_or k 3 0) h))
