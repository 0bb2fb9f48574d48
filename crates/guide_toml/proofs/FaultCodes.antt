-- The codes that a guide tolerates are read as all codes are.
use Rattle.std.proofs.Common.{ℕ, ◌≡◌, ◌↔◌, ◌∙◌, Bool, true, false, List, Option, None, Some, bytes_eq, refl, sym, ap, rules}
use Rattle.std.specs.Prelude.{if◌then◌else◌, codes}
use Rattle.std.proofs.lemmas.Option.{none-some}
use Rattle.std.proofs.lemmas.Slice.Eq.{bytes_eq-Decides}
use Rattle.hub_kinds.specs.Words.{element_code_text, segment_code_text}
use Rattle.hub_kinds.specs.declared.codes.SegmentCode.{SegmentCode}
use Rattle.hub_kinds.specs.declared.codes.SegmentCode.TheVariants as ik304
use Rattle.hub_kinds.specs.declared.codes.ElementCode.{ElementCode}
use Rattle.hub_kinds.specs.declared.codes.ElementCode.TheVariants as ik403
use Rattle.guide_toml.specs.Entries.{element_code_of, segment_code_of}

abbrev IsReadAs : {C : Type 0} → (text_of : C → List ℕ) → (text : List ℕ) → Option C → Type 0
IsReadAs {C} text_of text read = (code : C) → (read ≡ Some code) ↔ (text ≡ text_of code)

-- a text that is no code isn't this one
module _ {C : Type 0} (text_of : C → List ℕ) (text : List ℕ) (none : IsReadAs text_of text None) where
  not_by : (c : C) (rest : Option C) (b : Bool) → bytes_eq text (text_of c) ≡ b → None ≡ rest → None ≡ (if b then Some c else rest)
  not_by c rest true is later = absurd (none-some c ((none c).1 ((bytes_eq-Decides text (text_of c)).0 is)))
  not_by c rest false is later = later

  not_this : (c : C) (rest : Option C) → None ≡ rest → None ≡ (if bytes_eq text (text_of c) then Some c else rest)
  not_this c rest later = not_by c rest (bytes_eq text (text_of c)) refl later

module _ (t : List ℕ) (none : IsReadAs element_code_text t None) where
  no_element : (c : ElementCode) (rest : Option ElementCode) → None ≡ rest
      → None ≡ (if bytes_eq t (element_code_text c) then Some c else rest)
  no_element = not_this element_code_text t none

  element_none : None ≡ element_code_of t
  element_none =
      no_element ik403.RequiredMissing _ (no_element ik403.ConditionalMissing _ (no_element ik403.TooManyElements _
      (no_element ik403.TooShort _ (no_element ik403.TooLong _ (no_element ik403.InvalidCharacter _ (no_element ik403.InvalidCode _
      (no_element ik403.InvalidDate _ (no_element ik403.InvalidTime _ (no_element ik403.ExclusionViolated _
      (no_element ik403.TooManyRepetitions _ (no_element ik403.TooManyComponents _ (no_element ik403.CodeNotUsed _
      (no_element ik403.DependentMissing _ (no_element ik403.NotUsedPresent _ (no_element ik403.PatternFailure _
      (no_element ik403.DependentNotUsedPresent _ refl))))))))))))))))

element_some : (code : ElementCode) → Some code ≡ element_code_of (element_code_text code)
element_some = search rules

pub element_read : (t : List ℕ) (r : Option ElementCode) → IsReadAs element_code_text t r → r ≡ element_code_of t
element_read t None read = element_none t read
element_read t (Some code) read = element_some code ∙ ap element_code_of (sym ((read code).0 refl))

module _ (t : List ℕ) (none : IsReadAs segment_code_text t None) where
  no_segment : (c : SegmentCode) (rest : Option SegmentCode) → None ≡ rest
      → None ≡ (if bytes_eq t (segment_code_text c) then Some c else rest)
  no_segment = not_this segment_code_text t none

  segment_none : None ≡ segment_code_of t
  segment_none =
      no_segment ik304.UnrecognizedSegment _ (no_segment ik304.UnexpectedSegment _ (no_segment ik304.RequiredSegmentMissing _
      (no_segment ik304.LoopTooOften _ (no_segment ik304.SegmentTooOften _ (no_segment ik304.NotInSet _
      (no_segment ik304.OutOfSequence _ (no_segment ik304.NotUsedPresent _ (no_segment ik304.DependentMissing _
      (no_segment ik304.LoopTooSeldom _ (no_segment ik304.SegmentTooSeldom _
      (no_segment ik304.DependentNotUsedPresent _ refl)))))))))))

segment_some : (code : SegmentCode) → bytes_eq (segment_code_text code) (codes "8") ≡ false
    → Some code ≡ segment_code_of (segment_code_text code)
segment_some = search rules

-- but for 8
pub segment_read : (t : List ℕ) (r : Option SegmentCode) → IsReadAs segment_code_text t r → bytes_eq t (codes "8") ≡ false
    → r ≡ segment_code_of t
segment_read t None read other = segment_none t read
segment_read t (Some code) read other =
    let same : t ≡ segment_code_text code = (read code).0 refl in
    segment_some code (ap (λ (s : List ℕ). bytes_eq s (codes "8")) (sym same) ∙ other) ∙ ap segment_code_of (sym same)
