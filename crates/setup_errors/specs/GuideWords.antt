-- Own: what is said of a guide file that is refused.
use Rattle.std.specs.Prelude.{◌≡◌, ⊤, ℕ, ◌+◌, List, [], ◌∷◌, ◌++◌, decimal}
use Rattle.guide_tree.specs.Words.{Trees}
use Rattle.guide_tree.specs.declared.fault.GuideFault.{GuideFault}
use Rattle.guide_tree.specs.declared.fault.GuideFault.TheVariants as own
use Rattle.setup_errors.specs.Nodes.{IsCommon}
use Rattle.setup_errors.specs.Sentences.{filled}
use Rattle.setup_errors.specs.declared.words.TheConstants as say

-- an element that isn't empty
abbrev pub element_words : (number : ℕ) → List ℕ → List ℕ
element_words number [] = []
element_words number (b ∷ bs) = filled say.WITH_ELEMENT.now (decimal number ∷ (b ∷ bs) ∷ [])

abbrev pub elements_words : (number : ℕ) → List (List ℕ) → List ℕ
elements_words number [] = []
elements_words number (e ∷ es) = element_words number e ++ elements_words (number + 1) es

abbrev pub segment_words : List (List ℕ) → List ℕ
segment_words [] = say.ONE_SEGMENT.now
segment_words (id ∷ elements) = id ++ elements_words 1 elements

-- what is shown of two slots, in words
abbrev pub IsCommonSaid : Trees → (first second : ℕ) → List ℕ → Type 0
IsCommonSaid nodes first second text = (s : List (List ℕ)) × IsCommon nodes first second s × (text ≡ segment_words s)

-- a text says what is wrong with a guide; of two slots that are rivals it ends with a segment that fits both
abbrev pub IsGuideSaid : Trees → GuideFault → List ℕ → Type 0
IsGuideSaid nodes (own.Ambiguous first second) text =
    (before : List ℕ) × (common : List ℕ) × IsCommonSaid nodes first second common × (text ≡ before ++ common)
IsGuideSaid nodes fault text = ⊤
