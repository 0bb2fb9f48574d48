-- Own: how a sentence of `src/words.rt` reads with its details, and what is said at a place.
use Rattle.std.specs.Prelude.{ℕ, Bool, ◌&&◌, ◌==◌, nat_le, List, [], ◌∷◌, ◌++◌, decimal, Option, None, Some, if◌then◌else◌, unwrap_or}
use Rattle.setup_errors.specs.declared.sentence.Detail.{Detail}
use Rattle.setup_errors.specs.declared.sentence.Detail.TheVariants as detail
use Rattle.setup_errors.specs.declared.sentence.Sentence.{Sentence}
use Rattle.setup_errors.specs.declared.sentence.Sentence.TheVariants as sentence
use Rattle.setup_errors.specs.declared.words.TheConstants as say

-- it can be seen
abbrev pub is_graphic : ℕ → Bool
is_graphic b = nat_le 33 b && nat_le b 126

-- a byte in quotes where it can be seen, else by its number
abbrev pub byte_text : ℕ → List ℕ
byte_text b = if is_graphic b then 34 ∷ b ∷ 34 ∷ [] else say.BYTE.now ++ decimal b

abbrev pub detail_text : Detail → List ℕ
detail_text (detail.Text text) = text.now
detail_text (detail.Number n) = decimal n
detail_text (detail.Byte b) = byte_text b

-- a sentence with the next of its details for each `_`
unfoldable pub filled : (sentence : List ℕ) → (details : List (List ℕ)) → List ℕ
filled [] details = []
filled (b ∷ bs) [] = b ∷ filled bs []
filled (b ∷ bs) (d ∷ ds) = if b == 95 then d ++ filled bs ds else b ∷ filled bs (d ∷ ds)

abbrev pub text_of : Sentence → List ℕ
text_of (sentence.Plain s) = s.now
text_of (sentence.One s a) = filled s.now (detail_text a ∷ [])
text_of (sentence.Two s a b) = filled s.now (detail_text a ∷ detail_text b ∷ [])
text_of (sentence.Three s a b c) = filled s.now (detail_text a ∷ detail_text b ∷ detail_text c ∷ [])

-- `KIND NUMBER (NAME): `, or without a name
abbrev pub in_place : (kind : List ℕ) → ℕ → (name : List ℕ) → List ℕ
in_place kind number [] = filled say.PLACE.now (kind ∷ decimal number ∷ [])
in_place kind number (b ∷ bs) = filled say.NAMED_PLACE.now (kind ∷ decimal number ∷ (b ∷ bs) ∷ [])

-- nothing where nothing is said
abbrev pub or_nothing : Option (List ℕ) → List ℕ
or_nothing cause = unwrap_or cause []

-- a sentence on what is at a place, where there is a cause
abbrev pub told_at : (place : List ℕ) → (cause : Option (List ℕ)) → List (List ℕ)
told_at place None = []
told_at place (Some cause) = (place ++ cause) ∷ []
