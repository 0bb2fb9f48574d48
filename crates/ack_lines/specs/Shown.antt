-- Own: how texts of an acknowledgment are shown in a sentence: no byte that doesn't print, and not more of them than a copy has (999 guide,
-- IK404).
use Rattle.std.specs.Prelude.{ℕ, ◌==◌, ◌&&◌, nat_le, Option, None, Some, List, [], ◌∷◌, ◌++◌, map, take, if◌then◌else◌}

-- a byte that prints, or else a question mark
abbrev pub shown_byte : ℕ → ℕ
shown_byte b = if nat_le 32 b && nat_le b 126 then b else 63

abbrev pub shown : (text : List ℕ) → List ℕ
shown text = map shown_byte (take 99 text)

-- a sentence with the next of some values, as it is shown, for each `_`
unfoldable pub filled : (sentence : List ℕ) → (values : List (List ℕ)) → List ℕ
filled [] values = []
filled (b ∷ bs) [] = b ∷ filled bs []
filled (b ∷ bs) (v ∷ vs) = if b == 95 then shown v ++ filled bs vs else b ∷ filled bs (v ∷ vs)

-- a sentence with a value that isn't empty
abbrev pub filled_if : (sentence value : List ℕ) → List ℕ
filled_if sentence [] = []
filled_if sentence (b ∷ bs) = filled sentence ((b ∷ bs) ∷ [])

-- a sentence with a name, if there is one
abbrev pub name_said : (sentence : List ℕ) → Option (List ℕ) → List ℕ
name_said sentence None = []
name_said sentence (Some name) = filled_if sentence name
