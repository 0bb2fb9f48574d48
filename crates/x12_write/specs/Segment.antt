-- X12.6, segment: its id, its data elements, each after an element separator, and the terminator.
use Rattle.std.specs.Prelude.{ℕ, List, [], ◌∷◌, ◌++◌, map}
use Rattle.std.specs.List.{flat_map}
use denote.Ref.{Bor}
use Rattle.x12_bytes.specs.declared.delims.Delims.{Delims}

-- what lent elements read
abbrev pub read : List (Bor (List ℕ)) → List (List ℕ)
read elements = map (λ element. element.now) elements

-- a segment that is to be written
pub record WrittenSegment : Type 0 where
  pub id : List ℕ
  pub elements : List (List ℕ)

abbrev pub segment : List ℕ → List (List ℕ) → WrittenSegment
segment id elements = record { id = id; elements = elements }

-- an element before others; left off where it and they are empty
abbrev pub before_rest : List ℕ → List (List ℕ) → List (List ℕ)
before_rest [] [] = []
before_rest element rest = element ∷ rest

-- the elements without the empty ones at the end
abbrev pub trimmed : List (List ℕ) → List (List ℕ)
trimmed [] = []
trimmed (element ∷ elements) = before_rest element (trimmed elements)

-- each element after an element separator
abbrev pub elements_text : ℕ → List (List ℕ) → List ℕ
elements_text separator elements = flat_map (λ element. separator ∷ element) elements

-- a segment with all of its elements, as the interchange header has them
abbrev pub full_segment_text : Delims → List ℕ → List (List ℕ) → List ℕ
full_segment_text d id elements = id ++ elements_text d.element elements ++ d.terminator ∷ []

-- the end of a segment: its last elements, trailing empty ones left off, and the terminator
abbrev pub end_text : Delims → List (List ℕ) → List ℕ
end_text d elements = elements_text d.element (trimmed elements) ++ d.terminator ∷ []

-- a segment as it is written: trailing empty elements are left off
abbrev pub segment_text : Delims → List ℕ → List (List ℕ) → List ℕ
segment_text d id elements = full_segment_text d id (trimmed elements)

-- segments as they are written, with no byte between them
abbrev pub segments_text : Delims → List WrittenSegment → List ℕ
segments_text d segments = flat_map (λ s. segment_text d s.id s.elements) segments
