-- X12.6, repetition and component element separators: the parts of an element. What is empty, and that trailing empty
-- parts don't count, is own.
use Rattle.std.specs.Prelude.{ℕ, ◌==◌, ◌-◌, List, drop, Bool, false, not, ◌||◌}
use Rattle.std.specs.List.{list_any, list_all}
use Rattle.std.specs.Option.{option_map_or}
use Rattle.x12_bytes.specs.declared.delims.Delims.{Delims}
use Rattle.x12_segs.specs.Words.{occurrences, components, part_or_empty}

-- a component or repetition separator
abbrev pub is_inner_separator : Delims → ℕ → Bool
is_inner_separator delims byte = (byte == delims.component) || option_map_or (λ separator. byte == separator) delims.repetition false

-- a text is empty where it has no byte other than component and repetition separators
abbrev pub is_empty : Delims → List ℕ → Bool
is_empty delims text = list_all (is_inner_separator delims) text

abbrev pub is_filled : Delims → List ℕ → Bool
is_filled delims text = not (is_empty delims text)

-- there are more than n parts: one after the first n isn't empty
abbrev pub has_more : Delims → ℕ → List (List ℕ) → Bool
has_more delims n parts = list_any (is_filled delims) (drop n parts)

-- occurrence n of an element, from 1; where no number is shown, at 0, the first
abbrev pub occurrence_in : Delims → List ℕ → ℕ → List ℕ
occurrence_in delims element n = part_or_empty (occurrences delims element) (n - 1)

-- component n of an occurrence, from 1; where no number is shown, at 0, the first
abbrev pub component_in : Delims → List ℕ → ℕ → List ℕ
component_in delims occurrence n = part_or_empty (components delims occurrence) (n - 1)
