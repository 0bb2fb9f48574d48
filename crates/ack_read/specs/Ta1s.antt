-- X12.5, interchange acknowledgment (TA1): what a receiver reads of each interchange that it sent.
use Rattle.std.specs.Prelude.{ℕ, List, [], ◌∷◌, map, codes, if◌then◌else◌}
use Rattle.std.specs.List.{flat_map}
use Rattle.std.specs.Str.{bytes_eq}
use Rattle.x12_bytes.specs.declared.delims.Delims.{Delims}
use Rattle.x12_segs.specs.Words.{elements_of, part_or_empty, views}

-- TA101 to TA105: the number, the date and the time of the interchange, A or R, and the note
pub record Ta1 : Type 0 where
  pub control : List ℕ
  pub date : List ℕ
  pub time : List ℕ
  pub code : List ℕ
  pub note : List ℕ

-- of a segment, given by its id and its elements
abbrev pub ta1s_of : List (List ℕ) → List Ta1
ta1s_of s =
    if bytes_eq (part_or_empty s 0) (codes "TA1")
    then record {
      control = part_or_empty s 1;
      date = part_or_empty s 2;
      time = part_or_empty s 3;
      code = part_or_empty s 4;
      note = part_or_empty s 5;
    } ∷ []
    else []

abbrev pub ta1s_among : List (List (List ℕ)) → List Ta1
ta1s_among ss = flat_map ta1s_of ss

-- the TA1s in a text, read by these delimiters
abbrev pub ta1s_in : Delims → (text : List ℕ) → List Ta1
ta1s_in d text = ta1s_among (map elements_of (views text d))
