-- 999 guide (005010X231), AK2 and IK5: what a receiver reads of each set in an acknowledgment.
use Rattle.std.specs.Prelude.{ℕ, List, [], ◌∷◌, map, codes, if◌then◌else◌}
use Rattle.std.specs.Str.{bytes_eq}
use Rattle.x12_bytes.specs.declared.delims.Delims.{Delims}
use Rattle.x12_segs.specs.Words.{elements_of, part_or_empty, views}

-- AK201, AK202 and IK501
pub record Response : Type 0 where
  pub identifier : List ℕ
  pub control : List ℕ
  pub code : List ℕ

-- the responses in segments, each given by its id and its elements: an IK5 belongs to the AK2 before it, here the last one so far
abbrev pub responses_behind : (identifier control : List ℕ) → List (List (List ℕ)) → List Response
responses_behind identifier control [] = []
responses_behind identifier control (s ∷ ss) =
    if bytes_eq (part_or_empty s 0) (codes "AK2") then responses_behind (part_or_empty s 1) (part_or_empty s 2) ss
    else (if bytes_eq (part_or_empty s 0) (codes "IK5")
    then record { identifier = identifier; control = control; code = part_or_empty s 1 } ∷ responses_behind identifier control ss
    else responses_behind identifier control ss)

-- the responses in a text, read by these delimiters
abbrev pub responses_in : Delims → (text : List ℕ) → List Response
responses_in d text = responses_behind [] [] (map elements_of (views text d))
