-- X12.5, interchange control number (ISA13), and X12.6, group control number (GS06) and transaction set control number (ST02): the sets
-- that a reader finds in a text, each under the numbers that it reads.
use Rattle.std.specs.Prelude.{ℕ, List, [], ◌∷◌, ◌++◌, map, Option, Some, None, codes, slice_index_or, if◌then◌else◌}
use Rattle.x12_bytes.specs.declared.delims.Delims.{Delims}
use Rattle.x12_segs.specs.Words.{elements_of, part_or_empty, views}
use Rattle.night_law.specs.SetsRead.{Segments, has_id}

-- a set, and ISA13 and GS06 as they were read last before it
pub record Found : Type 0 where
  pub isa13 : List ℕ
  pub gs06 : List ℕ
  pub set : Segments

-- the element of a segment with this id, or else what it was
abbrev pub read_or : (id : List ℕ) → (element : ℕ) → List (List ℕ) → (was : List ℕ) → List ℕ
read_or id element segment was = if has_id segment id then part_or_empty segment element else was

-- the sets in segments, each from an ST to the SE after it; no ISA or GS is looked for between these
abbrev pub found_behind : (isa13 gs06 : List ℕ) → (begun : Option Segments) → Segments → List Found
found_behind isa13 gs06 begun [] = []
found_behind isa13 gs06 None (s ∷ ss) =
    if has_id s (codes "ST") then found_behind isa13 gs06 (Some (s ∷ [])) ss
    else found_behind (read_or (codes "ISA") 13 s isa13) (read_or (codes "GS") 6 s gs06) None ss
found_behind isa13 gs06 (Some begun) (s ∷ ss) =
    if has_id s (codes "ST") then found_behind isa13 gs06 (Some (s ∷ [])) ss
    else (if has_id s (codes "SE") then record { isa13 = isa13; gs06 = gs06; set = begun ++ s ∷ [] } ∷ found_behind isa13 gs06 None ss
    else found_behind isa13 gs06 (Some (begun ++ s ∷ [])) ss)

-- those of a text, read by these delimiters
abbrev pub found_in : Delims → (text : List ℕ) → List Found
found_in d text = found_behind [] [] None (map elements_of (views text d))

-- ISA13, GS06 and ST02 of a set that is found
abbrev pub numbers_of : Found → List (List ℕ)
numbers_of found = found.isa13 ∷ found.gs06 ∷ part_or_empty (slice_index_or found.set 0 []) 2 ∷ []
