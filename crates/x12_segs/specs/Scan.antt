-- X12.6, segment and segment terminator: the first part from an offset on, a segment or else the rest.
use Rattle.std.specs.Prelude.{ℕ, ◌≡◌, ◌+◌, ◌<◌, ◌≤◌, List, [], ◌∷◌, length}
use Rattle.x12_segs.specs.Segs.{seg_at, segs_from, rest_from}
use Rattle.x12_segs.specs.declared.part.Part.{Part}
use Rattle.x12_segs.specs.declared.part.Part.TheVariants.{Segment, Rest}

-- a part lies in a text of this length, at or after an offset
abbrev pub LiesIn : ℕ → ℕ → Part → Type 0
LiesIn from len (Segment start end) = (from ≤ start) × (start < end) × (end < len)
LiesIn from len (Rest start) = (from ≤ start) × (start ≤ len)

-- a segment is the first from the offset on, and the others follow after its terminator; the rest comes where there isn't a segment
abbrev pub IsNextPart : List ℕ → ℕ → ℕ → Part → Type 0
IsNextPart text terminator from (Segment start end) =
    (segs_from text terminator from ≡ seg_at text start end ∷ segs_from text terminator (end + 1))
    × (rest_from text terminator from ≡ rest_from text terminator (end + 1))
IsNextPart text terminator from (Rest start) =
    (segs_from text terminator from ≡ []) × (rest_from text terminator from ≡ seg_at text start (length text))
