-- X12.6, segment: what one part takes away from the segments still to come (for the walk's own clauses; no public clause cites it).
use Rattle.std.specs.Prelude.{ℕ, ◌≡◌, ◌+◌, List, [], ◌∷◌, length, map}
use Rattle.x12_bytes.specs.declared.delims.Delims.{Delims}
use Rattle.x12_segs.specs.Words.{Seg, seg_at, view_of}
use Rattle.x12_segs.specs.declared.part.Part.{Part}
use Rattle.x12_segs.specs.declared.part.Part.TheVariants.{Segment, Rest}
use Rattle.env_index.specs.Extents.{Reach, reach_of}

-- a segment is the first of those to come, and the others are left; the rest comes where there is none
abbrev pub TakesPart : List ℕ → List Seg → Seg → Part → List Seg → Seg → Type 0
TakesPart text segs rest (Segment start end) more left = (segs ≡ seg_at text start end ∷ more) × (rest ≡ left)
TakesPart text segs rest (Rest start) more left = (segs ≡ []) × (rest ≡ seg_at text start (length text))

-- what comes then is after the segment's terminator
abbrev pub GoesOnBehind : Part → ℕ → Type 0
GoesOnBehind (Segment start end) at = at ≡ end + 1
GoesOnBehind (Rest start) at = Unit {0}

-- what an interchange has and where it ends, if these segments and this rest are to come
abbrev pub reach_over : List ℕ → Delims → List Seg → Seg → Reach
reach_over text delims segs rest = reach_of text (map (view_of delims) segs) rest
