-- The definition of a night and those of the layers are one.
use Rattle.std.specs.Prelude.{◌≡◌, ℕ, List, map}
use Rattle.x12_bytes.specs.HeaderTest as old_test
use Rattle.x12_bytes.specs.declared.delims.Delims.{Delims}
use Rattle.x12_segs.specs.Words.{elements_of, views}
use Rattle.night_definition.specs.Header as room
use Rattle.night_definition.specs.ReadBack.{segments_in}

-- an offset is a header of a text by the one where it is by the other
abbrev pub HeadsAreOne : Type 0
HeadsAreOne = (text : List ℕ) (offset : ℕ) → room.is_head text offset ≡ old_test.is_head text offset

-- read by the same delimiters, a text has the segments by the one that it has by the other
abbrev pub SegmentsAreOne : Type 0
SegmentsAreOne = (d : Delims) (text : List ℕ) → segments_in d text ≡ map elements_of (views text d)
