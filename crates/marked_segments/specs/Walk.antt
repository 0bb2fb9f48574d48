-- Private. Where a walk by marks is in a stretch of a text, and what it has read (X12.6, segment terminator, data element separator).
use Rattle.std.specs.Prelude.{ℕ, ◌≡◌, ◌<◌, ◌≤◌, false, IsTrue, List, [], ◌∷◌, length, map, take, Option, Some, None}
use Rattle.std.specs.List.{list_any}
use Rattle.memchr.specs.Find.{is_byte, places}
use Rattle.marked_segments.specs.Marks.{is_odd}
use Rattle.x12_bytes.specs.declared.delims.Delims.{Delims}
use Rattle.x12_segs.specs.Words.{SegValue, moved_by, seg_at, segs_from, view_of}
use Rattle.marked_segments.specs.Blocks.{IsBlock}
use Rattle.marked_segments.specs.declared.walk.MarkWalk.{MarkWalk}
use Rattle.marked_segments.specs.declared.bounds.Bounds.{Bounds}

-- the segments of a stretch from an offset on, with offsets counted from the front of the text in which it begins at `base`
abbrev pub views_behind : Delims → (base : ℕ) → (stretch : List ℕ) → (at : ℕ) → List SegValue
views_behind delims base stretch at = map (view_of delims) (map (moved_by base) (segs_from stretch delims.terminator at))

-- the walk is where what is left of its block begins
pub record StandsAt (delims : Delims) (stretch : List ℕ) (walk : MarkWalk) : Type 0 where
  pub block : IsBlock delims stretch walk.block
  pub room : walk.count ≤ length walk.separators.items

-- where the walk says so, a part is plain, and it has the places of the element separators
pub record IsRead (delims : Delims) (part : List ℕ) (walk : MarkWalk) : Type 0 where
  pub separators : IsTrue walk.is_plain → take walk.count walk.separators.items ≡ places (is_byte delims.element) part
  pub none_odd : IsTrue walk.is_plain → list_any (is_odd delims) part ≡ false

-- the first segment from an offset on has these bounds, and the others follow from a later one on
abbrev pub IsNextSegment : (stretch : List ℕ) → (terminator : ℕ) → (from : ℕ) → Option Bounds → (later : ℕ) → Type 0
IsNextSegment stretch terminator from None later =
    (segs_from stretch terminator from ≡ []) × (segs_from stretch terminator later ≡ [])
IsNextSegment stretch terminator from (Some b) later =
    (b.start < b.end) × (b.end < length stretch)
    × (segs_from stretch terminator from ≡ seg_at stretch b.start b.end ∷ segs_from stretch terminator later)
