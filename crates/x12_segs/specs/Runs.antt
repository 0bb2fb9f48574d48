-- X12.6, segment and segment terminator: a run of a text's segments, cut out of the text from its first byte to just after its last
-- terminator.
use Rattle.std.specs.Prelude.{ℕ, ◌≡◌, ◌+◌, ◌<◌, ◌≤◌, List, [], ◌∷◌, ◌++◌, length, map, slice_range}
use Rattle.x12_segs.specs.Segs.{Seg, Segs, segs_from, segs_within}

-- where the first segment of a run begins
abbrev pub start_offset : List Seg → ℕ
start_offset [] = 0
start_offset (seg ∷ more) = seg.start

-- the offset after the terminator of the last segment of a run
abbrev pub end_of : List Seg → ℕ
end_of [] = 0
end_of (seg ∷ []) = seg.start + length seg.bytes + 1
end_of (seg ∷ next ∷ more) = end_of (next ∷ more)

-- a segment with its offset counted from an earlier place
abbrev pub moved_by : ℕ → Seg → Seg
moved_by place seg = record { start = place + seg.start; bytes = seg.bytes }

-- read alone, what a run was cut out as gives the same segments; so does its stretch of the text
pub record StandsAlone (text : List ℕ) (terminator : ℕ) (run : List Seg) : Type 0 where
  pub within : end_of run ≤ length text
  pub segs : run ≡ map (moved_by (start_offset run)) (Segs (slice_range text (start_offset run) (end_of run)) terminator)
  pub stretch : run ≡ segs_within text terminator (start_offset run) (end_of run)

-- each run of one or more of the segments after an offset is alone
abbrev pub RunsStandAlone : List ℕ → ℕ → ℕ → Type 0
RunsStandAlone text terminator from =
    (before run behind : List Seg) → segs_from text terminator from ≡ before ++ (run ++ behind) → 0 < length run
    → StandsAlone text terminator run
