-- X12.6, segment: segments that are known by their offsets (for the walk's own clauses, but for `AreMarks`).
use Rattle.std.specs.Prelude.{ℕ, ◌≡◌, ◌+◌, ◌<◌, ◌≤◌, List, [], ◌∷◌, length, get_or}
use Rattle.x12_segs.specs.Words.{IsNextPart, LiesIn}
use Rattle.x12_segs.specs.declared.part.Part.TheVariants.{Segment}
use Rattle.env_marks.specs.declared.frag.Mark.{Mark}
use Rattle.env_marks.specs.Marking.{MarksValue, marks_of}

-- the marks of some piece of this text, under whatever pair
pub record AreMarks (text : List ℕ) (m : MarksValue) : Type 0 where
  pub from : ℕ
  pub to : ℕ
  pub order : from ≤ to
  pub within : to ≤ length text
  pub is : m ≡ marks_of m.pair text from to

-- from an offset on each mark is the next segment
abbrev pub AreNext : List ℕ → ℕ → ℕ → List Mark → Type 0
AreNext text t at [] = Unit {0}
AreNext text t at (m ∷ ms) =
    LiesIn at (length text) (Segment m.start m.end) × IsNextPart text t at (Segment m.start m.end) × AreNext text t (m.end + 1) ms

abbrev pub no_mark : Mark
no_mark = record { start = 0; end = 0; id_end = 0 }

-- the first k marks begin before an offset, and the others don't
pub record IsDivided (k at : ℕ) (list : List Mark) : Type 0 where
  pub within : k ≤ length list
  pub before : (j : ℕ) → j < k → (get_or list j no_mark).start < at
  pub behind : (j : ℕ) → k ≤ j → j < length list → at ≤ (get_or list j no_mark).start
