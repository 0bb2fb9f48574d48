-- X12.5, interchange control header, and X12.6, segment: what is asked of the pieces of a text, and of the interchanges of its index; what
-- answers to it give (own). Private.
use Rattle.std.specs.Prelude.{◌≡◌, ◌+◌, ℕ, List, [], ◌∷◌}
use Rattle.x12_bytes.specs.declared.piece.Piece.{Piece}
use Rattle.isa_scan.specs.Heads.{heads_in}
use Rattle.isa_scan.specs.declared.heads.HeadAt.{HeadAt}
use Rattle.env_marks.specs.Marking.{MarksValue, marks_of}
use Rattle.env_index.specs.Words.{IndexEntry, IndexValue}
use Rattle.worker_pool.specs.Asked.{HeadsAnswer, IsMarksJob, MarksAnswer}
use Rattle.worker_pool.specs.declared.heads.HeadsAsked.{HeadsAsked}
use Rattle.worker_pool.specs.declared.judgement.JudgeAsked.{JudgeAsked}
use Rattle.worker_pool.specs.declared.marks.MarksJob.{MarksJob}

abbrev pub piece_asked : (text : List ℕ) → Piece → HeadsAsked
piece_asked text piece = record { text = text; piece = piece }

abbrev pub heads_given : HeadsAnswer → List HeadAt
heads_given d = heads_in d.text d.piece.from d.piece.to

abbrev pub marks_given : MarksAnswer → MarksValue
marks_given d = marks_of d.pair d.text d.piece.from d.piece.to

-- it is of a piece of this text
pub record IsMarksOf (text : List ℕ) (job : MarksJob) : Type 0 where
  pub ready : IsMarksJob job
  pub same : job.text.now ≡ text

-- the interchanges of an index that are left, this one being the next
abbrev pub judges_from : IndexValue → (number : ℕ) → List IndexEntry → List JudgeAsked
judges_from index number [] = []
judges_from index number (e ∷ es) = record { index = index; number = number } ∷ judges_from index (number + 1) es
