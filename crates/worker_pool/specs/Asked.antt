-- Own: what jobs ask, and what their answers were asked.
use Rattle.std.specs.Prelude.{ℕ, ◌≤◌, List, length}
use Rattle.x12_bytes.specs.declared.pair.Pair.{Pair}
use Rattle.x12_bytes.specs.declared.piece.Piece.{Piece}
use Rattle.env_index.specs.Words.{IndexValue}
use Rattle.worker_pool.specs.declared.heads.HeadsAsked.{HeadsAsked}
use Rattle.worker_pool.specs.declared.heads.HeadsJob.{HeadsJob}
use Rattle.worker_pool.specs.declared.judgement.JudgeAsked.{JudgeAsked}
use Rattle.worker_pool.specs.declared.judgement.JudgeJob.{JudgeJob}
use Rattle.worker_pool.specs.declared.marks.MarksAsked.{MarksAsked}
use Rattle.worker_pool.specs.declared.marks.MarksJob.{MarksJob}

-- a piece lies in a text
abbrev pub IsPieceOf : List ℕ → Piece → Type 0
IsPieceOf text p = (p.from ≤ p.to) × (p.to ≤ length text)

-- jobs that can be done
abbrev pub IsHeadsJob : HeadsJob → Type 0
IsHeadsJob j = IsPieceOf j.text.now j.piece

abbrev pub IsMarksJob : MarksJob → Type 0
IsMarksJob j = IsPieceOf j.text.now j.piece

abbrev pub IsJudgeJob : JudgeJob → Type 0
IsJudgeJob j = (1 ≤ j.number) × (j.number ≤ length j.index.now.entries)

-- an answer to a piece of a text: its job's number, the text and the piece
pub record HeadsAnswer : Type 0 where
  pub number : ℕ
  pub text : List ℕ
  pub piece : Piece

abbrev pub heads_asked : HeadsJob → HeadsAsked
heads_asked j = record { text = j.text.now; piece = j.piece }

abbrev pub heads_by : HeadsAnswer → HeadsAsked
heads_by d = record { text = d.text; piece = d.piece }

-- and the pair that it was taken under
pub record MarksAnswer : Type 0 where
  pub number : ℕ
  pub text : List ℕ
  pub piece : Piece
  pub pair : Pair

abbrev pub marks_asked : MarksJob → MarksAsked
marks_asked j = record { text = j.text.now; piece = j.piece; pair = j.pair }

abbrev pub marks_by : MarksAnswer → MarksAsked
marks_by d = record { text = d.text; piece = d.piece; pair = d.pair }

-- an answer to an interchange of an index, counted from 1: its job's number, the index and the interchange
pub record JudgeAnswer : Type 0 where
  pub job : ℕ
  pub index : IndexValue
  pub number : ℕ

abbrev pub judge_asked : JudgeJob → JudgeAsked
judge_asked j = record { index = j.index.now; number = j.number }

abbrev pub judge_by : JudgeAnswer → JudgeAsked
judge_by d = record { index = d.index; number = d.number }
