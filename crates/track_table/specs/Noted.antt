-- 999 guide (005010X231) and X12.5, interchange acknowledgment: what is kept of each interchange of a text once it is answered (own).
use Rattle.std.specs.Prelude.{◌≡◌, ℕ, List, map}
use Rattle.env_index.specs.Words.{IndexEntry}
use Rattle.partner_setup.specs.Setup.{SetupValue}
use Rattle.answered_sets.specs.Judged.{JudgedValue}
use Rattle.set_answers.specs.Acknowledgments.{has_reports}
use Rattle.set_answers.specs.CheckedText.{AreCheckedAs, CheckedInterchange, IsCheckedAs, acknowledgment_of, judged, recipient_of}
use Rattle.track_table.specs.AnswerNotes.{notes_by}
use Rattle.track_table.specs.declared.notes.Notes.{Notes}

-- the notes of its groups, to whom it is acknowledged, and whether that has 999s
abbrev pub notes_of : CheckedInterchange → Notes
notes_of x = record {
  groups = map notes_by x.groups;
  recipient = recipient_of x;
  has_reports = has_reports (acknowledgment_of x);
}

-- these are the interchanges of the settled index of a text, answered, by their standings, and what is kept of their answers
pub record AreNoted (text : List ℕ) (setup : SetupValue) (entries : List IndexEntry) (interchanges : List JudgedValue)
    (notes : List Notes) : Type 0 where
  pub known : List CheckedInterchange
  pub answered : AreCheckedAs text setup entries known
  pub judgements : interchanges ≡ map (judged text) known
  pub are : notes ≡ map notes_of known

-- the same of one
pub record IsNoted (text : List ℕ) (setup : SetupValue) (e : IndexEntry) (interchange : JudgedValue) (notes : Notes) : Type 0 where
  pub known : CheckedInterchange
  pub answered : IsCheckedAs text setup e known
  pub judgement : interchange ≡ judged text known
  pub is : notes ≡ notes_of known
