-- Where each set of the night of a text is (own; X12.5, interchange; X12.6, transaction set).
use Rattle.std.specs.Prelude.{◌≡◌, ℕ, List, map}
use Rattle.env_index.specs.Words.{IndexValue}
use Rattle.partner_setup.specs.Setup.{SetupValue}
use Rattle.set_answers.specs.CheckedText.{AreCheckedAs, CheckedInterchange}
use Rattle.night_report.specs.Clean.{is_clean}
use Rattle.night_report.specs.Report.{report_text}
use Rattle.night_batches.specs.Night.{IsKnown, judgements}
use Rattle.set_documents.specs.Documents.{DocumentValue}
use Rattle.track_table.specs.Noted.{notes_of}
use Rattle.track_table.specs.Rows.{TrackedBy, track_text}
use Rattle.track_table.specs.declared.track.Track.{Track}

-- that of a night, by the answers to its interchanges
abbrev pub tracked_by : SetupValue → List DocumentValue → List CheckedInterchange → TrackedBy
tracked_by setup documents known = record { setup = setup; night = map notes_of known; documents = documents }

-- it is the table of the night of a text, whose report is clean or isn't
pub record IsTrack (text : List ℕ) (setup : SetupValue) (documents : List DocumentValue) (track : Track) : Type 0 where
  pub known : List CheckedInterchange
  pub outside : ℕ
  pub is_known : IsKnown text setup known outside
  pub table : track.table ≡ track_text (tracked_by setup documents known) (judgements text known)
  pub clean : track.clean ≡ is_clean (report_text setup (judgements text known) outside)

-- the same of the settled index of a text (for inner clauses)
pub record IsTrackIn (index : IndexValue) (setup : SetupValue) (documents : List DocumentValue) (track : Track) : Type 0 where
  pub known : List CheckedInterchange
  pub answered : AreCheckedAs index.text setup index.entries known
  pub table : track.table ≡ track_text (tracked_by setup documents known) (judgements index.text known)
  pub clean : track.clean ≡ is_clean (report_text setup (judgements index.text known) index.outside)
