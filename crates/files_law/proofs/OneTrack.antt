-- A text has one table by a setup and by named documents.
use Rattle.std.proofs.Common.{◌≡◌, ℕ, List, Bool, sym, ap, ◌∙◌}
use Rattle.partner_setup.specs.Setup.{SetupValue}
use Rattle.set_answers.specs.CheckedText.{CheckedInterchange}
use Rattle.night_batches.specs.Night.{judgements}
use Rattle.night_report.specs.Clean.{is_clean}
use Rattle.night_report.specs.Report.{report_text}
use Rattle.night_law.proofs.ForAbove.{known_once}
use Rattle.set_documents.specs.Documents.{DocumentValue}
use Rattle.track_table.specs.Rows.{track_text}
use Rattle.track_table.specs.Track.{IsTrack, tracked_by}
use Rattle.track_table.specs.declared.track.Track.{Track}

parts_are_all : (a b : Track) → a.table ≡ b.table → a.clean ≡ b.clean → a ≡ b
parts_are_all a b table clean =
    ap (λ (v : List ℕ). let t : Track = record { table = v; clean = a.clean } in t) table
    ∙ ap (λ (v : Bool). let t : Track = record { table = b.table; clean = v } in t) clean

pub track_once : (text : List ℕ) (setup : SetupValue) (documents : List DocumentValue) (a b : Track) → IsTrack text setup documents a
    → IsTrack text setup documents b → a ≡ b
track_once text setup documents a b is was =
    let same = known_once text setup is.known was.known is.outside was.outside is.is_known was.is_known in
    parts_are_all a b
    (is.table ∙ ap (λ (k : List CheckedInterchange). track_text (tracked_by setup documents k) (judgements text k)) same.0 ∙ sym was.table)
    (is.clean ∙ ap (λ (k : List CheckedInterchange). is_clean (report_text setup (judgements text k) is.outside)) same.0
    ∙ ap (λ (n : ℕ). is_clean (report_text setup (judgements text was.known) n)) same.1 ∙ sym was.clean)
