-- The table of the settled index of a text is that of the text.
use Rattle.std.proofs.Common.{◌≡◌, ℕ, List, Option, refl, ap, subst, ◌∙◌}
use Rattle.hub_kinds.specs.declared.interchange.InterchangeFault.{InterchangeFault}
use Rattle.env_index.specs.Words.{IndexValue, IsIndex, settled}
use Rattle.partner_setup.specs.Setup.{SetupValue}
use Rattle.set_answers.specs.CheckedText.{AreCheckedAs}
use Rattle.set_answers.specs.Settled.{settled_faults}
use Rattle.night_report.specs.Clean.{is_clean}
use Rattle.night_report.specs.Report.{report_text}
use Rattle.night_batches.specs.Night.{judgements}
use Rattle.set_documents.specs.Documents.{DocumentValue}
use Rattle.track_table.specs.Rows.{track_text}
use Rattle.track_table.specs.Track.{IsTrack, IsTrackIn, tracked_by}
use Rattle.track_table.specs.declared.track.Track.{Track}

pub track_of : (text : List ℕ) (setup : SetupValue) (documents : List DocumentValue) (index new : IndexValue)
    (faults : List (Option InterchangeFault)) (track : Track) → IsIndex text index → new ≡ settled index faults
    → faults ≡ settled_faults setup index.entries → IsTrackIn new setup documents track → IsTrack text setup documents track
track_of text setup documents index new faults track read settle found is =
    let all : IndexValue = settled index (settled_faults setup index.entries) in
    let there = subst (λ (i : IndexValue). IsTrackIn i setup documents track) (settle ∙ ap (settled index) found) is in
    record {
      known = there.known;
      outside = index.outside;
      is_known = record {
        index = index;
        read = read;
        answered = subst (λ (t : List ℕ). AreCheckedAs t setup all.entries there.known) read.same there.answered;
        counted = refl;
      };
      table = there.table ∙ ap (λ (t : List ℕ). track_text (tracked_by setup documents there.known) (judgements t there.known)) read.same;
      clean = there.clean ∙ ap (λ (t : List ℕ). is_clean (report_text setup (judgements t there.known) index.outside)) read.same;
    }
