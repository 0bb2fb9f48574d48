-- What is said of nights is made of what was read of them.
use Rattle.std.proofs.Common.{◌≡◌, ◌∙◌, ℕ, List, ap, codes, subst}
use Rattle.std.specs.List.{AllZip, filter_map}
use Rattle.hub_ledger.specs.declared.entry.NightEntry.{NightEntry}
use Rattle.system_io.specs.Outbox.{path_in}
use Rattle.night_folder.specs.Files.{FileValue}
use Rattle.night_folder.specs.Nights.{IsRead, bad_in, entry_in}
use Rattle.night_folder.specs.declared.night.NightRead.{NightRead}
use Rattle.night_marks.specs.declared.bad.BadFile.{BadFile}
use Rattle.night_marks.specs.declared.mark.NightMark.{NightMark}
use Rattle.night_review.specs.GoingOn.{IsJudged}
use Rattle.day_command.specs.Outcome.{AreJudged, named_last}

pub reported : (nights text : List ℕ) (status : ℕ) (order : List NightMark) (reads : List NightRead) (entries : List NightEntry)
    (bad : List BadFile) (last : FileValue) (limit named : List ℕ) → AllZip (IsRead nights) order reads
    → last.path ≡ path_in nights (codes ".last") → entries ≡ filter_map entry_in reads → bad ≡ filter_map bad_in reads
    → named ≡ named_last last.bytes entries → IsJudged limit named order entries bad text status → AreJudged nights order text status
reported nights text status order reads entries bad last limit named read_by last_at entries_are bad_are named_is judged =
    record {
      reads = reads;
      read_by = read_by;
      last = last;
      last_at = last_at;
      limit = limit;
      judged =
          subst (λ (n : List ℕ). IsJudged limit n order (filter_map entry_in reads) (filter_map bad_in reads) text status)
          (named_is ∙ ap (λ (e : List NightEntry). named_last last.bytes e) entries_are)
          (subst (λ (b : List BadFile). IsJudged limit named order (filter_map entry_in reads) b text status) bad_are
          (subst (λ (e : List NightEntry). IsJudged limit named order e bad text status) entries_are judged));
    }
