-- What a night has written (own), batch by batch: for each partner its acknowledgments (X12.5, TA1; 999 guide) and its delivered sets
-- (X12.6, transaction set), the lines of the report, and how many bytes stood outside interchanges.
use Rattle.std.specs.Prelude.{◌≡◌, ℕ, ◌+◌, ◌^◌, ◌<◌, List, [], ◌++◌, length, map, replicate, slice_get, Some}
use Rattle.env_index.specs.Words.{IndexEntry}
use Rattle.partner_setup.specs.declared.partner.Partner.{Partner}
use Rattle.partner_setup.specs.Setup.{SetupValue}
use Rattle.answered_sets.specs.Judged.{JudgedValue}
use Rattle.mailbox.specs.Deliveries.{delivered_to}
use Rattle.mailbox.specs.Rendered.{HaveRendered, RenderedValue, rendered_from}
use Rattle.night_report.specs.Report.{all_lines, report_totals}
use Rattle.night_report.specs.Told.{ToldValue, nothing_told, told_behind, told_text}
use Rattle.set_answers.specs.CheckedText.{AreAcknowledgments, AreCheckedAs, CheckedInterchange, SentValues, nothing_sent}
use Rattle.night_batches.specs.ByPlace.{box_by, next_by}
use Rattle.night_batches.specs.declared.night.Night.{Night}
use Rattle.night_batches.specs.Night.{AreForPartners, judgements}

pub record WritingValue : Type 0 where
  pub outside : ℕ
  pub files : List SentValues
  pub told : ToldValue
  pub boxes : List (List RenderedValue)

abbrev pub nothing_written : SetupValue → WritingValue
nothing_written setup = record {
  outside = 0;
  files = replicate (length setup.partners) nothing_sent;
  told = nothing_told;
  boxes = replicate (length setup.partners) [];
}

-- the same with this many more bytes outside
abbrev pub with_outside : WritingValue → (more : ℕ) → WritingValue
with_outside w more = record { outside = w.outside + more; files = w.files; told = w.told; boxes = w.boxes }

-- for each partner what was written of its sets
pub record AreRendered (setup : SetupValue) (xs : List JudgedValue) (boxes : List (List RenderedValue)) : Type 0 where
  pub count : length boxes ≡ length setup.partners
  pub each : (place : ℕ) (partner : Partner) → slice_get setup.partners place ≡ Some partner
      → slice_get boxes place ≡ Some (rendered_from partner 0 (delivered_to setup place xs))

-- the report up to there
pub record AreTold (setup : SetupValue) (xs : List JudgedValue) (told : ToldValue) : Type 0 where
  pub lines : told.lines ≡ all_lines setup 0 1 xs
  pub totals : told.totals ≡ report_totals setup xs
  pub count : told.count ≡ length xs

-- what is written is that of these interchanges of a text
pub record IsWrittenOf (text : List ℕ) (setup : SetupValue) (at : List ℕ) (known : List CheckedInterchange) (w : WritingValue)
    : Type 0 where
  pub files : AreAcknowledgments setup at known w.files
  pub told : AreTold setup (judgements text known) w.told
  pub boxes : AreRendered setup (judgements text known) w.boxes

-- there is room after it for this many interchanges more, and this many bytes outside
pub record HasRoomFor (setup : SetupValue) (at : List ℕ) (more others : ℕ) (w : WritingValue) : Type 0 where
  pub before : List CheckedInterchange
  pub files : AreAcknowledgments setup at before w.files
  pub count : w.told.count ≡ length before
  pub boxes : length w.boxes ≡ length setup.partners
  pub few : length before + more < 2 ^ 64
  pub outside : w.outside + others < 2 ^ 64

-- after the old, that of a text that begins at this offset of the whole one: of its settled entries, answered, and its bytes outside
pub record IsBatchWritten (text : List ℕ) (setup : SetupValue) (at : List ℕ) (base : ℕ) (entries : List IndexEntry) (others : ℕ)
    (old new : WritingValue) : Type 0 where
  pub known : List CheckedInterchange
  pub answered : AreCheckedAs text setup entries known
  pub outside : new.outside ≡ old.outside + others
  pub files : (before : List CheckedInterchange) → AreAcknowledgments setup at before old.files
      → AreAcknowledgments setup at (before ++ known) new.files
  pub told : new.told ≡ told_behind setup base old.told (judgements text known)
  pub boxes : HaveRendered setup (judgements text known) old.boxes new.boxes

-- the night: acknowledgments as they are, each mailbox with its envelopes, the lines with the total, the next counters
pub record IsClosedBy (setup : SetupValue) (at : List ℕ) (w : WritingValue) (night : Night) : Type 0 where
  pub acks : night.acks ≡ map (λ (f : SentValues). f.text) w.files
  pub boxes : AreForPartners setup (box_by setup at w.files w.boxes) night.boxes
  pub report : night.report ≡ told_text w.told w.outside
  pub next : AreForPartners setup (next_by w.files w.boxes) night.next
