-- The records of a folder's nights (own): whether they are chained, and what is printed of them.
use Rattle.std.specs.Prelude.{◌≡◌, ◌↔◌, ◌⊎◌, ◌&&◌, ℕ, Bool, true, List, [], ◌∷◌, ◌++◌, Option, Some, None, if◌then◌else◌}
use Rattle.std.specs.List.{AllZip, filter_map, list_all}
use Rattle.night_folder.specs.Home.{archive_of}
use Rattle.night_marks.specs.Count.{archived, unarchived}
use Rattle.night_marks.specs.declared.mark.NightMark.{NightMark}
use Rattle.record_chain.specs.Breaks.{breaks_after}
use Rattle.record_chain.specs.Chained.{AreChained}
use Rattle.record_review.specs.Lines.{records_text}
use Rattle.record_review.specs.Records.{IsRecordRead, bad_in, is_unread, night_in}
use Rattle.record_chain.specs.declared.night.ReadNight.{ReadNight}
use Rattle.record_review.specs.declared.read.BadRecord.{BadRecord}
use Rattle.record_review.specs.declared.read.RecordRead.{RecordRead}

-- what is printed of nights whose records were read, after the night `before`, and of the others
abbrev pub report_text : List BadRecord → (before : Option ReadNight) → List ReadNight → List ℕ
report_text bad before nights = records_text bad nights (breaks_after before nights)

abbrev pub first_of : List ReadNight → Option ReadNight
first_of [] = None
first_of (night ∷ nights) = Some night

-- the last of the nights that are archived, by what was read of its record
abbrev pub night_before : List RecordRead → Option ReadNight
night_before first = first_of (filter_map night_in first)

-- the nights without a record
abbrev pub all_bad : (first reads : List RecordRead) → List BadRecord
all_bad first reads = filter_map bad_in first ++ filter_map bad_in reads

abbrev pub are_unread : (first reads : List RecordRead) → Bool
are_unread first reads = list_all is_unread first && list_all is_unread reads

-- if no record can be read, nothing is printed
abbrev pub reviewed_text : (first reads : List RecordRead) → List ℕ
reviewed_text first reads =
    if are_unread first reads then []
    else report_text (all_bad first reads) (night_before first) (filter_map night_in reads)

-- each night has a record, and the records are chained, the first to that of the archived nights
abbrev pub GoOn : (first reads : List RecordRead) → Type 0
GoOn first reads = (all_bad first reads ≡ []) × AreChained (night_before first) (filter_map night_in reads)

-- no record can be read, or they go on
abbrev pub AreClean : (first reads : List RecordRead) → Type 0
AreClean first reads = (are_unread first reads ≡ true) ⊎ GoOn first reads

-- the nights `order` of the folder `nights` were read, and this is what is said of their records; the status is 0 exactly if none has a
-- record, or all go on. `first` was read of archived nights
pub record AreReviewed (nights : List ℕ) (order : List NightMark) (text : List ℕ) (status : ℕ) : Type 0 where
  pub first : List RecordRead
  pub first_by : AllZip (IsRecordRead (archive_of nights)) (archived order) first
  pub reads : List RecordRead
  pub read_by : AllZip (IsRecordRead nights) (unarchived order) reads
  pub text_is : text ≡ reviewed_text first reads
  pub clean : (status ≡ 0) ↔ AreClean first reads
