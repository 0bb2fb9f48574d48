-- The program's results (own): what is printed of the nights in the folder that the arguments name, and the status.
use Rattle.std.specs.Prelude.{ℕ, ◌≡◌, ◌↔◌, ◌⊎◌, ◌++◌, true, List, [], Option, Some, None, codes, length}
use Rattle.std.specs.List.{AllZip, filter_map}
use Rattle.std.specs.Io.KnownBytes.{Appends}
use Rattle.clap.specs.Words.{Text}
use Rattle.system_io.specs.Outbox.{path_in}
use Rattle.hub_ledger.specs.declared.entry.NightEntry.{NightEntry}
use Rattle.night_breaches.specs.Breaches.{last_name}
use Rattle.night_folder.specs.Files.{FileValue, first_line}
use Rattle.night_folder.specs.Nights.{IsRead, bad_in, entry_in}
use Rattle.night_marks.specs.Order.{in_order}
use Rattle.night_marks.specs.declared.mark.NightMark.{NightMark}
use Rattle.night_folder.specs.declared.night.NightRead.{NightRead}
use Rattle.night_search.specs.Lines.{unread_lines}
use Rattle.night_search.specs.Search.{are_read, is_found, search_text}
use Rattle.program_frame.specs.Matching.{AsksForText}
use Rattle.sets_again.specs.declared.wanted.Wanted.{Wanted}
use Rattle.track_read.specs.declared.export.Form.{Form}
use Rattle.track_read.specs.declared.night.NightTable.{NightTable}
use Rattle.day_command.specs.CommandLine.{Request, again, check, day_app, export, find, page, request_of, value_of}
use Rattle.day_command.specs.Again.{IsAgainOf}
use Rattle.day_command.specs.Export.{export_text}
use Rattle.day_command.specs.declared.again.Again.{Again}
use Rattle.night_review.specs.GoingOn.{IsJudged}
use Rattle.day_command.specs.Page.{IsPageReport}
use Rattle.night_review.specs.Nights.{AreNights}
use Rattle.day_command.specs.Tables.{AreTables}
use Rattle.record_review.specs.Reviewed.{AreReviewed}

-- the night that is named last; a folder without a file .last names the last night that was read
abbrev pub named_last : (last : Option (List ℕ)) → List NightEntry → List ℕ
named_last None entries = last_name entries
named_last (Some bytes) entries = first_line bytes

-- the nights `order` of a folder were read, and this is what is said of them
pub record AreJudged (nights : List ℕ) (order : List NightMark) (text : List ℕ) (status : ℕ) : Type 0 where
  pub reads : List NightRead
  pub read_by : AllZip (IsRead nights) order reads
  pub last : FileValue
  pub last_at : last.path ≡ path_in nights (codes ".last")
  pub limit : List ℕ
  pub judged : IsJudged limit (named_last last.bytes (filter_map entry_in reads)) order (filter_map entry_in reads)
      (filter_map bad_in reads) text status

-- what is said of nights, and after it of their records; the status is 0 exactly if both are right
pub record IsBoth (of_nights of_records : List ℕ) (nights_status records_status : ℕ) (text : List ℕ) (status : ℕ) : Type 0 where
  pub text_is : text ≡ of_nights ++ of_records
  pub clean : (status ≡ 0) ↔ ((nights_status ≡ 0) × (records_status ≡ 0))

-- the folder was listed, its nights and their records were read in their order, and this is what is said of them
pub record IsReport (nights text : List ℕ) (status : ℕ) : Type 0 where
  pub marks : List NightMark
  pub marks_are : AreNights nights marks
  pub order : List NightMark
  pub ordered : order ≡ in_order (length marks) [] marks
  pub of_nights : List ℕ
  pub nights_status : ℕ
  pub judged : AreJudged nights order of_nights nights_status
  pub of_records : List ℕ
  pub records_status : ℕ
  pub reviewed : AreReviewed nights order of_records records_status
  pub both : IsBoth of_nights of_records nights_status records_status text status

-- such a text is what was printed
pub record IsChecked (nights : List ℕ) (status : ℕ) (was is : Option (List ℕ)) : Type 0 where
  pub text : List ℕ
  pub report : IsReport nights text status
  pub printed : Appends was is text

-- what is printed of a search of the tables of the nights, and the status: 0 exactly if a row has the text, and each table was read
pub record IsSearchReport (nights wanted text : List ℕ) (status : ℕ) : Type 0 where
  pub tables : List NightTable
  pub tables_are : AreTables nights tables
  pub text_is : text ≡ search_text wanted tables
  pub found : (status ≡ 0) ↔ ((is_found wanted tables ≡ true) × (are_read tables ≡ true))

-- such a text is what was printed
pub record IsSearched (nights wanted : List ℕ) (status : ℕ) (was is : Option (List ℕ)) : Type 0 where
  pub text : List ℕ
  pub searched : IsSearchReport nights wanted text status
  pub printed : Appends was is text

-- what is printed of the tables of the nights, on standard output and on standard error; the status is 0 exactly if each table was read
pub record IsExportReport (nights : List ℕ) (form : Form) (text unread : List ℕ) (status : ℕ) : Type 0 where
  pub tables : List NightTable
  pub tables_are : AreTables nights tables
  pub text_is : text ≡ export_text form tables
  pub unread_is : unread ≡ unread_lines tables
  pub complete : (status ≡ 0) ↔ (are_read tables ≡ true)

-- such texts are what was printed
pub record IsExported (nights : List ℕ) (form : Form) (status : ℕ) (was is err_was err_is : Option (List ℕ)) : Type 0 where
  pub text : List ℕ
  pub unread : List ℕ
  pub exported : IsExportReport nights form text unread status
  pub printed : Appends was is text
  pub named : Appends err_was err_is unread

-- such a page is what was printed
pub record IsPaged (nights night : List ℕ) (status : ℕ) (was is : Option (List ℕ)) : Type 0 where
  pub text : List ℕ
  pub report : IsPageReport nights night text status
  pub printed : Appends was is text

-- the sets that go in again were printed, or the line that there is none; the status is 0 exactly if there is one
pub record IsPrintedAgain (nights night : List ℕ) (which : Wanted) (status : ℕ) (was is err_was err_is : Option (List ℕ)) : Type 0 where
  pub sets : Again
  pub sets_are : IsAgainOf nights night which sets
  pub found : (status ≡ 0) ↔ (sets.is_found ≡ true)
  pub printed : Appends was is sets.text.items
  pub said : Appends err_was err_is sets.line.items

-- a text was shown that the arguments ask for
pub record IsShownText (words : List Text) (status : ℕ) (was is : Option (List ℕ)) : Type 0 where
  pub asked : AsksForText day_app words
  pub text : List ℕ
  pub printed : Appends was is text
  pub own_status : status ≡ 0

-- what was done with the nights
abbrev pub IsDone : Request → (status : ℕ) → (was is err_was err_is : Option (List ℕ)) → Type 0
IsDone (check nights) status was is err_was err_is = IsChecked nights status was is
IsDone (find nights wanted) status was is err_was err_is = IsSearched nights wanted status was is
IsDone (page nights night) status was is err_was err_is = IsPaged nights night status was is
IsDone (again nights night which) status was is err_was err_is = IsPrintedAgain nights night which status was is err_was err_is
IsDone (export nights form) status was is err_was err_is = IsExported nights form status was is err_was err_is

-- what the arguments ask for was done, or such a text was shown
abbrev pub IsRun : (words : List Text) → (status : ℕ) → (was is err_was err_is : Option (List ℕ)) → Type 0
IsRun words status was is err_was err_is =
    ((request : Request) × (request_of (value_of words) ≡ Some request) × IsDone request status was is err_was err_is)
    ⊎ IsShownText words status was is

-- the arguments ask for an export
abbrev pub AsksForExport : (words : List Text) → Type 0
AsksForExport words = (nights : List ℕ) × (form : Form) × (request_of (value_of words) ≡ Some (export nights form))

-- or for sets that go in again
abbrev pub AsksForAgain : (words : List Text) → Type 0
AsksForAgain words =
    (nights : List ℕ) × (night : List ℕ) × (which : Wanted) × (request_of (value_of words) ≡ Some (again nights night which))
