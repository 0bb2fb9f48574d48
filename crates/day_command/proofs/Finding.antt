-- What is printed of a search, or exported, is made of the tables that were read.
use Rattle.std.proofs.Common.{◌≡◌, ◌↔◌, ◌∙◌, ℕ, Bool, true, List, [], length, subst, sym}
use Rattle.std.specs.List.{AllZip}
use Rattle.night_marks.specs.Count.{unarchived}
use Rattle.night_marks.specs.Order.{in_order}
use Rattle.night_marks.specs.declared.mark.NightMark.{NightMark}
use Rattle.night_search.specs.Search.{are_read, is_found, search_text}
use Rattle.track_read.specs.declared.export.Form.{Form}
use Rattle.track_read.specs.declared.night.NightTable.{NightTable}
use Rattle.day_command.specs.Export.{IsExport}
use Rattle.day_command.specs.Outcome.{IsExportReport, IsSearchReport}
use Rattle.night_review.specs.Nights.{AreNights}
use Rattle.day_command.specs.Tables.{IsTableAt}
use Rattle.day_command.specs.declared.export.Export.{Export}

pub searched : (nights wanted text : List ℕ) (status : ℕ) (marks order : List NightMark) (tables : List NightTable) (complete : Bool)
    → AreNights nights marks → order ≡ unarchived (in_order (length marks) [] marks) → AllZip (IsTableAt nights) order tables
    → text ≡ search_text wanted tables
    → ((complete ≡ true) ↔ ((is_found wanted tables ≡ true) × (are_read tables ≡ true))) → ((status ≡ 0) ↔ (complete ≡ true))
    → IsSearchReport nights wanted text status
searched nights wanted text status marks order tables complete marks_are ordered read_by text_is complete_is zero = record {
  tables = tables;
  tables_are = record {
    marks = marks;
    marks_are = marks_are;
    read_by = subst (λ (o : List NightMark). AllZip (IsTableAt nights) o tables) ordered read_by;
  };
  text_is = text_is;
  found = (λ is. complete_is.0 (zero.0 is), λ two. zero.1 (complete_is.1 two));
}

pub exported : (nights : List ℕ) (form : Form) (all : Export) (marks order : List NightMark) (tables : List NightTable)
    → AreNights nights marks → order ≡ unarchived (in_order (length marks) [] marks) → AllZip (IsTableAt nights) order tables
    → IsExport form tables all
    → (status : ℕ) → ((status ≡ 0) ↔ (all.all_read ≡ true)) → IsExportReport nights form all.text.items all.unread.items status
exported nights form all marks order tables marks_are ordered read_by is status zero = record {
  tables = tables;
  tables_are = record {
    marks = marks;
    marks_are = marks_are;
    read_by = subst (λ (o : List NightMark). AllZip (IsTableAt nights) o tables) ordered read_by;
  };
  text_is = is.text;
  unread_is = is.unread;
  complete = (λ is_zero. sym is.read ∙ zero.0 is_zero, λ read. zero.1 (is.read ∙ read));
}
