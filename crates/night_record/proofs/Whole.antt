-- The text of a record, by its lines.
use Rattle.std.proofs.Common.{◌≡◌, ◌∙◌, ℕ, ◌<◌, ◌≤◌, List, [], ◌∷◌, ◌++◌}
use Rattle.std.proofs.Common.{ap, append-nil, arith, codes, drop, length, length-append, sym, take}
use Rattle.std.proofs.lemmas.Grind.{flat_map-append}
use Rattle.std.proofs.lemmas.List.{take-append-drop}
use Rattle.night_record.specs.Lines.{AreLinesOf, IsUnended, lines_text}
use Rattle.night_record.specs.Reading.{AfterLines, AreLinesBegun, AreRecordLines, ArePartsOf, BeginLines, IsHead, IsLinesFault, joined}
use Rattle.night_record.specs.Record.{IsRecordOf, files_lines, head_lines, record_lines, record_text}
use Rattle.night_record.specs.Refused.{Begins, IsBegun, IsNoRecord, IsReadFault, MayFollow, lines_to}
use Rattle.night_record.specs.declared.fault.Part.{Part}
use Rattle.night_record.specs.declared.fault.Part.TheVariants as part
use Rattle.night_record.specs.declared.fault.RecordFault.{RecordFault}
use Rattle.night_record.specs.declared.fault.RecordFault.TheVariants as fault
use Rattle.night_record.specs.declared.head.Head.{Head}
use Rattle.night_record.specs.declared.record.NightRecord.{NightRecord}
use Rattle.night_record.specs.declared.record.SummedFile.{SummedFile}
use Rattle.night_record.proofs.Clean.{part_clean, record_clean}
use Rattle.night_record.proofs.LineTexts.{lines_after, no_lines, same_lines}
use Rattle.night_record.proofs.Parted.{head_is}

-- the lines of a record are made of their parts
pub whole_lines : (lines : List (List ℕ)) (head : Head) (made_of gave : List SummedFile) → 8 ≤ length lines → IsHead (take 8 lines) head
    → ArePartsOf (drop 8 lines) made_of gave → AreRecordLines lines (joined head made_of gave)
whole_lines lines head made_of gave long is parts =
    let night : NightRecord = joined head made_of gave in
    let first : take 8 lines ≡ head_lines night = head_is lines head made_of gave long is in record {
      lines_are = sym (take-append-drop 8 lines) ∙ ap (λ (l : List (List ℕ)). l ++ drop 8 lines) first
          ∙ ap (λ (l : List (List ℕ)). head_lines night ++ l) parts.lines_are;
      can_be = record {
        number = is.number_can;
        name = is.name_can;
        moment = is.moment_can;
        before = is.before_can;
        status = is.status_can;
        release = is.release_can;
        clock = is.clock_can;
        made_of = parts.made_of_can;
        gave = parts.gave_can;
      };
    }

-- a text without a last line feed, and one of too few lines
pub unended_record : (bytes : List ℕ) → IsUnended bytes → IsNoRecord bytes
unended_record bytes none night is = none (record_lines night) (record_clean night is.can_be) is.text

pub short_record : (bytes : List ℕ) (lines : List (List ℕ)) → AreLinesOf bytes lines → length lines < 12 → IsNoRecord bytes
short_record bytes lines are short night is =
    let same : lines ≡ record_lines night =
    same_lines lines (record_lines night) are.each (record_clean night is.can_be) (sym are.text_is ∙ is.text) in
    let size : length lines ≡ length (record_lines night) = ap (λ (l : List (List ℕ)). length l) same in
    let made = files_lines (codes "[made_of]") night.made_of in
    let gave = files_lines (codes "[gave]") night.gave in
    omega (arith, short, size, length-append (head_lines night) (made ++ gave), length-append made gave)

-- what comes after a part
after_part : (last : Part) (rest : List ℕ) (left : List (List ℕ)) → lines_text left ≡ rest → MayFollow last rest → AfterLines last left
after_part part.Version rest left is may = tt
after_part part.Number rest left is may = tt
after_part part.Name rest left is may = tt
after_part part.Moment rest left is may = tt
after_part part.Before rest left is may = tt
after_part part.Status rest left is may = tt
after_part part.Release rest left is may = tt
after_part part.Clock rest left is may = tt
after_part part.MadeOf rest left is may = tt
after_part part.Gave rest left is may = no_lines left (is ∙ may)

-- a text begins as its lines do
lines_begin : (bytes : List ℕ) (lines : List (List ℕ)) → AreLinesOf bytes lines → (last : Part) → Begins last bytes → BeginLines
    last lines
lines_begin bytes lines are last begins =
    let after = lines_after lines (lines_to last begins.night) begins.rest are.each (part_clean last begins.night begins.can_be)
    (sym are.text_is ∙ begins.text) in record {
      night = begins.night;
      rest = after.rest;
      can_be = begins.can_be;
      lines_are = after.lines_are;
      after = after_part last begins.rest after.rest after.text begins.after;
    }

-- a text begins as its lines do, the other way round
bytes_begin : (bytes : List ℕ) (lines : List (List ℕ)) → AreLinesOf bytes lines → (last : Part)
    → ((rest : List ℕ) → MayFollow last rest) → BeginLines last lines → Begins last bytes
bytes_begin bytes lines are last may begins = record {
  night = begins.night;
  rest = lines_text begins.rest;
  can_be = begins.can_be;
  text = are.text_is ∙ ap lines_text begins.lines_are
      ∙ flat_map-append (λ (line : List ℕ). line ++ 10 ∷ []) (lines_to last begins.night) begins.rest;
  after = may (lines_text begins.rest);
}

bytes_begun : (bytes : List ℕ) (lines : List (List ℕ)) → AreLinesOf bytes lines → (wrong : Part) → AreLinesBegun wrong lines
    → IsBegun wrong bytes
bytes_begun bytes lines are part.Version is = tt
bytes_begun bytes lines are part.Number is = bytes_begin bytes lines are part.Version (λ rest. tt) is
bytes_begun bytes lines are part.Name is = bytes_begin bytes lines are part.Number (λ rest. tt) is
bytes_begun bytes lines are part.Moment is = bytes_begin bytes lines are part.Name (λ rest. tt) is
bytes_begun bytes lines are part.Before is = bytes_begin bytes lines are part.Moment (λ rest. tt) is
bytes_begun bytes lines are part.Status is = bytes_begin bytes lines are part.Before (λ rest. tt) is
bytes_begun bytes lines are part.Release is = bytes_begin bytes lines are part.Status (λ rest. tt) is
bytes_begun bytes lines are part.Clock is = bytes_begin bytes lines are part.Release (λ rest. tt) is
bytes_begun bytes lines are part.MadeOf is = bytes_begin bytes lines are part.Clock (λ rest. tt) is
bytes_begun bytes lines are part.Gave is = bytes_begin bytes lines are part.MadeOf (λ rest. tt) is

pub lines_fail : (bytes : List ℕ) (lines : List (List ℕ)) → AreLinesOf bytes lines → (e : RecordFault) → IsLinesFault lines e
    → IsReadFault bytes e
lines_fail bytes lines are fault.Memory is = tt
lines_fail bytes lines are fault.CutOff is = absurd is
lines_fail bytes lines are (fault.Wrong wrong) is =
    (bytes_begun bytes lines are wrong is.0, λ begins. is.1 (lines_begin bytes lines are wrong begins))

-- the text is that of the record
pub text_of_lines : (bytes : List ℕ) (lines : List (List ℕ)) → AreLinesOf bytes lines → (night : NightRecord) → AreRecordLines lines night
    → IsRecordOf bytes night
text_of_lines bytes lines are night is = record { text = are.text_is ∙ ap lines_text is.lines_are; can_be = is.can_be }

-- the text of a record in four pieces
pub in_pieces : (night : NightRecord)
    → lines_text (take 4 (head_lines night)) ++ (lines_text (drop 4 (head_lines night))
    ++ (lines_text (files_lines (codes "[made_of]") night.made_of) ++ (lines_text (files_lines (codes "[gave]") night.gave) ++ [])))
    ≡ record_text night
in_pieces night =
    let f : List ℕ → List ℕ = λ line. line ++ 10 ∷ [] in
    let a = take 4 (head_lines night) in
    let b = drop 4 (head_lines night) in
    let made = files_lines (codes "[made_of]") night.made_of in
    let gave = files_lines (codes "[gave]") night.gave in
    ap (λ (t : List ℕ). lines_text a ++ (lines_text b ++ (lines_text made ++ t))) (append-nil (lines_text gave))
    ∙ ap (λ (t : List ℕ). lines_text a ++ (lines_text b ++ t)) (sym (flat_map-append f made gave))
    ∙ ap (λ (t : List ℕ). lines_text a ++ t) (sym (flat_map-append f b (made ++ gave)))
    ∙ sym (flat_map-append f a (b ++ (made ++ gave)))
