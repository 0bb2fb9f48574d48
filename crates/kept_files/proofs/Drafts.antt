-- The record that a night would have: what its faults are, and the record if there is none.
use Rattle.std.proofs.Common.{◌≡◌, ◌&&◌, Bool, List, Result, Ok, Err, IfErr, true, false, map, subst, sym, true≢false}
use Rattle.std.specs.Result.{IsErrAnd}
use Rattle.night_record.specs.Record.{CanBe, are_files, is_file}
use Rattle.night_record.specs.Refused.{IsWriteFault}
use Rattle.night_record.specs.Values.{are_rising}
use Rattle.night_record.specs.declared.fault.RecordFault.{RecordFault}
use Rattle.night_record.specs.declared.fault.RecordFault.TheVariants as fault
use Rattle.night_record.specs.declared.record.NightRecord.{NightRecord}
use Rattle.night_record.specs.declared.record.SummedFile.{SummedFile}
use Rattle.night_shelf.specs.declared.night.NightFile.{NightFile}
use Rattle.std.specs.List.{list_all}
use Rattle.kept_files.specs.Files.{IsDraft, IsRecord, IsRecordFault}
use Rattle.kept_files.specs.Sums.{AreSortedSumsOf, AreSumsOf, name_of}
use Rattle.kept_files.specs.declared.heading.Heading.{Heading}

pub fault_of : (heading : Heading) (made given : List NightFile) (night : NightRecord) → IsDraft heading made given night
    → (e : RecordFault) → IsWriteFault night e → IsRecordFault heading made given e
fault_of heading made given night draft fault.Memory why = tt
fault_of heading made given night draft fault.CutOff why = why
fault_of heading made given night draft (fault.Wrong part) why = record { night = night; draft = draft; bad = why }

second : (b c : Bool) → b && c ≡ true → c ≡ true
second true c both = both
second false c both = absurd (true≢false (sym both))

sums_of : (files : List NightFile) (sums : List SummedFile) → AreSortedSumsOf files sums → are_files sums ≡ true → AreSumsOf files sums
sums_of files sums are can_be = record { all = are.all; order = second (list_all is_file sums) (are_rising (map name_of sums)) can_be }

pub record_of : (heading : Heading) (made given : List NightFile) (night : NightRecord) → IsDraft heading made given night → CanBe night
    → IsRecord heading made given night
record_of heading made given night draft can_be = record {
  can_be = can_be;
  heading_is = draft.heading_is;
  made_of = sums_of made night.made_of draft.made_of can_be.made_of;
  gave = sums_of given night.gave draft.gave can_be.gave;
}

-- a fault is handed on as it is
pub handed_on : {X : Type 0} (r : Result X RecordFault) (e : RecordFault) (P : RecordFault → Type 0) → IsErrAnd r (λ f. f ≡ e) → P e
    → IfErr r P
handed_on (Ok x) e P is why = tt
handed_on (Err f) e P is why = subst P (sym is) why
