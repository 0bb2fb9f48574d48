-- A night whose record was read is what was read.
use Rattle.std.proofs.Common.{ℕ, List, Some, subst, sym}
use Rattle.night_record.specs.Record.{IsRecordOf}
use Rattle.night_record.specs.declared.record.NightRecord.{NightRecord}
use Rattle.record_review.specs.Records.{IsNightRead, IsReadOf}
use Rattle.record_review.specs.declared.read.RecordRead.{RecordRead}

pub night_is : (folder name bytes : List ℕ) (told : NightRecord) (read : RecordRead) → IsRecordOf bytes told
    → IsNightRead folder told bytes read → IsReadOf folder name (Some bytes) read
night_is folder name bytes told read of is =
    subst (λ (r : RecordRead). IsReadOf folder name (Some bytes) r) (sym is.is_night) (record {
      record_is = subst (λ (t : NightRecord). IsRecordOf bytes t) (sym is.told_is) of;
      sum_is = is.sum_is;
      found = is.found;
    })
