use Rattle.csv_fields.specs.Csv.{read}
use Rattle.night_record.specs.Reading.{IsPartsFault}
use Rattle.night_record.proofs.Parted.{gave_wrong}
use Rattle.night_record.proofs.Passing.{same_fault}
use Rattle.night_record.proofs.parts.read_parts.Goals as goal

pub returns-in_err-gave-clause-refused : goal.returns-in_err-gave-clause-refused
returns-in_err-gave-clause-refused c =
    same_fault c.from_residual-in_err-gave.result c.in_err-gave.field-0.0 (IsPartsFault (read c.args.lines.now))
    c.from_residual-in_err-gave.ensures.1
    (gave_wrong (read c.args.lines.now) (read c.in_ok-made_of.rest.now) c.in_ok-made_of.made_of.items c.in_ok-made_of.ensures.files
    c.in_err-gave.field-0.0 c.in_err-gave.ensures.refused)
