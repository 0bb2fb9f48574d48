use Rattle.night_record.proofs.Once.{record_once}
use Rattle.night_record.proofs.laws.records_read_back.Goals as goal

pub returns : goal.returns
returns c = record_once
