use Rattle.night_record.proofs.AgainRows.{text_once}
use Rattle.night_record.proofs.laws.again_reads_back.Goals as goal

pub returns : goal.returns
returns c = text_once
