use Rattle.archived_nights.proofs.Reading.{reads_back}
use Rattle.archived_nights.proofs.laws.archive_reads_back.Goals as goal

pub returns : goal.returns
returns c = reads_back c.tables_read_back.ensures.delivered c.tables_read_back.ensures.addresses
