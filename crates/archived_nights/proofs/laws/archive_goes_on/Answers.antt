use Rattle.archived_nights.proofs.Archiving.{archive_goes_on}
use Rattle.archived_nights.proofs.laws.archive_goes_on.Goals as goal

pub returns : goal.returns
returns c = archive_goes_on
