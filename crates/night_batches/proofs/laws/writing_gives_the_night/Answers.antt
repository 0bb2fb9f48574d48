use Rattle.night_batches.proofs.Joining.{night_of_written}
use Rattle.night_batches.proofs.laws.writing_gives_the_night.Goals as goal

pub returns : goal.returns
returns c text setup at known w night written by = night_of_written text setup at known w written night by
