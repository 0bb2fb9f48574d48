use Rattle.night_equal_read.proofs.FileReferences.{references}
use Rattle.night_equal_read.proofs.laws.file_references_are_plain.Goals as goal

pub returns : goal.returns
returns c = references
