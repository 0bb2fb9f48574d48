use Rattle.guide_toml.proofs.References.{writes_references}
use Rattle.guide_toml.proofs.laws.files_write_references.Goals as goal

pub returns : goal.returns
returns c = writes_references
