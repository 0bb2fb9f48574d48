use Rattle.guide_toml.proofs.WrittenElements.{element_back}
use Rattle.guide_toml.proofs.laws.written_row_is_read_back.Goals as goal

pub returns : goal.returns
returns c = element_back
