use Rattle.x12_bytes.proofs.Testing.{decides_head}
use Rattle.x12_bytes.proofs.read.head_is_tested.Goals as goal

pub returns : goal.returns
returns c text at = decides_head text at
