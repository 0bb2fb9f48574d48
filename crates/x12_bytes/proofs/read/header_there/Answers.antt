use Rattle.x12_bytes.proofs.Testing.{decides_head}
use Rattle.x12_bytes.proofs.read.header_there.Goals as goal

pub new-requires : goal.new-requires
new-requires c = ((decides_head c.args.text.now c.args.at).0 c.requires).1
