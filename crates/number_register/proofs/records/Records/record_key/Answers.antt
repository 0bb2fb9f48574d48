use Rattle.number_register.proofs.Places.{placed}
use Rattle.number_register.proofs.records.Records.record_key.Goals as goal

pub holds-requires : goal.holds-requires
holds-requires c = placed c.args.self.now.index c.args.place c.requires.place
