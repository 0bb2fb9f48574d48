use Rattle.std.proofs.Common.{refl}
use Rattle.guide_widening.proofs.Known.{grown}
use Rattle.guide_widening.proofs.keys.insert_key.Goals as goal

pub returns : goal.returns
returns c all knows =
    grown c.args.known.now c.insert.new.self c.args.key c.args.key.items all refl c.in_ok-insert.ensures.updates knows
