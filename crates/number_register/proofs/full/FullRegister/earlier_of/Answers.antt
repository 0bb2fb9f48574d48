use Rattle.std.proofs.Common.{subst}
use Rattle.number_register.specs.Recording.{IsEarlierIn, Recording}
use Rattle.number_register.proofs.full.FullRegister.earlier_of.Goals as goal

pub returns : goal.returns
returns c = subst (λ (r : Recording). IsEarlierIn r.index c.args.place c.earlier_use.result) c.self.view_is c.earlier_use.ensures
