use Rattle.std.proofs.Common.{Some, refl}
use Rattle.guide_toml.proofs.ForAbove.{guide_fault_is, guide_is}
use Rattle.hub_tonight.proofs.Refusing.{guide_refused}
use Rattle.hub_tonight.proofs.made.guide_of.Goals as goal

pub returns-in-Ok-clause-guide : goal.returns-in-Ok-clause-guide
returns-in-Ok-clause-guide c =
    guide_is (Some c.args.bytes.now) c.args.bytes.now c.in-Ok.guide refl c.in-Ok.ensures.table c.in-Ok.ensures.not_toml

pub returns-in-Err-clause-refused : goal.returns-in-Err-clause-refused
returns-in-Err-clause-refused c =
    rw (c.of_guide.ensures)
    (guide_refused c.args.place c.args.bytes.now c.in-Err.fault
    (λ memory. guide_fault_is c.args.bytes.now c.in-Err.fault c.in-Err.ensures.table c.in-Err.ensures.not_toml memory))
