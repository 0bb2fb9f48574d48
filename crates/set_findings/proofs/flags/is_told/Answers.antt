use Rattle.std.proofs.Common.{Bool, sym, subst}
use Rattle.set_findings.specs.Flags.{IsTold}
use Rattle.set_findings.proofs.Telling.{told_by}
use Rattle.set_findings.proofs.flags.is_told.Goals as goal

pub returns : goal.returns
returns c =
    subst (λ (b : Bool). IsTold c.args.full.now.index c.args.place b) (sym c.is_some.ensures)
    (told_by c.args.full.now.index c.args.place c.earlier_of.result c.earlier_of.ensures)
