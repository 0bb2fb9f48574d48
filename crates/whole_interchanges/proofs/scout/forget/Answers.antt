use Rattle.std.proofs.Common.{subst}
use Rattle.whole_interchanges.specs.Scouting.{Stands}
use Rattle.whole_interchanges.proofs.Forgets.{forgets}
use Rattle.whole_interchanges.proofs.scout.forget.Goals as goal

pub returns-in-Some-clause-stands : goal.returns-in-Some-clause-stands
returns-in-Some-clause-stands c = λ read stands. forgets read c.args.scout.at c.in-Some.inside c.moved_back.result
    c.moved_back.ensures.delims c.moved_back.ensures.at c.moved_back.ensures.lead c.moved_back.ensures.seen
    (subst (Stands read c.args.scout.at) c.in-Some.is stands)
