use Rattle.std.proofs.Common.{rules, tests, ap}
use Rattle.std.specs.Prelude.{not}
use Rattle.std.proofs.lemmas.Iterator.{YieldsList-from_slice}
use Rattle.std.proofs.lemmas.Iterator.Search.{any_from_yields_List}
use Rattle.ack_999.specs.Report.{hides_sets}
use Rattle.ack_999.proofs.counts.shows_sets.Goals as goal

pub returns : goal.returns
returns c = ap not (any_from_yields_List hides_sets _ _ c.any.result c.any.ensures.ran (YieldsList-from_slice c.args.codes.now (cc))
    (λ x b q k. search (rules, tests)))
