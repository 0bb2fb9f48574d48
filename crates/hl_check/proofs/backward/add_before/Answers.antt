use Rattle.std.proofs.Common.{sym}
use Rattle.std.proofs.lemmas.Result.{on_ok_weaker}
use Rattle.x12_segs.specs.Words.{elements_of}
use Rattle.hl_check.proofs.backward.add_before.Goals as goal

pub returns-clause-named : goal.returns-clause-named
returns-clause-named c =
    on_ok_weaker c.add_named.result
    (λ added later knows. added later (elements_of c.args.hl.now.seg.now) (sym c.first_elements.ensures.second) knows)
    c.add_named.ensures
