use Rattle.std.proofs.Common.{[], arith}
use Rattle.trial_nights.proofs.setup.found.answered.Goals as goal

pub answer_found-requires-clause-sent : goal.answer_found-requires-clause-sent
answer_found-requires-clause-sent c =
    ([], c.in_ok-none.ensures.starts c.args.at.now, omega (arith, c.interchanges.ensures.few))
