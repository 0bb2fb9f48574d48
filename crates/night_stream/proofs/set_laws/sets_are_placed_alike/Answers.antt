use Rattle.night_stream.proofs.Placed.{outcomes_moved, text_moved}
use Rattle.night_stream.proofs.Sets.{answer_moved, checked_moved}
use Rattle.night_stream.proofs.set_laws.sets_are_placed_alike.Goals as goal

pub returns-clause-checked : goal.returns-clause-checked
returns-clause-checked c before behind k span is = checked_moved before behind k span is

pub returns-clause-answered : goal.returns-clause-answered
returns-clause-answered c before behind k earlier span = answer_moved before behind k earlier span

pub returns-clause-delivered : goal.returns-clause-delivered
returns-clause-delivered c before behind setup p within = outcomes_moved before behind setup p within

pub returns-clause-written : goal.returns-clause-written
returns-clause-written c before behind to p n within = text_moved before behind to p n within
