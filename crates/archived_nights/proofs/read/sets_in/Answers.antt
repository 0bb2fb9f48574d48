use Rattle.archived_nights.proofs.read.sets_in.Goals as goal

pub returns-in-Err-clause-wrong : goal.returns-in-Err-clause-wrong
returns-in-Err-clause-wrong c = c.delivered_fault.ensures c.args.bytes.now c.in-Err.ensures.refused
