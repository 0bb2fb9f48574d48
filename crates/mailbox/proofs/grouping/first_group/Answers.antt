use Rattle.mailbox.proofs.Groups.{first_group_of}
use Rattle.mailbox.proofs.grouping.first_group.Goals as goal

pub returns-clause-first : goal.returns-clause-first
returns-clause-first c = first_group_of c.args.sets.now c.run_len.result c.requires c.run_len.ensures.value
