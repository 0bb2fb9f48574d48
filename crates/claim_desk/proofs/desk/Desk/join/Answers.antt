use Rattle.std.proofs.Common.{rules}
use Rattle.claim_desk.proofs.Moves.{joins, looks}
use Rattle.claim_desk.proofs.desk.Desk.join.Goals as goal

pub join_seat-requires : goal.join_seat-requires
join_seat-requires c = (search rules, search rules, search rules, search rules, joins _ _ _ _ _ (search rules))

pub load-requires : goal.load-requires
load-requires c = (search rules, search rules, looks _ _ _ _)
