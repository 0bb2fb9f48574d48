use Rattle.std.proofs.Common.{rules}
use Rattle.claim_desk.proofs.Moves.{splits}
use Rattle.claim_desk.proofs.desk.Desk.split.Goals as goal

pub split_seat-other-requires : goal.split_seat-other-requires
split_seat-other-requires c = (search rules, search rules, splits _ _ _ (search rules) (search rules))
