use Rattle.std.proofs.Common.{rules}
use Rattle.claim_desk.proofs.Moves.{claims}
use Rattle.claim_desk.proofs.desk.Desk.claim.Goals as goal

pub fetch_add-number-requires : goal.fetch_add-number-requires
fetch_add-number-requires c = (search rules, search rules, claims _ _ _ _ (search rules) (search rules))
