-- Numbers of groups, of which one is among those of the groups before it.
use Rattle.std.proofs.Common.{◌≡◌, List, [], ◌∷◌, false, None, refl}
use Rattle.std.specs.List.{list_any}
use Rattle.ack_999.specs.Group.{are_same_number}
use Rattle.env_index.specs.Words.{GroupEntry}
use Rattle.set_answers.specs.Answers.{group_number}

pub none_agrees : (groups : List GroupEntry) → list_any (λ g. are_same_number None (group_number g)) groups ≡ false
none_agrees [] = refl
none_agrees (g ∷ gs) = none_agrees gs
