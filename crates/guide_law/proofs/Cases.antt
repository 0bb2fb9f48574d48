-- Cases of what is one of two, where the goal is left to be found.
use Rattle.std.proofs.Common.{◌⊎◌, ⊎_elim}

pub pick : {A B C : Type 0} → A ⊎ B → (A → C) → (B → C) → C
pick x f g = ⊎_elim f g x
