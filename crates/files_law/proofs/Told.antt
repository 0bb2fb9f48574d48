-- The numbers of a delivered set, as they are written in its row.
use Rattle.std.proofs.Common.{ℕ, List, [], ◌∷◌}
use Rattle.std.specs.Prelude.{decimal}
use Rattle.x12_write.specs.Number.{padded_number, set_number}
use Rattle.track_table.specs.declared.mailed.Mailed.{Mailed}

abbrev pub numbers_told : Mailed → List (List ℕ)
numbers_told m = padded_number 9 m.interchange ∷ decimal m.group ∷ set_number m.set ∷ []
