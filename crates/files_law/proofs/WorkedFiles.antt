-- X12.5, interchange: where the interchanges of a file stand, worked out.
use Rattle.std.proofs.Common.{◌≡◌, [], ◌∷◌, refl}
use Rattle.std.specs.Prelude.{codes}
use Rattle.env_index.specs.Words.{Extent}
use Rattle.x12_write.specs.Group.{texts_in_row}
use Rattle.files_law.specs.Files.{extents_in_row}

-- of a text of four bytes and one of three, the second starts where the first ends, and ends where the file does
two_extents : extents_in_row 0 (codes "IEA~" ∷ codes "ISA" ∷ []) ≡ (let x : Extent = record { start = 0; end = 4 } in x) ∷
    (let y : Extent = record { start = 4; end = 7 } in y) ∷ []
two_extents = refl

one_file : texts_in_row (codes "IEA~" ∷ codes "ISA" ∷ []) ≡ codes "IEA~ISA"
one_file = refl

-- a file of no interchange is empty
no_extents : extents_in_row 0 [] ≡ []
no_extents = refl
