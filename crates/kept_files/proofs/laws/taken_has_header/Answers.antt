use Rattle.std.proofs.Common.{◌≡◌, ◌+◌, ◌-◌, ◌≤◌, List, [], ◌∷◌, ◌++◌, ℕ, arith, drop, length}
use Rattle.std.specs.Prelude.{slice_range}
use Rattle.std.proofs.lemmas.List.{length-drop, length-take}
use Rattle.night_definition.specs.Header.{field}
use Rattle.night_entries.specs.Keys.{address_or_none}
use Rattle.kept_files.proofs.Widths.{cut}
use Rattle.kept_files.proofs.laws.taken_has_header.Goals as goal

-- a part that a header has
wide : (header : List ℕ) (start width : ℕ) → start + width ≤ length header → length (slice_range header start (start + width)) ≡ width
wide header start width low =
    omega (arith, length-take (start + width - start) (drop start header), length-drop start header, low)

pub returns : goal.returns
returns c = λ header group set receiver long.
    cut (field 5 header) (field 6 header) (field 7 header) (field 8 header) (field 13 header)
    (group ++ (0 ∷ []) ++ (set ++ (0 ∷ []) ++ address_or_none receiver)) (wide header 32 2 (omega (arith, long)))
    (wide header 35 15 (omega (arith, long))) (wide header 51 2 (omega (arith, long))) (wide header 54 15 (omega (arith, long)))
    (wide header 90 9 (omega (arith, long)))
