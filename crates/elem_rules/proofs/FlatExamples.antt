-- Flat rows and masks computed on worked examples.
use Rattle.std.proofs.Common.{◌≡◌, ℕ, List, [], ◌∷◌, map, true, false, refl}
use Rattle.std.specs.Prelude.{codes}
use Rattle.guide_tree.specs.declared.slot.Relation.TheVariants as relation
use Rattle.elem_rules.specs.declared.flat_row.FlatKind.TheVariants as kind
use Rattle.elem_rules.specs.declared.flat_row.FlatRow.{FlatRow}
use Rattle.elem_rules.specs.Flat.{code_number, holds_by, is_sure}

abbrev numbers : List ℕ
numbers = map code_number (codes "ZZ" ∷ codes "ST" ∷ codes "BT" ∷ [])

-- of 2 or 3 characters; its codes are the second and the third of the table
abbrev qualifier : FlatRow
qualifier = record { least = 2; span = 1; from = 1; count = 2; kind = kind.Listed }

own_codes : (is_sure qualifier numbers (codes "ST") ≡ true) × (is_sure qualifier numbers (codes "BT") ≡ true)
    × (is_sure qualifier numbers (codes "ZZ") ≡ false) × (is_sure qualifier numbers (codes "BTX") ≡ false)
own_codes = (refl, refl, refl, refl)

-- of 1 to 5 digits; a number with a sign is left to its row
abbrev amount : FlatRow
amount = record { least = 1; span = 4; from = 0; count = 0; kind = kind.Decimal }

digits : (is_sure amount [] (codes "1250.5") ≡ true) × (is_sure amount [] (codes "125000") ≡ false)
    × (is_sure amount [] (codes "-1") ≡ false) × (is_sure amount [] (codes "1.2.3") ≡ false)
digits = (refl, refl, refl, refl)

-- P of elements 1 and 2: both, one, none
paired : (holds_by relation.Paired 0 6 6 ≡ true) × (holds_by relation.Paired 0 6 2 ≡ false) × (holds_by relation.Paired 0 6 8 ≡ true)
paired = (refl, refl, refl)

-- C of element 1 and the elements 2 and 3: all, without element 3, without element 1
conditional : (holds_by relation.Conditional 2 12 14 ≡ true) × (holds_by relation.Conditional 2 12 6 ≡ false)
    × (holds_by relation.Conditional 2 12 4 ≡ true)
conditional = (refl, refl, refl)
