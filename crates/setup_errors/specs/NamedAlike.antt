-- Own: partners whose name differs from an earlier one's in case alone. In a setup that is accepted a name has ASCII letters and digits
-- alone, and no two names are the same.
use Rattle.std.specs.Prelude.{ℕ, ◌+◌, List, [], ◌∷◌, ◌++◌, decimal, map, take, Option, option_and_then, option_map, slice_get}
use Rattle.std.specs.Char.{to_ascii_lowercase}
use Rattle.partner_setup.specs.Names.{place_of}
use Rattle.partner_setup.specs.declared.rows.PartnerRow.{PartnerRow}
use Rattle.setup_errors.specs.Sentences.{filled, in_place, told_at}
use Rattle.setup_errors.specs.declared.words.TheConstants as say

abbrev pub small_name : PartnerRow → List ℕ
small_name p = map to_ascii_lowercase p.name

-- the place of the first of the partners before a place whose name is the same in small letters
abbrev pub earlier_alike : List PartnerRow → (place : ℕ) → PartnerRow → Option ℕ
earlier_alike partners place p = place_of (map small_name (take place partners)) (small_name p)

-- the earlier partner by its number, from 1 on, and its name
abbrev pub alike_cause : List PartnerRow → (earlier : ℕ) → Option (List ℕ)
alike_cause partners earlier = option_map (λ p. filled say.ALIKE.now (decimal (earlier + 1) ∷ p.name ∷ [])) (slice_get partners earlier)

unfoldable pub earlier_said : List PartnerRow → (number : ℕ) → PartnerRow → (earlier : Option ℕ) → List (List ℕ)
earlier_said partners number p earlier =
    told_at (in_place say.PARTNER.now number p.name) (option_and_then (alike_cause partners) earlier)

abbrev pub alike_warning : List PartnerRow → (place : ℕ) → PartnerRow → List (List ℕ)
alike_warning partners place p = earlier_said partners (place + 1) p (earlier_alike partners place p)

-- of those of all partners that are from a place on
abbrev pub alike_from : (all : List PartnerRow) → (place : ℕ) → List PartnerRow → List (List ℕ)
alike_from all place [] = []
alike_from all place (p ∷ ps) = alike_warning all place p ++ alike_from all (place + 1) ps

abbrev pub alike_warnings : List PartnerRow → List (List ℕ)
alike_warnings partners = alike_from partners 0 partners
