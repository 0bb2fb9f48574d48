-- X12.5, interchange, and X12.6, functional group and transaction set: the order of places (own), as they are in the text.
use Rattle.std.specs.Prelude.{ℕ, List, [], ◌∷◌}
use Rattle.hub_kinds.specs.declared.place.Place.{Place}

-- places are ordered by interchange, by the group in it, by the set in that
abbrev pub place_key : Place → List ℕ
place_key p = p.isa ∷ p.gs ∷ p.st ∷ []
