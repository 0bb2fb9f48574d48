-- Own: an ordered map of the first places of names. Private.
use Rattle.std.specs.Prelude.{◌≡◌, ℕ, List}
use Rattle.std.specs.BTreeMap.{BTreeMap, get}
use Rattle.hub_kinds.specs.Words.{by_text}
use Rattle.partner_setup.specs.Names.{place_from}
use denote.Ref.{Bor}

-- the map has the first place of each name, the first of which has this place, and no other name
abbrev pub KnowsPlaces : BTreeMap (Bor (List ℕ)) ℕ → (first : ℕ) → List (List ℕ) → Type 0
KnowsPlaces places first names = (q : Bor (List ℕ)) → get by_text places q ≡ place_from first names q.now
