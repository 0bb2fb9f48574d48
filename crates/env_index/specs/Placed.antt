-- X12.5, interchange, and X12.6, functional group and transaction set: the places of a settled index (own).
use Rattle.std.specs.Prelude.{ℕ, ◌+◌, ◌≤◌, List, [], ◌∷◌, ◌++◌, map, length, is_none}
use Rattle.std.specs.List.{All}
use Rattle.hub_kinds.specs.declared.limits.TheConstants.{LONGEST_TEXT}
use Rattle.hub_kinds.specs.declared.place.Place.{Place}
use Rattle.env_index.specs.Index.{IndexEntry, IndexValue}
use Rattle.env_index.specs.Interchange.{InterchangeEntry}
use Rattle.env_index.specs.Numbers.{Numbered, kept_places}

-- the places of the interchanges without a fault; each interchange is counted, also one with a fault
abbrev pub places_behind : ℕ → List IndexEntry → List Numbered
places_behind isa [] = []
places_behind isa (e ∷ es) = kept_places (is_none e.fault) isa e.interchange ++ places_behind (isa + 1) es

abbrev pub place_in : Numbered → Place
place_in n = n.place

abbrev pub places_of : IndexValue → List Place
places_of index = map place_in (places_behind 1 index.entries)

-- its groups, and the sets of each, can be counted in 32 bits (for inner clauses; no public clause cites it)
pub record AreFew (x : InterchangeEntry) : Type 0 where
  pub groups : length x.content.groups ≤ LONGEST_TEXT
  pub sets : All (λ group. length group.sets ≤ LONGEST_TEXT) x.content.groups
