-- The places of small indexes: those of the interchanges without a fault, and no other.
use Rattle.std.proofs.Common.{◌≡◌, List, [], ◌∷◌, Some, None, refl}
use Rattle.hub_kinds.specs.declared.place.Place.{Place}
use Rattle.hub_kinds.specs.declared.interchange.InterchangeFault.TheVariants.{Duplicate}
use Rattle.env_index.specs.Index.{IndexEntry, IndexValue}
use Rattle.env_index.specs.Interchange.{InterchangeEntry}
use Rattle.env_index.specs.Numbers.{place_at}
use Rattle.env_index.specs.Placed.{places_of}
use Rattle.env_index.proofs.WorkedNumbers.{first_set, one_group, two_groups, twelve}

abbrev of_entries : List IndexEntry → IndexValue
of_entries es = record { text = []; entries = es; outside = 0 }

abbrev refused : InterchangeEntry → IndexEntry
refused x = record { interchange = x; fault = Some Duplicate }

abbrev kept : InterchangeEntry → IndexEntry
kept x = record { interchange = x; fault = None }

-- an interchange with a fault is counted, and has no places; a group without sets has one
second_alone : places_of
    (of_entries (refused (one_group (twelve [])) ∷ kept (two_groups (twelve (first_set ∷ first_set ∷ [])) (twelve [])) ∷ []))
    ≡ place_at 2 0 0 ∷ place_at 2 1 0 ∷ place_at 2 1 1 ∷ place_at 2 1 2 ∷ place_at 2 2 0 ∷ []
second_alone = refl

-- none where each interchange has a fault, so also not the place of the first
none_kept : (x : InterchangeEntry) (rest : List Place) → places_of (of_entries (refused x ∷ [])) ≡ place_at 1 0 0 ∷ rest → ⊥
none_kept x rest same =
    let none : (let l : List Place = [] in l) ≡ place_at 1 0 0 ∷ rest = same in
    cc
