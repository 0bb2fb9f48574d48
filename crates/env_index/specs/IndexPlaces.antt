-- X12.5, interchange, and X12.6, functional group and transaction set: the index places of a text by its settled index (own).
use Rattle.std.specs.Prelude.{◌≡◌, ℕ, Bool, List, map, Option, Some, None, if◌then◌else◌}
use Rattle.hub_kinds.specs.declared.interchange.InterchangeFault.{InterchangeFault}
use Rattle.hub_kinds.specs.declared.interchange.InterchangeFault.TheVariants.{SenderUnknown}
use Rattle.env_index.specs.Faults.{fault_of}
use Rattle.env_index.specs.Index.{IndexEntry, IndexValue}
use Rattle.env_index.specs.Interchange.{InterchangeEntry}
use Rattle.env_index.specs.Numbers.{index_places}
use Rattle.env_index.specs.Placed.{places_behind}
use Rattle.env_index.specs.Settled.{settled}

-- where none of the faults 1 to 7 is there, 8 is that the sender isn't known
abbrev pub fault_or_unknown : Option InterchangeFault → (known : Bool) → Option InterchangeFault
fault_or_unknown (Some fault) known = Some fault
fault_or_unknown None known = if known then None else Some SenderUnknown

-- the least of the faults 1 to 8 of each interchange
abbrev pub faults_to_eight : (List ℕ → Bool) → List IndexEntry → List (Option InterchangeFault)
faults_to_eight knows es = map (λ e. fault_or_unknown (fault_of e.interchange) (knows e.interchange.header)) es

abbrev pub interchanges_of : List IndexEntry → List InterchangeEntry
interchanges_of es = map (λ e. e.interchange) es

-- the places of the index that is settled with these faults are the index places of its interchanges
abbrev pub PlacesAreIndexPlaces : (List ℕ → Bool) → IndexValue → Type 0
PlacesAreIndexPlaces knows index =
    places_behind 1 (settled index (faults_to_eight knows index.entries)).entries ≡ index_places knows (interchanges_of index.entries)
