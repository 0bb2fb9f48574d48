-- The faults 1 to 8 of small interchanges, and the places of the index that is settled with them.
use Rattle.std.proofs.Common.{◌≡◌, ℕ, Bool, true, false, List, [], ◌∷◌, Some, None, refl}
use Rattle.hub_kinds.specs.declared.interchange.InterchangeFault.TheVariants.{TrailerMissing, SenderUnknown}
use Rattle.env_index.specs.Index.{IndexEntry}
use Rattle.env_index.specs.IndexPlaces.{fault_or_unknown, faults_to_eight}
use Rattle.env_index.specs.Interchange.{InterchangeEntry}
use Rattle.env_index.specs.Numbers.{place_at}
use Rattle.env_index.specs.Placed.{place_in, places_behind}
use Rattle.env_index.specs.Settled.{with_faults}
use Rattle.env_index.proofs.WorkedNumbers.{first_set, one_group, twelve}
use Rattle.std.specs.Prelude.{map}

abbrev everyone : List ℕ → Bool
everyone sender = true

abbrev nobody : List ℕ → Bool
nobody sender = false

abbrev unsettled : InterchangeEntry → IndexEntry
unsettled x = record { interchange = x; fault = None }

abbrev entries : List IndexEntry
entries = unsettled (one_group (twelve (first_set ∷ []))) ∷ []

an_unknown_sender : fault_or_unknown None false ≡ Some SenderUnknown
an_unknown_sender = refl

a_known_sender : fault_or_unknown None true ≡ None
a_known_sender = refl

a_lower_fault_stays : (known : Bool) → fault_or_unknown (Some TrailerMissing) known ≡ Some TrailerMissing
a_lower_fault_stays known = refl

places_of_a_known_sender : map place_in (places_behind 1 (with_faults entries (faults_to_eight everyone entries)))
    ≡ place_at 1 0 0 ∷ place_at 1 1 0 ∷ place_at 1 1 1 ∷ []
places_of_a_known_sender = refl

places_of_an_unknown_sender : map place_in (places_behind 1 (with_faults entries (faults_to_eight nobody entries))) ≡ []
places_of_an_unknown_sender = refl
