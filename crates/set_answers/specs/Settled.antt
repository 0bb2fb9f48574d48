-- X12.5, interchange sender and control numbers: the faults of the interchanges of a text, once senders and first uses of numbers are
-- known (own: their numbers).
use Rattle.std.specs.Prelude.{ℕ, Bool, true, false, List, [], ◌∷◌, ◌++◌, map, filter, Option, Some, None, is_none}
use Rattle.hub_kinds.specs.declared.interchange.InterchangeFault.{InterchangeFault}
use Rattle.hub_kinds.specs.declared.interchange.InterchangeFault.TheVariants.{SenderUnknown, Duplicate}
use Rattle.env_index.specs.Words.{IndexEntry, with_faults}
use Rattle.partner_setup.specs.Setup.{SetupValue, sender_of}
pub use Rattle.number_register.specs.SeenNumbers.{interchange_key_of, number_key}
use Rattle.set_answers.specs.Seen.{is_among}

-- the least of the faults 1 to 8: where none of 1 to 7 is there, 8 is that no partner is the sender
abbrev pub fault_with_sender : Option InterchangeFault → (sender : Option ℕ) → Option InterchangeFault
fault_with_sender (Some fault) sender = Some fault
fault_with_sender None None = Some SenderUnknown
fault_with_sender None (Some sender) = None

abbrev pub fault_alone : SetupValue → IndexEntry → Option InterchangeFault
fault_alone setup e = fault_with_sender e.fault (sender_of setup e.interchange.header)

-- the sender of each, as its place in the setup
abbrev pub senders_of : SetupValue → List IndexEntry → List (Option ℕ)
senders_of setup es = map (λ e. sender_of setup e.interchange.header) es

-- the least of the faults 1 to 8 of each
abbrev pub faults_alone : SetupValue → List IndexEntry → List (Option InterchangeFault)
faults_alone setup es = map (fault_alone setup) es

-- the numbers of those that have none of the faults 1 to 8
abbrev pub kept_keys : SetupValue → List IndexEntry → List (List ℕ)
kept_keys setup es = map interchange_key_of (filter (λ e. is_none (fault_alone setup e)) es)

-- the numbers, and this one where it has none of these faults
abbrev pub keys_with : List (List ℕ) → Option InterchangeFault → (key : List ℕ) → List (List ℕ)
keys_with keys (Some fault) key = keys
keys_with keys None key = keys ++ key ∷ []

-- 9: the number of one of these is its number
abbrev pub fault_if_earlier : Option InterchangeFault → (earlier : Bool) → Option InterchangeFault
fault_if_earlier (Some fault) earlier = Some fault
fault_if_earlier None true = Some Duplicate
fault_if_earlier None false = None

-- the fault of an interchange after these
abbrev pub fault_behind : SetupValue → (before : List IndexEntry) → IndexEntry → Option InterchangeFault
fault_behind setup before e = fault_if_earlier (fault_alone setup e) (is_among (interchange_key_of e) (kept_keys setup before))

-- the faults of interchanges, the first of them after these
abbrev pub faults_from : SetupValue → (before : List IndexEntry) → List IndexEntry → List (Option InterchangeFault)
faults_from setup before [] = []
faults_from setup before (e ∷ es) = fault_behind setup before e ∷ faults_from setup (before ++ e ∷ []) es

-- the faults of interchanges, the first of them after those that have these numbers
abbrev pub faults_with : SetupValue → (numbers : List (List ℕ)) → List IndexEntry → List (Option InterchangeFault)
faults_with setup numbers [] = []
faults_with setup numbers (e ∷ es) =
    fault_if_earlier (fault_alone setup e) (is_among (interchange_key_of e) numbers)
    ∷ faults_with setup (keys_with numbers (fault_alone setup e) (interchange_key_of e)) es

abbrev pub settled_faults : SetupValue → List IndexEntry → List (Option InterchangeFault)
settled_faults setup es = faults_from setup [] es

-- the interchanges of an index, each with its fault of these
abbrev pub settled_entries : SetupValue → List IndexEntry → List IndexEntry
settled_entries setup es = with_faults es (settled_faults setup es)
