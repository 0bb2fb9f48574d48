-- Own: what is said of each key of a file's tables that can't be, table by table: the least key that a table may not have, and then, in the
-- order of its keys, those that are missing or have another value than they have to.
use Rattle.std.specs.Prelude.{ℕ, Bool, true, false, List, [], ◌∷◌, ◌++◌, Option, None, Some, if◌then◌else◌}
use Rattle.std.specs.List.{flat_map}
use Rattle.toml.specs.Data.{Data, Members, get_member}
use Rattle.toml_keys.specs.Keys.{least_unknown}
use Rattle.key_errors.specs.KeyForms.{form_of, is_free, own_keys, stands}
use Rattle.key_errors.specs.KeyWords.{spot_words}
use Rattle.key_errors.specs.Spots.{Spot, counters_spots, guide_spots, setup_spots}
use Rattle.key_errors.specs.Wanted.{guide_wanted, setup_wanted}
use Rattle.key_errors.specs.declared.key_tables.KeyFault.{KeyFault}
use Rattle.key_errors.specs.declared.key_tables.KeyFault.TheVariants as fault
use Rattle.key_errors.specs.declared.key_tables.KeyTable.{KeyTable}
use Rattle.key_errors.specs.declared.key_tables.KeyTable.TheVariants as table

-- a table of a guide file
abbrev pub is_of_guide : KeyTable → Bool
is_of_guide table.Setup = false
is_of_guide table.Hub = false
is_of_guide table.Partner = false
is_of_guide table.Route = false
is_of_guide table.Counters = false
is_of_guide table.Counter = false
is_of_guide table.Guide = true
is_of_guide table.Hierarchy = true
is_of_guide table.Dependency = true
is_of_guide table.Node = true

abbrev pub wanted_at : KeyTable → (key : List ℕ) → List ℕ
wanted_at kind key = if is_of_guide kind then guide_wanted key else setup_wanted key

-- what is wrong at a key
abbrev pub key_fault : KeyTable → (key : List ℕ) → Option Data → Option KeyFault
key_fault kind key None = if is_free kind key then None else Some fault.Missing
key_fault kind key (Some d) = if stands (form_of kind key) d then None else Some fault.WrongKind

abbrev pub key_sentence : Spot → KeyFault → (key : List ℕ) → List ℕ
key_sentence s why key = spot_words why key (wanted_at s.0 key) (Some s)

abbrev pub sentence_of : Spot → Option KeyFault → (key : List ℕ) → List (List ℕ)
sentence_of s None key = []
sentence_of s (Some why) key = key_sentence s why key ∷ []

abbrev pub key_said : Spot → (key : List ℕ) → List (List ℕ)
key_said s key = sentence_of s (key_fault s.0 key (get_member key s.2)) key

abbrev pub unknown_said : Spot → (unknown : Option (List ℕ)) → List (List ℕ)
unknown_said s None = []
unknown_said s (Some key) = key_sentence s fault.Unknown key ∷ []

abbrev pub spot_said : Spot → List (List ℕ)
spot_said s = unknown_said s (least_unknown (own_keys s.0 s.2) s.2) ++ flat_map (key_said s) (own_keys s.0 s.2)

abbrev pub keys_said : List Spot → List (List ℕ)
keys_said spots = flat_map spot_said spots

abbrev pub setup_keys_said : Members → List (List ℕ)
setup_keys_said top = keys_said (setup_spots top)

abbrev pub counters_keys_said : Members → List (List ℕ)
counters_keys_said top = keys_said (counters_spots top)

abbrev pub guide_keys_said : Members → List (List ℕ)
guide_keys_said top = keys_said (guide_spots top)
