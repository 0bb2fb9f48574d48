-- Own: what is said of a key of a guide file, a setup file or a counters file that is refused: the place, the value and one cause. The
-- sentences are those of `src/words.rt`.
use Rattle.std.specs.Prelude.{ℕ, List, [], ◌∷◌, ◌++◌, codes, decimal, Option, None, Some, string_bytes}
use Rattle.std.specs.Prelude.{if◌then◌else◌, option_and_then, option_map}
use Rattle.std.specs.List.{list_all}
use Rattle.std.specs.Option.{option_map_or}
use Rattle.hub_kinds.specs.Words.{is_word}
use Rattle.toml.specs.Data.{Data, Items, Members, as_array, as_str, get_member}
use Rattle.toml_keys.specs.declared.file_fault.FileFault.{FileFault}
use Rattle.toml_keys.specs.declared.file_fault.FileFault.TheVariants as file
use Rattle.guide_toml.specs.ElementStops.{element_stop}
use Rattle.guide_toml.specs.declared.fault.GuideFileFault.{GuideFileFault}
use Rattle.guide_toml.specs.declared.fault.GuideFileFault.TheVariants as guide
use Rattle.guide_toml.specs.declared.stops.ElementStop.{ElementStop}
use Rattle.guide_toml.specs.declared.listed_text.ListedText.TheVariants as text
use Rattle.setup_errors.specs.Sentences.{filled, in_place}
use Rattle.key_errors.specs.Wanted.{guide_wanted, item_wanted, setup_wanted}
use Rattle.key_errors.specs.ListItems.{first_wrong, items_at}
use Rattle.key_errors.specs.Shown.{is_seen, shown}
use Rattle.key_errors.specs.Spots.{Spot, counters_spots, first_spot, guide_spot, setup_spots}
use Rattle.key_errors.specs.StopWords.{stop_words}
use Rattle.key_errors.specs.declared.key_tables.KeyFault.{KeyFault}
use Rattle.key_errors.specs.declared.key_tables.KeyFault.TheVariants as fault
use Rattle.key_errors.specs.declared.key_tables.KeyTable.{KeyTable}
use Rattle.key_errors.specs.declared.key_tables.KeyTable.TheVariants as table
use Rattle.key_errors.specs.declared.list_items.ListItem.{ListItem}
use Rattle.key_errors.specs.declared.list_items.ListItem.TheVariants as item_kind
use Rattle.key_errors.specs.declared.words.TheConstants as say

-- a text at a key, where each byte of it can be seen
abbrev pub name_of : List ℕ → List ℕ
name_of s = if list_all is_seen s then s else []

abbrev pub name_at : (key : List ℕ) → Members → List ℕ
name_at key ms = option_map_or name_of (option_and_then as_str (get_member key ms)) []

-- an id of 1 to 4 letters or digits at a key
abbrev pub id_of : List ℕ → List ℕ
id_of s = if is_word 1 4 s then s else []

abbrev pub id_at : (key : List ℕ) → Members → List ℕ
id_at key ms = option_map_or id_of (option_and_then as_str (get_member key ms)) []

abbrev pub or_other : List ℕ → List ℕ → List ℕ
or_other [] other = other
or_other (b ∷ bs) other = b ∷ bs

-- what a node is called: its segment, or its loop
abbrev pub node_name : Members → List ℕ
node_name ms = or_other (id_at (codes "seg") ms) (id_at (codes "loop") ms)

-- a table, before what is said of a key of it
abbrev pub table_words : KeyTable → (number : ℕ) → Members → List ℕ
table_words table.Setup number ms = []
table_words table.Hub number ms = say.HUB.now
table_words table.Partner number ms = in_place say.PARTNER.now number (name_at (codes "name") ms)
table_words table.Route number ms = in_place say.ROUTE.now number (name_at (codes "code") ms)
table_words table.Counters number ms = []
table_words table.Counter number ms = in_place say.COUNTER_ROW.now number (name_at (codes "partner") ms)
table_words table.Guide number ms = []
table_words table.Hierarchy number ms = say.HIERARCHY.now
table_words table.Dependency number ms = in_place say.DEPENDENCY.now number []
table_words table.Node number ms = in_place say.NODE.now number (node_name ms)

abbrev pub must_be : (wanted : List ℕ) → List ℕ
must_be wanted = filled say.MUST_BE.now (wanted ∷ [])

-- where the text of a row stops, and what must be there
abbrev pub stop_said : ElementStop → List ℕ
stop_said stop = say.AFTER.now ++ stop_words stop

abbrev pub row_said : (wanted : List ℕ) → List ℕ → List ℕ
row_said wanted s = option_map_or stop_said (element_stop s) (must_be wanted)

-- why a value can't be in a list
abbrev pub item_said : (wanted : List ℕ) → ListItem → Data → List ℕ
item_said wanted (item_kind.Guide text.Element) d = option_map_or (row_said wanted) (as_str d) (must_be wanted)
item_said wanted kind d = must_be wanted

-- a value of a list that can't be there, by its number
abbrev pub item_words : (key : List ℕ) → ListItem → ℕ × Data → List ℕ
item_words key kind w =
    filled say.WRONG_ITEM.now (decimal w.0 ∷ key ∷ shown w.1 ∷ []) ++ item_said (item_wanted key) kind w.1

-- the first such value of the list at a key, where there is one
abbrev pub wrong_item : Option ListItem → Option Items → Option (ListItem × ℕ × Data)
wrong_item None ds = None
wrong_item (Some kind) None = None
wrong_item (Some kind) (Some ds) = option_map (λ w. (kind, w.0, w.1)) (first_wrong kind 1 ds)

abbrev pub wrong_at : (key : List ℕ) → Data → Option (ListItem × ℕ × Data)
wrong_at key d = wrong_item (items_at key) (as_array d)

abbrev pub one_or_whole : (key wanted : List ℕ) → Data → Option (ListItem × ℕ × Data) → List ℕ
one_or_whole key wanted d None = filled say.WRONG_VALUE.now (key ∷ shown d ∷ wanted ∷ [])
one_or_whole key wanted d (Some w) = item_words key w.0 (w.1, w.2)

-- a value that is another than it must be: the list's value that can't be there, where there is one; else the whole value
abbrev pub wrong_words : (key wanted : List ℕ) → Option Data → List ℕ
wrong_words key wanted None = filled say.NOT_WANTED.now (key ∷ wanted ∷ [])
wrong_words key wanted (Some d) = one_or_whole key wanted d (wrong_at key d)

-- what is wrong with a key
abbrev pub fault_words : KeyFault → (key wanted : List ℕ) → Option Data → List ℕ
fault_words fault.Missing key wanted d = filled say.MISSING.now (key ∷ [])
fault_words fault.WrongKind key wanted d = wrong_words key wanted d
fault_words fault.Unknown key wanted d = filled say.UNKNOWN.now (key ∷ [])

-- the place, where there is one, and what is wrong there
abbrev pub spot_words : KeyFault → (key wanted : List ℕ) → Option Spot → List ℕ
spot_words why key wanted None = fault_words why key wanted None
spot_words why key wanted (Some s) = table_words s.0 s.1 s.2 ++ fault_words why key wanted (get_member key s.2)

abbrev pub file_key : List Spot → KeyFault → (key : List ℕ) → List ℕ
file_key spots why key = spot_words why key (setup_wanted key) (first_spot why key spots)

-- what is said of the refusal of a setup file or a counters file, by the file's tables
abbrev pub file_words : List Spot → FileFault → List ℕ
file_words spots file.NotToml = say.NO_TABLE.now
file_words spots (file.Missing key) = file_key spots fault.Missing key.now
file_words spots (file.WrongKind key) = file_key spots fault.WrongKind key.now
file_words spots (file.Unknown key) = file_key spots fault.Unknown (string_bytes key)
file_words spots file.NoMemory = say.NO_MEMORY.now

abbrev pub setup_key_words : (top : Members) → FileFault → List ℕ
setup_key_words top why = file_words (setup_spots top) why

abbrev pub counters_key_words : (top : Members) → FileFault → List ℕ
counters_key_words top why = file_words (counters_spots top) why

abbrev pub guide_key : (number : ℕ) → KeyFault → (key : List ℕ) → (top : Members) → List ℕ
guide_key number why key top = spot_words why key (guide_wanted key) (guide_spot number why key top)

-- the same of a guide file, where a key is refused
abbrev pub guide_key_words : (top : Members) → GuideFileFault → List ℕ
guide_key_words top guide.NotToml = say.NO_TABLE.now
guide_key_words top (guide.Missing key number) = guide_key number fault.Missing key.now top
guide_key_words top (guide.WrongKind key number) = guide_key number fault.WrongKind key.now top
guide_key_words top (guide.Unknown key number) = guide_key number fault.Unknown (string_bytes key) top
guide_key_words top (guide.Guide own) = say.REFUSED_GUIDE.now
guide_key_words top guide.NoMemory = say.NO_MEMORY.now
