-- Own: the tables of a file, in the order in which they are read, and the one in which a refused key is: the first of which the refusal
-- holds.
use Rattle.std.specs.Prelude.{ℕ, ◌+◌, ◌==◌, List, [], ◌∷◌, ◌++◌, codes, Option, None, Some, if◌then◌else◌, option_and_then}
use Rattle.std.specs.List.{find}
use Rattle.std.specs.Option.{option_map_or}
use Rattle.toml.specs.Data.{Items, Members, as_array, as_table, get_member, item, no_items}
use Rattle.key_errors.specs.Holds.{holds}
use Rattle.key_errors.specs.NodeTables.{inner_tables, node_table}
use Rattle.key_errors.specs.declared.key_tables.KeyFault.{KeyFault}
use Rattle.key_errors.specs.declared.key_tables.KeyTable.{KeyTable}
use Rattle.key_errors.specs.declared.key_tables.KeyTable.TheVariants as table

-- a table: what it writes, its number among those at one key, from 1 on, and what it has
abbrev pub Spot : Type 0
Spot = KeyTable × ℕ × Members

abbrev pub one_spot : KeyTable → (number : ℕ) → Option Members → List Spot
one_spot kind number ms = option_map_or (λ own. (kind, number, own) ∷ []) ms []

-- the tables at a key of the top table: the one there, or the rows, the first of which has this number
abbrev pub inner_spots : KeyTable → (inner : List ℕ) → Members → List Spot
inner_spots kind inner top = one_spot kind 0 (option_and_then as_table (get_member inner top))

abbrev pub row_spots : KeyTable → (number : ℕ) → Items → List Spot
row_spots kind number no_items = []
row_spots kind number (item d ds) = one_spot kind number (as_table d) ++ row_spots kind (number + 1) ds

abbrev pub rows_spots : KeyTable → (rows : List ℕ) → Members → List Spot
rows_spots kind rows top = option_map_or (row_spots kind 1) (option_and_then as_array (get_member rows top)) []

abbrev pub node_spots : (number : ℕ) → List Members → List Spot
node_spots number [] = []
node_spots number (ms ∷ mss) = (table.Node, number, ms) ∷ node_spots (number + 1) mss

-- the tables of each file, in the order in which they are read
abbrev pub setup_spots : Members → List Spot
setup_spots top =
    (table.Setup, 0, top)
    ∷ (inner_spots table.Hub (codes "hub") top
    ++ (rows_spots table.Partner (codes "partner") top ++ rows_spots table.Route (codes "route") top))

abbrev pub counters_spots : Members → List Spot
counters_spots top = (table.Counters, 0, top) ∷ rows_spots table.Counter (codes "counter") top

-- a guide file's top table, `hl`, the dependencies
abbrev pub head_spots : Members → List Spot
head_spots top =
    (table.Guide, 0, top) ∷ (inner_spots table.Hierarchy (codes "hl") top ++ rows_spots table.Dependency (codes "depends") top)

abbrev pub guide_spots : Members → List Spot
guide_spots top = head_spots top ++ node_spots 1 (inner_tables top)

-- the first table of which a refusal holds
abbrev pub first_spot : KeyFault → (key : List ℕ) → List Spot → Option Spot
first_spot why key spots = find (λ (s : Spot). holds s.0 why key s.2) spots

-- the node with a number
abbrev pub node_spot : (number : ℕ) → Option Members → Option Spot
node_spot number None = None
node_spot number (Some ms) = Some (table.Node, number, ms)

-- number 0 is that of no node
abbrev pub guide_spot : (number : ℕ) → KeyFault → (key : List ℕ) → Members → Option Spot
guide_spot number why key top =
    if number == 0 then first_spot why key (head_spots top) else node_spot number (node_table top number)
