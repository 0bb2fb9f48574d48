-- The expressions of a counters file define its table.
use Rattle.std.proofs.Common.{◌≡◌, ◌∙◌, List, [], ◌∷◌, Option, Some, option_map, codes, refl, sym, ap}
use Rattle.std.specs.Prelude.{pos}
use Rattle.toml.specs.Data.{Items, Members, array, integer, item, member, no_items, no_members, push_item, table}
use Rattle.toml.specs.Tables.{Document, Nodes, along_dots, along_header, at_key, close, define, no_nodes, node, open_array, value}
use Rattle.toml.proofs.ReadLines.{run}
use Rattle.toml.proofs.ReadValues.{item_join, item_join-none, item_join-push}
use Rattle.partner_setup.specs.declared.rows.CounterRow.{CounterRow}
use Rattle.counters_law.proofs.Telling.{expressions_of, items_of, members_of, nodes_of, number_pair, table_of}

abbrev version_node : Nodes
version_node = node (codes "version") (value (integer (pos 2))) no_nodes

-- the rows so far, and the nodes of the last
abbrev open_at : Items → Nodes → Document
open_at done last = (node (codes "counter") (open_array done last) version_node, codes "counter" ∷ [])

one_more : (done : Items) (last : Nodes) (r : CounterRow) (rs : List CounterRow)
    → run (open_at done last) (expressions_of (r ∷ rs))
    ≡ run (open_at (push_item done (table (close last))) (nodes_of r)) (expressions_of rs)
unfolding define along_header along_dots at_key
one_more done last r rs = refl

first_row : (r : CounterRow) (rs : List CounterRow)
    → run (version_node, []) (expressions_of (r ∷ rs)) ≡ run (open_at no_items (nodes_of r)) (expressions_of rs)
unfolding define along_header along_dots at_key
first_row r rs = refl

version_first : (rs : List CounterRow)
    → run (no_nodes, []) (number_pair (codes "version") 2 ∷ expressions_of rs) ≡ run (version_node, []) (expressions_of rs)
unfolding define along_header along_dots at_key
version_first rs = refl

abbrev closed : Option Document → Option Members
closed o = option_map (λ doc. close doc.0) o

abbrev with_items : Items → Members
with_items items = member (codes "counter") (array items) (member (codes "version") (integer (pos 2)) no_members)

all_rows : (rs : List CounterRow) (done : Items) (last : Nodes)
    → closed (run (open_at done last) (expressions_of rs)) ≡ Some (with_items (item_join done (item (table (close last)) (items_of rs))))
all_rows [] done last =
    ap (λ (items : Items). Some (with_items items))
    (sym (item_join-none (push_item done (table (close last)))) ∙ item_join-push done (table (close last)) no_items)
all_rows (r ∷ rs) done last =
    ap closed (one_more done last r rs)
    ∙ all_rows rs (push_item done (table (close last))) (nodes_of r)
    ∙ ap (λ (items : Items). Some (with_items items))
    (item_join-push done (table (close last)) (item (table (members_of r)) (items_of rs)))

-- the table that is defined
pub defined : (rs : List CounterRow)
    → closed (run (no_nodes, []) (number_pair (codes "version") 2 ∷ expressions_of rs)) ≡ Some (table_of rs)
defined [] = ap closed (version_first [])
defined (r ∷ rs) = ap closed (version_first (r ∷ rs)) ∙ ap closed (first_row r rs) ∙ all_rows rs no_items (nodes_of r)
