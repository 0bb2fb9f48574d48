-- What stands in a counters file: its rows as text, as expressions, and as data (no public clause cites these).
use Rattle.std.proofs.Common.{ℕ, ◌≡◌, List, [], ◌∷◌, ◌++◌, true, codes}
use Rattle.std.specs.Prelude.{pos}
use Rattle.std.specs.List.{list_all}
use Rattle.std.specs.Char.{is_ascii_alphanumeric}
use Rattle.toml.specs.Data.{Items, Members, array, integer, item, member, no_items, no_members, string, table}
use Rattle.toml.specs.Tables.{Expression, Nodes, array_table, key_value, no_nodes, node, value}
use Rattle.partner_setup.specs.CountersText.{counter_lines}
use Rattle.partner_setup.specs.Sound.{AreCounters}
use Rattle.partner_setup.specs.declared.rows.CounterRow.{CounterRow}

-- a name of letters and digits, and numbers of nine digits
pub record IsPlain (r : CounterRow) : Type 0 where
  pub name : list_all is_ascii_alphanumeric r.partner ≡ true
  pub counters : AreCounters r.counters

abbrev pub ArePlain : List CounterRow → Type 0
ArePlain [] = Unit {0}
ArePlain (r ∷ rs) = IsPlain r × ArePlain rs

abbrev pub text_of : List CounterRow → List ℕ
text_of [] = []
text_of (r ∷ rs) = counter_lines r.partner r.counters ++ text_of rs

abbrev pub number_pair : (key : List ℕ) → ℕ → Expression
number_pair key n = (([], key), key_value (integer (pos n)))

abbrev pub expressions_of : List CounterRow → List Expression
expressions_of [] = []
expressions_of (r ∷ rs) =
    (([], codes "counter"), array_table) ∷ (([], codes "partner"), key_value (string r.partner))
    ∷ number_pair (codes "interchange") r.counters.interchange ∷ number_pair (codes "group") r.counters.group
    ∷ number_pair (codes "set") r.counters.set ∷ expressions_of rs

-- the keys of a row in the order of bytes
abbrev pub nodes_of : CounterRow → Nodes
nodes_of r =
    node (codes "group") (value (integer (pos r.counters.group)))
    (node (codes "interchange") (value (integer (pos r.counters.interchange)))
    (node (codes "partner") (value (string r.partner)) (node (codes "set") (value (integer (pos r.counters.set))) no_nodes)))

abbrev pub members_of : CounterRow → Members
members_of r =
    member (codes "group") (integer (pos r.counters.group))
    (member (codes "interchange") (integer (pos r.counters.interchange))
    (member (codes "partner") (string r.partner) (member (codes "set") (integer (pos r.counters.set)) no_members)))

abbrev pub items_of : List CounterRow → Items
items_of [] = no_items
items_of (r ∷ rs) = item (table (members_of r)) (items_of rs)

-- the whole table
abbrev pub table_of : List CounterRow → Members
table_of [] = member (codes "version") (integer (pos 2)) no_members
table_of (r ∷ rs) = member (codes "counter") (array (items_of (r ∷ rs))) (member (codes "version") (integer (pos 2)) no_members)
