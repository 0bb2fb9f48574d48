-- Own: the tables of a guide file's nodes, in the order of their numbers: a loop before what is in it.
use Rattle.std.specs.Prelude.{ℕ, ◌-◌, List, [], ◌∷◌, ◌++◌, codes, Option, slice_get}
use Rattle.std.specs.Ordering.{nat_cmp, match_ordering}
use Rattle.std.specs.Cmp.Lexicographic.{slice_cmp}
use Rattle.toml.specs.Data.{Data, Items, Members, array, item, member, no_items, no_members, table}

abbrev mutual
  pub tables_in : Items → List Members
  tables_in no_items = []
  tables_in (item d ds) = tables_of d ++ tables_in ds

  pub tables_of : Data → List Members
  tables_of (table ms) = ms ∷ inner_tables ms
  tables_of _ = []

  -- those at the key `nodes`
  pub inner_tables : Members → List Members
  inner_tables no_members = []
  inner_tables (member key d ms) =
      match_ordering (slice_cmp nat_cmp (codes "nodes") key) (inner_tables ms) (list_tables d) (inner_tables ms)

  pub list_tables : Data → List Members
  list_tables (array ds) = tables_in ds
  list_tables _ = []

-- that of the node with a number, from 1 on
abbrev pub node_table : Members → (number : ℕ) → Option Members
node_table top number = slice_get (inner_tables top) (number - 1)
