-- The guide file (own): the guide that a table writes, and the first fault of one that writes none.
use Rattle.std.specs.Prelude.{ℕ, List, [], ◌∷◌, codes, Option, Some, None, Result, Ok, Err, Bool, if◌then◌else◌}
use Rattle.std.specs.Prelude.{is_some}
use Rattle.std.specs.Ordering.{nat_cmp, match_ordering}
use Rattle.std.specs.Cmp.Lexicographic.{slice_cmp}
use Rattle.toml.specs.Data.{Data, array, table, Items, no_items, item, Members, no_members, member, get_member}
use Rattle.toml.specs.Data.{as_str, as_bool}
use Rattle.guide_tree.specs.declared.slot.Slot.{Slot}
use Rattle.guide_tree.specs.declared.node.Loop.{Loop}
use Rattle.guide_tree.specs.declared.rows.GuideHead.{GuideHead}
use Rattle.guide_tree.specs.declared.rows.HlRule.{HlRule}
use Rattle.guide_tree.specs.declared.rows.Dependency.{Dependency}
use Rattle.guide_tree.specs.Words.{Tree, Trees, segment, loop, no_trees, tree, GuideTree, count_in as size_of}
use Rattle.toml_keys.specs.Refusals.{Refusal, wrong_kind}
use Rattle.toml_keys.specs.Keys.{least_unknown, if_known}
use Rattle.toml_keys.specs.Tables.{◌>>=◌, required, optional, word_in, some_word_in, count_of_data, tables_in, some_table}
use Rattle.guide_toml.specs.declared.entry.Form.TheVariants as form
use Rattle.guide_toml.specs.declared.keys.TableKind.{TableKind}
use Rattle.guide_toml.specs.declared.keys.TableKind.TheVariants as kind
use Rattle.guide_toml.specs.declared.nodes.NodeKind.{NodeKind}
use Rattle.guide_toml.specs.declared.nodes.NodeKind.TheVariants as node
use Rattle.guide_toml.specs.ElementTexts.{element_of_text}
use Rattle.guide_toml.specs.Entries.{pick_of, condition_of, pair_of, formed, segment_code_of, element_code_of}
use Rattle.guide_toml.specs.Keys.{keys_of}
use Rattle.guide_toml.specs.Refused.{Refused, ◌⊳◌, at_slot, number_after}
use Rattle.guide_toml.specs.Values.{group_in, texts_in, dependency_kind_in}

abbrev pub label_in : Data → Option (List ℕ)
label_in d = word_in 1 20 d

-- a segment, after the unknown keys of its table
unfoldable pub segment_of : Members → Result Slot Refusal
segment_of ms = do
  id ← required as_str (codes "seg") ms
  least ← required count_of_data (codes "min") ms
  most ← required count_of_data (codes "max") ms
  label ← optional None (some_word_in 1 20) (codes "label") ms
  picks ← optional [] (texts_in pick_of) (codes "pick") ms
  elements ← required (texts_in element_of_text) (codes "elements") ms
  conditions ← optional [] (texts_in condition_of) (codes "conditions") ms
  Ok (record { number = 0; id = id; label = label; min = least; max = most; picks = picks; elements = elements; conditions = conditions })

-- a loop without its nodes, of which it is seen that they are tables
unfoldable pub loop_of : Members → Result Loop Refusal
loop_of ms = do
  id ← required (word_in 1 4) (codes "loop") ms
  least ← required count_of_data (codes "min") ms
  most ← required count_of_data (codes "max") ms
  nodes ← required tables_in (codes "nodes") ms
  Ok (record { number = 0; id = id; min = least; max = most })

abbrev pub has : List ℕ → Members → Bool
has key ms = is_some (get_member key ms)

abbrev pub node_kind : Members → NodeKind
node_kind ms = if has (codes "seg") ms
    then (if has (codes "loop") ms then node.Unclear else node.Segment)
    else (if has (codes "loop") ms then node.Loop else node.Unclear)

abbrev pub known_keys : {A : Type 0} → TableKind → Members → Result A Refusal → Result A Refusal
known_keys k ms read = if_known (least_unknown (keys_of k) ms) read

abbrev pub segment_node : Members → Result Tree Refusal
segment_node ms = known_keys kind.Segment ms (segment_of ms >>= λ s. Ok (segment s))

-- a loop's own keys are judged before its nodes
abbrev pub loop_node : (slot : ℕ) → Members → Result Trees Refused → Result Tree Refused
loop_node slot ms inner = at_slot slot (known_keys kind.Loop ms (loop_of ms)) ⊳ λ l. inner ⊳ λ ts. Ok (loop l ts)

abbrev pub unclear_node : Members → Result Tree Refusal
unclear_node ms = known_keys kind.Unclear ms (Err (wrong_kind (codes "seg")))

abbrev pub node_by : NodeKind → (slot : ℕ) → Members → Result Trees Refused → Result Tree Refused
node_by node.Segment slot ms inner = at_slot slot (segment_node ms)
node_by node.Loop slot ms inner = loop_node slot ms inner
node_by node.Unclear slot ms inner = at_slot slot (unclear_node ms)

abbrev mutual
  -- the nodes of a list of tables, numbered from the first on, each before what is in it
  pub nodes_in : (first : ℕ) → Items → Result Trees Refused
  nodes_in first no_items = Ok no_trees
  nodes_in first (item d ds) = node_by_table first d ⊳ λ t. nodes_in (number_after first (size_of t)) ds ⊳ λ ts. Ok (tree t ts)

  pub node_by_table : (slot : ℕ) → Data → Result Tree Refused
  node_by_table slot (table ms) = node_by (node_kind ms) slot ms (inner_nodes (number_after slot 1) ms)
  node_by_table slot _ = Err (slot, wrong_kind (codes "nodes"))

  -- the nodes at the key `nodes`, once it is seen that they are tables
  pub inner_nodes : (first : ℕ) → Members → Result Trees Refused
  inner_nodes first no_members = Ok no_trees
  inner_nodes first (member key d ms) =
      match_ordering (slice_cmp nat_cmp (codes "nodes") key) (inner_nodes first ms) (node_list first d) (inner_nodes first ms)

  pub node_list : (first : ℕ) → Data → Result Trees Refused
  node_list first (array ds) = nodes_in first ds
  node_list first _ = Ok no_trees

unfoldable pub hl_of : Members → Result HlRule Refusal
hl_of ms = do
  pairs ← required (texts_in pair_of) (codes "pairs") ms
  sequential ← required as_bool (codes "sequential") ms
  Ok (record { pairs = pairs; sequential = sequential })

unfoldable pub dependency_of : Members → Result Dependency Refusal
dependency_of ms = do
  k ← required dependency_kind_in (codes "kind") ms
  slot ← required label_in (codes "slot") ms
  position ← required count_of_data (codes "at") ms
  values ← required (texts_in (formed form.Code)) (codes "codes") ms
  target ← required label_in (codes "target") ms
  element ← required count_of_data (codes "element") ms
  Ok (record { kind = k; slot = slot; at = position; codes = values; target = target; element = element })

abbrev pub dependency_in : Data → Result Dependency Refusal
dependency_in (table ms) = known_keys kind.Dependency ms (dependency_of ms)
dependency_in _ = Err (wrong_kind (codes "depends"))

abbrev pub dependencies_in : Items → Result (List Dependency) Refusal
dependencies_in no_items = Ok []
dependencies_in (item d ds) = dependency_in d >>= λ x. dependencies_in ds >>= λ xs. Ok (x ∷ xs)

unfoldable pub head_of : Members → Result GuideHead Refusal
head_of ms = do
  name ← required (word_in 1 20) (codes "name") ms
  group ← required group_in (codes "group") ms
  set ← required (word_in 3 3) (codes "set") ms
  version ← required (word_in 1 12) (codes "version") ms
  convention ← optional None (some_word_in 1 35) (codes "convention") ms
  dictionary ← optional [] (texts_in (formed form.SegmentId)) (codes "dictionary") ms
  tolerate_segment ← optional [] (texts_in segment_code_of) (codes "tolerate_segment") ms
  tolerate_element ← optional [] (texts_in element_code_of) (codes "tolerate_element") ms
  Ok (record {
    name = name;
    group = group;
    set = set;
    version = version;
    convention = convention;
    dictionary = dictionary;
    tolerate_segment = tolerate_segment;
    tolerate_element = tolerate_element;
  })

-- where `hl` is, its table
abbrev pub hl_in : Option Members → Result (Option HlRule) Refusal
hl_in None = Ok None
hl_in (Some ms) = known_keys kind.Hierarchy ms (hl_of ms) >>= λ rule. Ok (Some rule)

-- the top table's own keys, and then `hl` and `depends`; and the tables of the nodes
unfoldable pub guide_top : Members → Result (GuideHead × Option HlRule × List Dependency × Items) Refusal
guide_top ms = do
  head ← known_keys kind.Guide ms (head_of ms)
  rule ← optional None some_table (codes "hl") ms
  rows ← optional no_items tables_in (codes "depends") ms
  nodes ← required tables_in (codes "nodes") ms
  hl ← hl_in rule
  depends ← dependencies_in rows
  Ok (head, hl, depends, nodes)

-- the guide: the top table, `hl` and `depends`, and then the nodes, numbered from 1 on
abbrev pub guide_of_table : Members → Result GuideTree Refused
guide_of_table ms =
    at_slot 0 (guide_top ms) ⊳ λ top. nodes_in 1 top.3 ⊳ λ trees.
    Ok (record { head = top.0; hl = top.1; depends = top.2; nodes = trees })
