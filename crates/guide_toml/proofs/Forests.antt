-- Nodes read one after another, and how deep what is left to read is.
use Rattle.std.proofs.Common.{◌≡◌, ℕ, zero, suc, ◌+◌, ◌<◌, ◌≤◌, max, List, [], ◌∷◌, ◌++◌, length, get_or, drop, map}
use Rattle.std.proofs.Common.{Option, Some, None, Result, Ok, Err, Ordering, Less, Equal, Greater, nat_cmp, codes}
use Rattle.std.proofs.Common.{refl, sym, ap, ◌∙◌, arith}
use Rattle.std.proofs.lemmas.List.{drop_all}
use Rattle.std.specs.Ordering.{match_ordering}
use Rattle.toml.proofs.Views.{items_view-drop}
use Rattle.std.specs.Cmp.Lexicographic.{slice_cmp}
use Rattle.toml.specs.declared.value.Value.{Value}
use Rattle.toml.specs.Data.{Data, Items, item, Members, no_members, member, get_member, string, integer, float}
use Rattle.toml.specs.Data.{boolean, datetime, as_array, array, table, as_table, depth, items_depth, members_depth}
use Rattle.toml.specs.View.{view, items_view}
use Rattle.guide_tree.specs.Words.{Tree, Trees, no_trees, tree, view as tree_view, nodes_view, count_in, node_count}
use Rattle.guide_tree.specs.declared.node.Node.{Node}
use Rattle.std.specs.Prelude.{string_bytes}
use Rattle.toml_keys.specs.Refusals.{missing, unknown, wrong_kind}
use Rattle.guide_toml.specs.Answers.{FailsAt}
use Rattle.guide_toml.specs.Guides.{nodes_in, node_by_table, inner_nodes, node_list}
use Rattle.guide_toml.specs.Refused.{Refused, ◌⊳◌, number_after}
use Rattle.guide_toml.specs.declared.fault.GuideFileFault.{GuideFileFault}
use Rattle.guide_toml.specs.declared.fault.GuideFileFault.TheVariants as fault

abbrev pub list_at : (first : ℕ) → Option Data → Result Trees Refused
list_at first None = Ok no_trees
list_at first (Some d) = node_list first d

at_key : (first : ℕ) (o : Ordering) (r : Result Trees Refused) (a : Option Data) (d : Data) → r ≡ list_at first a
    → match_ordering o r (node_list first d) r ≡ list_at first (match_ordering o a (Some d) a)
at_key first Less r a d e = e
at_key first Equal r a d e = refl
at_key first Greater r a d e = e

-- what stands at `nodes` is what is read
pub inner_is : (first : ℕ) (ms : Members) → inner_nodes first ms ≡ list_at first (get_member (codes "nodes") ms)
inner_is first no_members = refl
inner_is first (member k d ms) =
    at_key first (slice_cmp nat_cmp (codes "nodes") k) (inner_nodes first ms) (get_member (codes "nodes") ms) d (inner_is first ms)

abbrev pub depth_at : Option Data → ℕ
depth_at None = 0
depth_at (Some d) = depth d

deeper : (o : Ordering) (a : Option Data) (d : Data) (n : ℕ) → depth_at a ≤ n
    → depth_at (match_ordering o a (Some d) a) ≤ max (depth d) n
deeper Less a d n h = omega arith
deeper Equal a d n h = omega arith
deeper Greater a d n h = omega arith

-- what stands at a key is no deeper than the table
pub member_depth : (key : List ℕ) (ms : Members) → depth_at (get_member key ms) ≤ members_depth ms
member_depth key no_members = omega arith
member_depth key (member k d ms) =
    deeper (slice_cmp nat_cmp key k) (get_member key ms) d (members_depth ms) (member_depth key ms)

pub item_depth : (vs : List Value) (i : ℕ) (d : Value) → i < length vs
    → depth (view (get_or vs i d)) ≤ items_depth (items_view vs)
item_depth [] i d h = absurd (omega arith)
item_depth (v ∷ vs) zero d h = omega arith
item_depth (v ∷ vs) (suc i) d h = let r = item_depth vs i d (omega arith) in omega arith

pub no_list : (first : ℕ) (d : Data) → None ≡ as_array d → node_list first d ≡ Ok no_trees
no_list first (string s) e = refl
no_list first (integer z) e = refl
no_list first (float x) e = refl
no_list first (boolean b) e = refl
no_list first (datetime t) e = refl
no_list first (array ds) e = cc
no_list first (table ms) e = refl

pub that_list : (first : ℕ) (d : Data) (ds : Items) → Some ds ≡ as_array d → nodes_in first ds ≡ node_list first d
that_list first (string s) ds e = cc
that_list first (integer z) ds e = cc
that_list first (float x) ds e = cc
that_list first (boolean b) ds e = cc
that_list first (datetime t) ds e = cc
that_list first (array es) ds e = ap (nodes_in first) (same_items ds es e) where
  same_items : (a b : Items) → Some a ≡ Some b → a ≡ b
  same_items a b f = cc
that_list first (table ms) ds e = cc

pub list_depth : (d : Data) (ds : Items) → Some ds ≡ as_array d → items_depth ds ≤ depth d
list_depth (string s) ds e = cc
list_depth (integer z) ds e = cc
list_depth (float x) ds e = cc
list_depth (boolean b) ds e = cc
list_depth (datetime t) ds e = cc
list_depth (array es) ds e = let f = ap items_depth (same_items ds es e) in omega arith where
  same_items : (a b : Items) → Some a ≡ Some b → a ≡ b
  same_items a b f = cc
list_depth (table ms) ds e = cc

-- trees before others
abbrev pub front : List Tree → Trees → Trees
front [] us = us
front (t ∷ ts) us = tree t (front ts us)

abbrev pub with_front : List Tree → Result Trees Refused → Result Trees Refused
with_front done r = r ⊳ λ us. Ok (front done us)

front_more : (done : List Tree) (t : Tree) (us : Trees) → front (done ++ t ∷ []) us ≡ front done (tree t us)
front_more [] t us = refl
front_more (x ∷ done) t us = ap (tree x) (front_more done t us)

more_read : (done : List Tree) (t : Tree) (r : Result Trees Refused)
    → with_front (done ++ t ∷ []) r ≡ with_front done (r ⊳ λ ts. Ok (tree t ts))
more_read done t (Ok us) = ap Ok (front_more done t us)
more_read done t (Err e) = refl

-- a node, and those after it
abbrev pub node_first : ℕ → Items → Result Tree Refused → Result Trees Refused
node_first n ds r = r ⊳ λ t. nodes_in (number_after n (count_in t)) ds ⊳ λ ts. Ok (tree t ts)

-- one node more
pub node_added : (n : ℕ) (done : List Tree) (t : Tree) (d : Data) (ds : Items) (all : Result Trees Refused)
    → node_by_table n d ≡ Ok t → with_front done (nodes_in n (item d ds)) ≡ all
    → with_front (done ++ t ∷ []) (nodes_in (number_after n (count_in t)) ds) ≡ all
node_added n done t d ds all e a =
    more_read done t (nodes_in (number_after n (count_in t)) ds)
    ∙ sym (ap (λ (r : Result Tree Refused). with_front done (node_first n ds r)) e) ∙ a

-- one that isn't read
pub node_fails : (n : ℕ) (done : List Tree) (f : Refused) (d : Data) (ds : Items) (all : Result Trees Refused)
    → node_by_table n d ≡ Err f → with_front done (nodes_in n (item d ds)) ≡ all → all ≡ Err f
node_fails n done f d ds all e a = sym a ∙ ap (λ (r : Result Tree Refused). with_front done (node_first n ds r)) e

pub fault_stays : (n : ℕ) (done : List Tree) (f : GuideFileFault) (d : Data) (ds : Items) (all : Result Trees Refused)
    → FailsAt f (node_by_table n d) → with_front done (nodes_in n (item d ds)) ≡ all → FailsAt f all
fault_stays n done fault.NotToml d ds all h a = h
fault_stays n done (fault.Missing k slot) d ds all h a = node_fails n done (slot, missing k.now) d ds all h a
fault_stays n done (fault.WrongKind k slot) d ds all h a = node_fails n done (slot, wrong_kind k.now) d ds all h a
fault_stays n done (fault.Unknown k slot) d ds all h a = node_fails n done (slot, unknown (string_bytes k)) d ds all h a
fault_stays n done (fault.Guide g) d ds all h a = h
fault_stays n done fault.NoMemory d ds all h a = h

pub no_table : (n : ℕ) (d : Data) → None ≡ as_table d → node_by_table n d ≡ Err (n, wrong_kind (codes "nodes"))
no_table n (string s) e = refl
no_table n (integer z) e = refl
no_table n (float x) e = refl
no_table n (boolean b) e = refl
no_table n (datetime t) e = refl
no_table n (array ds) e = refl
no_table n (table ms) e = cc

pub that_table : (d : Data) (ms : Members) → Some ms ≡ as_table d → d ≡ table ms
that_table (string s) ms e = cc
that_table (integer z) ms e = cc
that_table (float x) ms e = cc
that_table (boolean b) ms e = cc
that_table (datetime t) ms e = cc
that_table (array ds) ms e = cc
that_table (table ns) ms e = ap table (same_members ns ms (sym e)) where
  same_members : (a b : Members) → Some a ≡ Some b → a ≡ b
  same_members a b f = cc

front_all : (ns : List Node) → front (map tree_view ns) no_trees ≡ nodes_view ns
front_all [] = refl
front_all (n ∷ ns) = ap (tree (tree_view n)) (front_all ns)

pub all_nodes : (ns : List Node) (all : Result Trees Refused) → with_front (map tree_view ns) (Ok no_trees) ≡ all
    → all ≡ Ok (nodes_view ns)
all_nodes ns all a = sym a ∙ ap Ok (front_all ns)

pub map_push : (ns : List Node) (n : Node) → map tree_view (ns ++ n ∷ []) ≡ map tree_view ns ++ tree_view n ∷ []
map_push [] n = refl
map_push (m ∷ ns) n = ap (λ (ts : List Tree). tree_view m ∷ ts) (map_push ns n)

pub read_step : (done : List Node) (vs : List Value) (i k : ℕ) (v : Value) (n : Node) (new : List Node) (all : Result Trees Refused)
    → i < length vs → v ≡ get_or vs i v → node_by_table k (view v) ≡ Ok (tree_view n) → new ≡ done ++ n ∷ []
    → with_front (map tree_view done) (nodes_in k (items_view (drop i vs))) ≡ all
    → with_front (map tree_view new) (nodes_in (number_after k (count_in (tree_view n))) (items_view (drop (i + 1) vs))) ≡ all
read_step done vs i k v n new all h e r p a =
    let rest = items_view (drop (i + 1) vs) in
    let next = number_after k (count_in (tree_view n)) in
    let here : items_view (drop i vs) ≡ item (view v) rest =
    items_view-drop vs i v h ∙ ap (λ (x : Value). item (view x) rest) (sym e) in
    ap (λ (ns : List Node). with_front (map tree_view ns) (nodes_in next rest)) p
    ∙ ap (λ (ts : List Tree). with_front ts (nodes_in next rest)) (map_push done n)
    ∙ node_added k (map tree_view done) (tree_view n) (view v) rest all r
    (ap (λ (ds : Items). with_front (map tree_view done) (nodes_in k ds)) (sym here) ∙ a)

pub read_all : (done : List Node) (vs : List Value) (i k : ℕ) (all : Result Trees Refused) → length vs ≤ i
    → with_front (map tree_view done) (nodes_in k (items_view (drop i vs))) ≡ all → all ≡ Ok (nodes_view done)
read_all done vs i k all h a =
    all_nodes done all
    (ap (λ (ws : List Value). with_front (map tree_view done) (nodes_in k (items_view ws))) (sym (drop_all i vs h)) ∙ a)

-- a node more is counted
pub count_push : (ns : List Node) (n : Node) → node_count (nodes_view (ns ++ n ∷ [])) ≡ node_count (nodes_view ns) + count_in (tree_view n)
count_push [] n = omega arith
count_push (m ∷ ns) n = let e = count_push ns n in omega (arith, e)

pub behind_more : (first a b : ℕ) → number_after (number_after first a) b ≡ number_after first (a + b)
behind_more first a b = omega arith

pub none_read : (r : Result Trees Refused) → with_front [] r ≡ r
none_read (Ok ts) = refl
none_read (Err e) = refl
