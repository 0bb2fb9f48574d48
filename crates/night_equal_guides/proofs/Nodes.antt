-- The nodes of a guide, numbered parents first.
use Rattle.std.proofs.Common.{◌≡◌, ℕ, ◌+◌, List, Option, Some, None, Result, Ok, Err, Bool, true, false, cond, codes, bytes_eq}
use Rattle.std.proofs.Common.{option_map, option_and_then, is_some, is_eq, nat_cmp, refl, ap, ◌∙◌}
use Rattle.std.specs.declared.cmp.Ordering.{Ordering}
use Rattle.std.specs.declared.cmp.Ordering.TheVariants as ordering
use Rattle.std.specs.Ordering.{match_ordering}
use Rattle.std.specs.Cmp.Lexicographic.{slice_cmp}
use Rattle.std.proofs.lemmas.Map.Text.{is_eq-slice_cmp}
use Rattle.toml.specs.Data.{Data, string, integer, float, boolean, datetime, array, table, Items, no_items, item, Members, no_members}
use Rattle.toml.specs.Data.{member, get_member, as_array}
use Rattle.guide_tree.specs.declared.node.Loop.{Loop}
use Rattle.guide_tree.specs.Words.{Tree, Trees, segment, loop, no_trees, tree, count_in, node_count, numbered, numbered_in}
use Rattle.toml_keys.specs.Refusals.{Refusal, missing, wrong_kind}
use Rattle.toml_keys.specs.Keys.{least_unknown}
use Rattle.toml_keys.specs.Tables.{◌>>=◌ as ◌⊳◌, required_of, tables_in}
use Rattle.guide_toml.specs.declared.keys.TableKind.TheVariants as kind
use Rattle.guide_toml.specs.Keys.{keys_of}
use Rattle.guide_toml.specs.Refused.{Refused, ◌⊳◌ as ◌▷◌, at_slot, number_after}
use Rattle.guide_toml.specs.Guides.{inner_nodes, known_keys, loop_node, loop_of as old_loop, node_by, node_by_table, node_list, nodes_in}
use Rattle.guide_toml.specs.Guides.{segment_node}
use Rattle.guide_toml.specs.Guides.{node_kind, segment_of, unclear_node}
use Rattle.night_definition.specs.GuideFile.{loop_of, nodes_among, nodes_from, nodes_of, node_in, node_of, slot_of}
use Rattle.night_definition.specs.GuideFile as room
use Rattle.night_equal_guides.proofs.Steps.{asked_is, known_is, of_ok, ok_is, tables_are, turned}
use Rattle.night_equal_guides.proofs.Slots.{loop_is, loop_nodes, slot_is, with_loop_number}

-- readings with places
pub of_placed : {A B P : Type 0} (f : A → Result B Refused) (r : Result A Refused) (y : B) → (r ▷ f) ≡ Ok y
    → ((x : A) → r ≡ Ok x → f x ≡ Ok y → P) → P
of_placed f (Ok x) y e k = k x refl e
of_placed f (Err r) y e k = let no : Err r ≡ Ok y = e in cc

pub placed_is : {A : Type 0} (x y : A) → (let r : Result A Refused = Ok x in r ≡ Ok y) → x ≡ y
placed_is x y e = cc

refused_is : {A P : Type 0} (r : Refused) (x : A) → (let read : Result A Refused = Err r in read ≡ Ok x) → P
refused_is r x e = cc

pub own_table : {A : Type 0} (slot : ℕ) (r : Result A Refusal) (x : A) → at_slot slot r ≡ Ok x → r ≡ Ok x
own_table slot (Ok y) x e = let same : y ≡ x = placed_is y x e in ap Ok same
own_table slot (Err r) x e = refused_is (slot, r) x e

array_is : (d : Data) (items : Items) → as_array d ≡ Some items → Some d ≡ Some (array items)
array_is (array ds) items e = ap (λ (o : Option Items). option_map array o) e
array_is (table ms) items e = let no : None ≡ Some items = e in cc
array_is (string s) items e = let no : None ≡ Some items = e in cc
array_is (integer z) items e = let no : None ≡ Some items = e in cc
array_is (float x) items e = let no : None ≡ Some items = e in cc
array_is (boolean b) items e = let no : None ≡ Some items = e in cc
array_is (datetime t) items e = let no : None ≡ Some items = e in cc

pub array_at : (key : List ℕ) (o : Option Data) (items : Items) → required_of tables_in key o ≡ Ok items → o ≡ Some (array items)
array_at key None items e = let no : Err (missing key) ≡ Ok items = e in cc
array_at key (Some d) items e = array_is d items (tables_are d items (asked_is key (tables_in d) items e))

-- a key that is looked for among others
in_order : {A B : Type 0} (o : Ordering) (b : Bool) → is_eq o ≡ b → (rest : Option Data) (d : Data) (items : Items)
    → match_ordering o rest (Some d) rest ≡ Some (array items) → (inner here : Result A Refused) (x : A)
    → match_ordering o inner here inner ≡ Ok x → (then_here then_rest want : Option B)
    → (rest ≡ Some (array items) → inner ≡ Ok x → then_rest ≡ want) → (Some d ≡ Some (array items) → here ≡ Ok x → then_here ≡ want)
    → cond b then_here then_rest ≡ want
in_order ordering.Equal true e rest d items f inner here x g th tr want more this = this f g
in_order ordering.Less false e rest d items f inner here x g th tr want more this = more f g
in_order ordering.Greater false e rest d items f inner here x g th tr want more this = more f g
in_order ordering.Equal false e rest d items f inner here x g th tr want more this = let no : true ≡ false = e in cc
in_order ordering.Less true e rest d items f inner here x g th tr want more this = let no : false ≡ true = e in cc
in_order ordering.Greater true e rest d items f inner here x g th tr want more this = let no : false ≡ true = e in cc

abbrev nodes_key : List ℕ
nodes_key = codes "nodes"

key_is : (key : List ℕ) → is_eq (slice_cmp nat_cmp nodes_key key) ≡ bytes_eq key nodes_key
key_is key = is_eq-slice_cmp nodes_key key ∙ turned nodes_key key

-- numbers of nodes change no count
mutual
  count_numbered : (n : ℕ) (t : Tree) → room.count_in (numbered_in n t) ≡ count_in t
  count_numbered n (segment s) = refl
  count_numbered n (loop l ts) = ap (λ m. m + 1) (counts_numbered (n + 1) ts)

  counts_numbered : (n : ℕ) (ts : Trees) → room.count_of (numbered n ts) ≡ node_count ts
  counts_numbered n no_trees = refl
  counts_numbered n (tree t ts) =
      ap (λ m. m + room.count_of (numbered (n + count_in t) ts)) (count_numbered n t)
      ∙ ap (λ m. count_in t + m) (counts_numbered (n + count_in t) ts)

-- a segment
segment_is : (n : ℕ) (ms : Members) (t : Tree) → segment_node ms ≡ Ok t → option_map segment (slot_of n ms) ≡ Some (numbered_in n t)
segment_is n ms t e =
    of_ok _ (segment_of ms) t (known_is (least_unknown (keys_of kind.Segment) ms) (segment_of ms ⊳ (λ s. Ok (segment s))) t e)
    (λ s is_s e1. ap (option_map segment) ((slot_is n ms).is s is_s)
    ∙ ap (λ (x : Tree). Some (numbered_in n x)) (ok_is (segment s) t e1))

-- what is in a loop, once it is known to be a list
abbrev IsWithin : ℕ → Members → Result Trees Refused → Type 0
IsWithin n ms inner =
    (items : Items) (ts : Trees) → get_member nodes_key ms ≡ Some (array items) → inner ≡ Ok ts → nodes_among n ms ≡ Some (numbered n ts)

abbrev looped : Option Loop → Option Trees → Option Tree
looped l ts = option_and_then (λ l. option_and_then (λ ts. Some (loop l ts)) ts) l

loop_node_is : (n slot : ℕ) (ms : Members) (inner : Result Trees Refused) (t : Tree) → IsWithin (n + 1) ms inner
    → loop_node slot ms inner ≡ Ok t → looped (loop_of n ms) (nodes_among (n + 1) ms) ≡ Some (numbered_in n t)
loop_node_is n slot ms inner t within e =
    of_placed _ (at_slot slot (known_keys kind.Loop ms (old_loop ms))) t e (λ l is_l e1. of_placed _ inner t e1 (λ ts is_ts e2.
    let own : old_loop ms ≡ Ok l = known_is (least_unknown (keys_of kind.Loop) ms) (old_loop ms) l (own_table slot _ l is_l) in
    loop_nodes ms l own (λ nodes is_nodes.
    ap (λ (o : Option Loop). looped o (nodes_among (n + 1) ms)) ((loop_is n ms).is l own)
    ∙ ap (looped (Some (with_loop_number n l))) (within nodes ts (array_at nodes_key (get_member nodes_key ms) nodes is_nodes) is_ts)
    ∙ ap (λ (x : Tree). Some (numbered_in n x)) (placed_is (loop l ts) t e2))))

no_node : {P : Type 0} (slot : ℕ) (ms : Members) (t : Tree) → at_slot slot (unclear_node ms) ≡ Ok t → P
no_node slot ms t e =
    let no : Err (wrong_kind (codes "seg")) ≡ Ok t =
    known_is (least_unknown (keys_of kind.Unclear) ms) _ t (own_table slot _ t e) in cc

by_kind : (n slot : ℕ) (ms : Members) (inner : Result Trees Refused) (t : Tree) (seg looping : Bool)
    → is_some (get_member (codes "seg") ms) ≡ seg → is_some (get_member (codes "loop") ms) ≡ looping → IsWithin (n + 1) ms inner
    → node_by (node_kind ms) slot ms inner ≡ Ok t
    → cond looping (cond seg None (looped (loop_of n ms) (nodes_among (n + 1) ms))) (option_map segment (slot_of n ms))
    ≡ Some (numbered_in n t)
by_kind n slot ms inner t true true f g within e = no_node slot ms t (rw (f, g) at e)
by_kind n slot ms inner t true false f g within e = segment_is n ms t (own_table slot (segment_node ms) t (rw (f, g) at e))
by_kind n slot ms inner t false true f g within e = loop_node_is n slot ms inner t within (rw (f, g) at e)
by_kind n slot ms inner t false false f g within e = no_node slot ms t (rw (f, g) at e)

abbrev forest : Option Tree → (Tree → Option Trees) → Option Trees
forest t more = option_and_then (λ x. option_and_then (λ xs. Some (tree x xs)) (more x)) t

mutual
  pub nodes_are : (n first : ℕ) (ds : Items) (ts : Trees) → nodes_in first ds ≡ Ok ts → nodes_of n ds ≡ Some (numbered n ts)
  nodes_are n first no_items ts e = ap (λ (x : Trees). Some (numbered n x)) (placed_is no_trees ts e)
  nodes_are n first (item d ds) ts e =
      of_placed _ (node_by_table first d) ts e (λ t is_t e1.
      of_placed _ (nodes_in (number_after first (count_in t)) ds) ts e1 (λ more is_more e2.
      ap (λ (o : Option Tree). forest o (λ x. nodes_of (n + room.count_in x) ds)) (node_is n first d t is_t)
      ∙ ap (λ m. forest (Some (numbered_in n t)) (λ x. nodes_of (n + m) ds)) (count_numbered n t)
      ∙ ap (λ (o : Option Trees). forest (Some (numbered_in n t)) (λ x. o))
      (nodes_are (n + count_in t) (number_after first (count_in t)) ds more is_more)
      ∙ ap (λ (x : Trees). Some (numbered n x)) (placed_is (tree t more) ts e2)))

  node_is : (n slot : ℕ) (d : Data) (t : Tree) → node_by_table slot d ≡ Ok t → node_in n d ≡ Some (numbered_in n t)
  node_is n slot (table ms) t e =
      by_kind n slot ms (inner_nodes (number_after slot 1) ms) t (is_some (get_member (codes "seg") ms))
      (is_some (get_member (codes "loop") ms)) refl refl
      (λ items ts f g. inner_are (n + 1) (number_after slot 1) ms ts items f g) e
  node_is n slot (string s) t e = refused_is (slot, wrong_kind nodes_key) t e
  node_is n slot (integer z) t e = refused_is (slot, wrong_kind nodes_key) t e
  node_is n slot (float x) t e = refused_is (slot, wrong_kind nodes_key) t e
  node_is n slot (boolean b) t e = refused_is (slot, wrong_kind nodes_key) t e
  node_is n slot (datetime x) t e = refused_is (slot, wrong_kind nodes_key) t e
  node_is n slot (array ds) t e = refused_is (slot, wrong_kind nodes_key) t e

  inner_are : (n first : ℕ) (ms : Members) (ts : Trees) (items : Items) → get_member nodes_key ms ≡ Some (array items)
      → inner_nodes first ms ≡ Ok ts → nodes_among n ms ≡ Some (numbered n ts)
  inner_are n first no_members ts items e f = let no : None ≡ Some (array items) = e in cc
  inner_are n first (member key d ms) ts items e f =
      in_order (slice_cmp nat_cmp nodes_key key) (bytes_eq key nodes_key) (key_is key) (get_member nodes_key ms) d items e
      (inner_nodes first ms) (node_list first d) ts f (nodes_from n d) (nodes_among n ms) (Some (numbered n ts))
      (λ g h. inner_are n first ms ts items g h) (λ g h. list_are n first d ts items g h)

  list_are : (n first : ℕ) (d : Data) (ts : Trees) (items : Items) → Some d ≡ Some (array items) → node_list first d ≡ Ok ts
      → nodes_from n d ≡ Some (numbered n ts)
  list_are n first (array ds) ts items e f = nodes_are n first ds ts f
  list_are n first (table ms) ts items e f = let no : Some (table ms) ≡ Some (array items) = e in cc
  list_are n first (string s) ts items e f = let no : Some (string s) ≡ Some (array items) = e in cc
  list_are n first (integer z) ts items e f = let no : Some (integer z) ≡ Some (array items) = e in cc
  list_are n first (float x) ts items e f = let no : Some (float x) ≡ Some (array items) = e in cc
  list_are n first (boolean b) ts items e f = let no : Some (boolean b) ≡ Some (array items) = e in cc
  list_are n first (datetime t) ts items e f = let no : Some (datetime t) ≡ Some (array items) = e in cc

-- the nodes at their key
from_order : {A B : Type 0} (o : Ordering) (b : Bool) → is_eq o ≡ b → (rest : Option A) (x y : A)
    → match_ordering o rest (Some x) rest ≡ Some y
    → (f : A → B) (more : B) → (rest ≡ Some y → more ≡ f y) → cond b (f x) more ≡ f y
from_order ordering.Equal true e rest x y g f more k = let same : x ≡ y = cc in ap f same
from_order ordering.Less false e rest x y g f more k = k g
from_order ordering.Greater false e rest x y g f more k = k g
from_order ordering.Equal false e rest x y g f more k = let no : true ≡ false = e in cc
from_order ordering.Less true e rest x y g f more k = let no : false ≡ true = e in cc
from_order ordering.Greater true e rest x y g f more k = let no : false ≡ true = e in cc

pub among_are : (n : ℕ) (ms : Members) (d : Data) → get_member nodes_key ms ≡ Some d → nodes_among n ms ≡ nodes_from n d
among_are n no_members d e = let no : None ≡ Some d = e in cc
among_are n (member key x ms) d e =
    from_order (slice_cmp nat_cmp nodes_key key) (bytes_eq key nodes_key) (key_is key) (get_member nodes_key ms) x d e
    (nodes_from n) (nodes_among n ms) (λ g. among_are n ms d g)
