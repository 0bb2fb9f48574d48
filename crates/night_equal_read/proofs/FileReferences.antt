-- The reference numbers that guide files give are digits, or none.
use Rattle.std.proofs.Common.{◌≡◌, ℕ, ◌+◌, ◌&&◌, ◌||◌, List, [], ◌∷◌, map, Option, Some, None, Bool, true, false, refl, sym, ap, subst, ◌∙◌}
use Rattle.std.specs.Prelude.{◌-◌, ◌*◌, drop, fold, bytes_eq, codes, if◌then◌else◌, is_some, length, nat_le, option_and_then, option_map}
use Rattle.std.specs.Char.{is_ascii_alphanumeric, is_ascii_digit}
use Rattle.std.specs.List.{list_all, slice_split}
use Rattle.std.proofs.lemmas.Bool.{and_from, and_parts}
use Rattle.std.proofs.lemmas.List.Folds.{list_all-append}
use Rattle.std.proofs.lemmas.Option.{option_and_then_some}
use Rattle.toml.specs.Data.{Data, string, integer, float, boolean, datetime, array, table}
use Rattle.toml.specs.Data.{Items, no_items, item, Members, no_members, member, get_member, as_array, as_str}
use Rattle.guide_tree.specs.declared.element.Component.{Component}
use Rattle.guide_tree.specs.declared.element.Component.TheVariants as part
use Rattle.guide_tree.specs.declared.element.Element.{Element}
use Rattle.guide_tree.specs.declared.element.Element.TheVariants as row
use Rattle.guide_tree.specs.declared.element.Requirement.{Requirement}
use Rattle.guide_tree.specs.declared.element.SimpleRow.{SimpleRow}
use Rattle.guide_tree.specs.declared.slot.Slot.{Slot}
use Rattle.guide_tree.specs.Tree.{GuideTree, Tree, Trees, loop, no_trees, segment, tree}
use Rattle.night_definition.specs.Header.{divided, number_of}
use Rattle.night_definition.specs.Guides.{slots, slots_in}
use Rattle.night_definition.specs.Elements as room
use Rattle.night_definition.specs.Setup.{Setup}
use Rattle.night_definition.specs.Tables.{◌>>=◌, each, list_of, number, optional, required, table_of, texts, word}
use Rattle.night_definition.specs.GuideFile.{Words, all_of, component_of, count_in, element_of, element_text, guide_of_table, head_of}
use Rattle.night_definition.specs.GuideFile.{loop_of, no_more, node_in, nodes_among, nodes_from, nodes_of, reference_of}
use Rattle.night_definition.specs.GuideFile.{code_list, condition_of, count, dependency_of, head_or_none, hl_of, pick_of}
use Rattle.night_definition.specs.GuideFile.{requirement_of, row_of, slot_of, take_repeat, take_wide, type_of}
use Rattle.night_definition.specs.SetupFile.{counters_row, hub_of, partner_of, route_of, setup_of_tables}
use Rattle.night_definition.specs.Program.{table_in}
use Rattle.night_definition.specs.ReadBack.{has_plain_references, references_of}
use Rattle.night_equal_read.specs.Read.{FileReferencesArePlain}

abbrev is_plain : List ℕ → Bool
is_plain text = list_all is_ascii_alphanumeric text

abbrev is_row : Element → Bool
is_row r = list_all is_plain (references_of r)

abbrev is_slot : Slot × List ℕ → Bool
is_slot x = list_all is_row x.0.elements

-- what each step of a reading gave
of_step : {A B P : Type 0} (f : A → Option B) (o : Option A) (y : B) → (o >>= f) ≡ Some y
    → ((x : A) → o ≡ Some x → f x ≡ Some y → P) → P
of_step = option_and_then_some

of_map : {A B P : Type 0} (f : A → B) (o : Option A) (y : B) → option_map f o ≡ Some y → ((x : A) → o ≡ Some x → f x ≡ y → P) → P
of_map f None y e k = let no : None ≡ Some y = e in cc
of_map f (Some x) y e k = k x refl (let is : Some (f x) ≡ Some y = e in cc)

same_some : {A : Type 0} (x y : A) → Some x ≡ Some y → x ≡ y
same_some x y e = cc

-- digits are letters or digits
digit_plain : (b : ℕ) → is_ascii_digit b ≡ true → is_ascii_alphanumeric b ≡ true
digit_plain b is = first_of (is_ascii_digit b) _ _ is
  where
    first_of : (a b c : Bool) → a ≡ true → ((a || b) || c) ≡ true
    first_of true b c is = refl
    first_of false b c is = cc

digits_plain : (text : List ℕ) → list_all is_ascii_digit text ≡ true → is_plain text ≡ true
digits_plain [] all = refl
digits_plain (b ∷ text) all =
    let both = and_parts (is_ascii_digit b) (list_all is_ascii_digit text) all in
    and_from (is_ascii_alphanumeric b) (is_plain text) (digit_plain b both.0) (digits_plain text both.1)

if_some : (b : Bool) (v n : ℕ) → (if b then Some v else None) ≡ Some n → b ≡ true
if_some true v n e = refl
if_some false v n e = let no : None ≡ Some n = e in cc

number_plain : (most : ℕ) (text : List ℕ) (n : ℕ) → number_of most text ≡ Some n → is_plain text ≡ true
number_plain most text n e =
    digits_plain text (and_parts (nat_le 1 (length text) && nat_le (length text) most) (list_all is_ascii_digit text)
    (if_some (nat_le 1 (length text) && nat_le (length text) most && list_all is_ascii_digit text)
    (fold (λ m digit. 10 * m + (digit - 48)) 0 text) n e)).1

reference_plain : (t reference : List ℕ) → reference_of t ≡ Some reference → is_plain reference ≡ true
reference_plain t reference e = by (bytes_eq t (codes "-")) e
  where
    by : (b : Bool) → (if b then Some [] else (number_of 4 t >>= λ n. Some t)) ≡ Some reference → is_plain reference ≡ true
    by true e = ap is_plain (sym (same_some [] reference e))
    by false e =
        of_step (λ n. Some t) (number_of 4 t) reference e (λ n is same.
        ap is_plain (sym (same_some t reference same)) ∙ number_plain 4 t n is)

row_reference : (reference : List ℕ) (q : Requirement) (type least most : List ℕ) (ts : Words) (r : SimpleRow)
    → row_of reference q type least most ts ≡ Some r → reference ≡ r.reference
row_reference reference q type least most ts r e =
    of_step _ (type_of type) r e (λ t is_t e1. of_step _ (count least) r e1 (λ a is_a e2. of_step _ (count most) r e2 (λ b is_b e3.
    of_step _ (code_list (take_wide ts).1) r e3 (λ listed is_listed e4.
    let made : SimpleRow = record {
      reference = reference;
      requirement = q;
      data_type = t;
      min = a;
      max = b;
      wide = (take_wide ts).0;
      codes = listed;
    } in
    ap (λ (x : SimpleRow). x.reference) (same_some made r e4)))))

unused_component : (b : Bool) (reference : Option (List ℕ)) (c : Component) → ((t : List ℕ) → reference ≡ Some t → is_plain t ≡ true)
    → (if b then option_map part.NotUsed reference else None) ≡ Some c → is_plain (room.component_reference c) ≡ true
unused_component true reference c plain e =
    of_map part.NotUsed reference c e (λ t is same. ap (λ x. is_plain (room.component_reference x)) (sym same) ∙ plain t is)
unused_component false reference c plain e = let no : None ≡ Some c = e in cc

component_plain : (ts : Words) (c : Component) → component_of ts ≡ Some c → is_plain (room.component_reference c) ≡ true
component_plain [] c e = let no : None ≡ Some c = e in cc
component_plain (ref ∷ []) c e = let no : None ≡ Some c = e in cc
component_plain (ref ∷ usage ∷ []) c e =
    unused_component (bytes_eq usage (codes "N")) (reference_of ref) c (λ t is. reference_plain ref t is) e
component_plain (ref ∷ usage ∷ type ∷ []) c e = let no : None ≡ Some c = e in cc
component_plain (ref ∷ usage ∷ type ∷ least ∷ []) c e = let no : None ≡ Some c = e in cc
component_plain (ref ∷ usage ∷ type ∷ least ∷ most ∷ ts) c e =
    of_step _ (reference_of ref) c e (λ reference is_reference e1. of_step _ _ c e1 (λ q is_q e2.
    of_map part.Simple (row_of reference q type least most ts) c e2 (λ r is_r same.
    ap (λ x. is_plain (room.component_reference x)) (sym same) ∙ ap is_plain (sym (row_reference reference q type least most ts r is_r))
    ∙ reference_plain ref reference is_reference)))

components_plain : (gs : List Words) (cs : List Component) → all_of (map component_of gs) ≡ Some cs
    → list_all is_plain (map room.component_reference cs) ≡ true
components_plain [] cs e = ap (λ (l : List Component). list_all is_plain (map room.component_reference l)) (sym (same_some [] cs e))
components_plain (g ∷ gs) cs e =
    of_step _ (component_of g) cs e (λ c is_c e1. of_map (λ (more : List Component). c ∷ more) (all_of (map component_of gs)) cs e1
    (λ more is_more same.
    ap (λ (l : List Component). list_all is_plain (map room.component_reference l)) (sym same)
    ∙ and_from (is_plain (room.component_reference c)) (list_all is_plain (map room.component_reference more))
    (component_plain g c is_c) (components_plain gs more is_more)))

one_plain : (x : List ℕ) → is_plain x ≡ true → list_all is_plain (x ∷ []) ≡ true
one_plain x plain = and_from (is_plain x) true plain refl

unused_row : (b : Bool) (reference : Option (List ℕ)) (r : Element) → ((t : List ℕ) → reference ≡ Some t → is_plain t ≡ true)
    → (if b then option_map row.NotUsed reference else None) ≡ Some r → is_row r ≡ true
unused_row true reference r plain e = of_map row.NotUsed reference r e (λ t is same. ap is_row (sym same) ∙ one_plain t (plain t is))
unused_row false reference r plain e = let no : None ≡ Some r = e in cc

simple_row : (reference : List ℕ) (q : Requirement) (type least most : List ℕ) (ts : Words) (n : ℕ) (r : Element)
    → is_plain reference ≡ true → option_map (λ s. row.Simple s n) (row_of reference q type least most ts) ≡ Some r → is_row r ≡ true
simple_row reference q type least most ts n r plain e =
    of_map (λ s. row.Simple s n) (row_of reference q type least most ts) r e (λ s is_s same.
    ap is_row (sym same)
    ∙ one_plain s.reference (ap is_plain (sym (row_reference reference q type least most ts s is_s)) ∙ plain))

no_more_is : {A : Type 0} (x y : A) (ts : Words) → no_more x ts ≡ Some y → x ≡ y
no_more_is x y [] e = same_some x y e
no_more_is x y (t ∷ ts) e = let no : None ≡ Some y = e in cc

composite_row : (reference : List ℕ) (q : Requirement) (ts : Words) (groups : List Words) (r : Element) → is_plain reference ≡ true
    → ((no_more (take_repeat ts).0 (take_repeat ts).1) >>= λ n. all_of (map component_of groups) >>= λ cs.
    Some (row.Composite (record { reference = reference; requirement = q; repeat = n; components = cs }))) ≡ Some r → is_row r ≡ true
composite_row reference q ts groups r plain e =
    of_step _ (no_more (take_repeat ts).0 (take_repeat ts).1) r e (λ n is_n e1.
    of_step _ (all_of (map component_of groups)) r e1 (λ cs is_cs e2.
    ap is_row (sym (same_some _ r e2))
    ∙ and_from (is_plain reference) (list_all is_plain (map room.component_reference cs)) plain (components_plain groups cs is_cs)))

if_either : (b : Bool) (first second : Option Element) (r : Element) → (first ≡ Some r → is_row r ≡ true)
    → (second ≡ Some r → is_row r ≡ true)
    → (if b then first else second) ≡ Some r → is_row r ≡ true
if_either true first second r from_first from_second e = from_first e
if_either false first second r from_first from_second e = from_second e

nothing : (r : Element) → None ≡ Some r → is_row r ≡ true
nothing r e = cc

-- an element that the guide uses: a composite, or what else it may be
used_row : (ref usage type : List ℕ) (ts : Words) (groups : List Words) (r : Element) (rest : List ℕ → Requirement → Option Element)
    → ((reference : List ℕ) (q : Requirement) → is_plain reference ≡ true → rest reference q ≡ Some r → is_row r ≡ true)
    → (reference_of ref >>= λ reference. requirement_of usage >>= λ q.
    if bytes_eq type (codes "C")
    then (no_more (take_repeat ts).0 (take_repeat ts).1 >>= λ n. all_of (map component_of groups) >>= λ cs.
    Some (row.Composite (record { reference = reference; requirement = q; repeat = n; components = cs })))
    else rest reference q) ≡ Some r
    → is_row r ≡ true
used_row ref usage type ts groups r rest of_rest e =
    of_step _ (reference_of ref) r e (λ reference is_reference e1. of_step _ (requirement_of usage) r e1 (λ q is_q e2.
    let plain : is_plain reference ≡ true = reference_plain ref reference is_reference in
    if_either (bytes_eq type (codes "C")) _ (rest reference q) r (composite_row reference q ts groups r plain)
    (of_rest reference q plain) e2))

element_plain : (ts : Words) (groups : List Words) (r : Element) → element_of ts groups ≡ Some r → is_row r ≡ true
element_plain [] groups r e = nothing r e
element_plain (ref ∷ []) groups r e = nothing r e
element_plain (ref ∷ usage ∷ []) [] r e =
    unused_row (bytes_eq usage (codes "N")) (reference_of ref) r (λ t is. reference_plain ref t is) e
element_plain (ref ∷ usage ∷ []) (g ∷ gs) r e = nothing r e
element_plain (ref ∷ usage ∷ type ∷ []) groups r e =
    used_row ref usage type [] groups r (λ reference q. None) (λ reference q plain. nothing r) e
element_plain (ref ∷ usage ∷ type ∷ least ∷ []) groups r e =
    used_row ref usage type (least ∷ []) groups r (λ reference q. None) (λ reference q plain. nothing r) e
element_plain (ref ∷ usage ∷ type ∷ least ∷ most ∷ ts) [] r e =
    used_row ref usage type (least ∷ most ∷ ts) [] r
    (λ reference q. option_map (λ s. row.Simple s (take_repeat ts).0) (row_of reference q type least most (take_repeat ts).1))
    (λ reference q plain. simple_row reference q type least most (take_repeat ts).1 (take_repeat ts).0 r plain) e
element_plain (ref ∷ usage ∷ type ∷ least ∷ most ∷ ts) (g ∷ gs) r e =
    used_row ref usage type (least ∷ most ∷ ts) (g ∷ gs) r (λ reference q. None) (λ reference q plain. nothing r) e

abbrev groups_in : List ℕ → List Words
groups_in text = slice_split (λ t. bytes_eq t (codes ";")) (divided 32 text)

text_plain : (text : List ℕ) (r : Element) → element_text text ≡ Some r → is_row r ≡ true
text_plain text r e = element_plain (head_or_none (groups_in text)) (drop 1 (groups_in text)) r e

each_plain : (ds : Items) (xs : List Element) → each (λ e. as_str e >>= element_text) ds ≡ Some xs → list_all is_row xs ≡ true
each_plain no_items xs e = ap (list_all is_row) (sym (same_some [] xs e))
each_plain (item d ds) xs e =
    of_step _ (as_str d >>= element_text) xs e (λ x is_x e1.
    of_map (λ (more : List Element). x ∷ more) (each (λ e. as_str e >>= element_text) ds) xs e1 (λ more is_more same.
    of_step element_text (as_str d) x is_x (λ text is_text e2.
    ap (list_all is_row) (sym same)
    ∙ and_from (is_row x) (list_all is_row more) (text_plain text x e2) (each_plain ds more is_more))))

elements_plain : (ms : Members) (xs : List Element) → required (texts element_text) (codes "elements") ms ≡ Some xs
    → list_all is_row xs ≡ true
elements_plain ms xs e =
    of_step (texts element_text) (get_member (codes "elements") ms) xs e (λ d is_d e1.
    of_step (each (λ e. as_str e >>= element_text)) (as_array d) xs e1 (λ ds is_ds e2. each_plain ds xs e2))

slot_plain : (n : ℕ) (ms : Members) (s : Slot) → slot_of n ms ≡ Some s → list_all is_row s.elements ≡ true
slot_plain n ms s e =
    of_step _ (required as_str (codes "seg") ms) s e (λ id is_id e1. of_step _ (required number (codes "min") ms) s e1 (λ least is_least e2.
    of_step _ (required number (codes "max") ms) s e2 (λ most is_most e3.
    of_step _ (optional None (λ d. option_map Some (word 1 20 d)) (codes "label") ms) s e3 (λ label is_label e4.
    of_step _ (optional [] (texts pick_of) (codes "pick") ms) s e4 (λ picks is_picks e5.
    of_step _ (required (texts element_text) (codes "elements") ms) s e5 (λ elements is_elements e6.
    of_step _ (optional [] (texts condition_of) (codes "conditions") ms) s e6 (λ conditions is_conditions e7.
    let made : Slot = record {
      number = n;
      id = id;
      label = label;
      min = least;
      max = most;
      picks = picks;
      elements = elements;
      conditions = conditions;
    } in
    ap (λ (x : Slot). list_all is_row x.elements) (sym (same_some made s e7)) ∙ elements_plain ms elements is_elements)))))))

-- a node's slots have plain references
abbrev IsNodePlain : Tree → Type 0
IsNodePlain t = (id : List ℕ) → list_all is_slot (slots_in id t) ≡ true

abbrev AreNodesPlain : Trees → Type 0
AreNodesPlain ts = (id : List ℕ) → list_all is_slot (slots id ts) ≡ true

segment_plain : (n : ℕ) (ms : Members) (t : Tree) → option_map segment (slot_of n ms) ≡ Some t → IsNodePlain t
segment_plain n ms t e =
    of_map segment (slot_of n ms) t e (λ s is_s same.
    subst IsNodePlain same (λ id. and_from (list_all is_row s.elements) true (slot_plain n ms s is_s) refl))

loop_plain : (n : ℕ) (ms : Members) (inner : Option Trees) (t : Tree) → ((ts : Trees) → inner ≡ Some ts → AreNodesPlain ts)
    → (loop_of n ms >>= λ l. inner >>= λ ts. Some (loop l ts)) ≡ Some t → IsNodePlain t
loop_plain n ms inner t plain e =
    of_step _ (loop_of n ms) t e (λ l is_l e1. of_step _ inner t e1 (λ ts is_ts e2.
    subst IsNodePlain (same_some (loop l ts) t e2) (λ id. plain ts is_ts l.id)))

by_node : (n : ℕ) (ms : Members) (inner : Option Trees) (t : Tree) (a b : Bool) → ((ts : Trees) → inner ≡ Some ts → AreNodesPlain ts)
    → (if a then (if b then None else (loop_of n ms >>= λ l. inner >>= λ ts. Some (loop l ts))) else option_map segment (slot_of n ms))
    ≡ Some t → IsNodePlain t
by_node n ms inner t true true plain e = let no : None ≡ Some t = e in cc
by_node n ms inner t true false plain e = loop_plain n ms inner t plain e
by_node n ms inner t false b plain e = segment_plain n ms t e

none_node : (t : Tree) → None ≡ Some t → IsNodePlain t
none_node t e = cc

none_nodes : (ts : Trees) → None ≡ Some ts → AreNodesPlain ts
none_nodes ts e = cc

either_nodes : (b : Bool) (first second : Option Trees) (ts : Trees) → (first ≡ Some ts → AreNodesPlain ts)
    → (second ≡ Some ts → AreNodesPlain ts)
    → (if b then first else second) ≡ Some ts → AreNodesPlain ts
either_nodes true first second ts from_first from_second e = from_first e
either_nodes false first second ts from_first from_second e = from_second e

mutual
  nodes_plain : (n : ℕ) (ds : Items) (ts : Trees) → nodes_of n ds ≡ Some ts → AreNodesPlain ts
  nodes_plain n no_items ts e = subst AreNodesPlain (same_some no_trees ts e) (λ id. refl)
  nodes_plain n (item d ds) ts e =
      of_step _ (node_in n d) ts e (λ t is_t e1. of_step _ (nodes_of (n + count_in t) ds) ts e1 (λ more is_more e2.
      subst AreNodesPlain (same_some (tree t more) ts e2) (λ id.
      list_all-append is_slot (slots_in id t) (slots id more)
      ∙ and_from (list_all is_slot (slots_in id t)) (list_all is_slot (slots id more)) (node_plain n d t is_t id)
      (nodes_plain (n + count_in t) ds more is_more id))))

  node_plain : (n : ℕ) (d : Data) (t : Tree) → node_in n d ≡ Some t → IsNodePlain t
  node_plain n (table ms) t e =
      by_node n ms (nodes_among (n + 1) ms) t (is_some (get_member (codes "loop") ms)) (is_some (get_member (codes "seg") ms))
      (λ ts h. among_plain (n + 1) ms ts h) e
  node_plain n (string s) t e = none_node t e
  node_plain n (integer z) t e = none_node t e
  node_plain n (float x) t e = none_node t e
  node_plain n (boolean b) t e = none_node t e
  node_plain n (datetime x) t e = none_node t e
  node_plain n (array ds) t e = none_node t e

  among_plain : (n : ℕ) (ms : Members) (ts : Trees) → nodes_among n ms ≡ Some ts → AreNodesPlain ts
  among_plain n no_members ts e = none_nodes ts e
  among_plain n (member key d ms) ts e =
      either_nodes (bytes_eq key (codes "nodes")) (nodes_from n d) (nodes_among n ms) ts (from_plain n d ts) (among_plain n ms ts) e

  from_plain : (n : ℕ) (d : Data) (ts : Trees) → nodes_from n d ≡ Some ts → AreNodesPlain ts
  from_plain n (array ds) ts e = nodes_plain n ds ts e
  from_plain n (table ms) ts e = none_nodes ts e
  from_plain n (string s) ts e = none_nodes ts e
  from_plain n (integer z) ts e = none_nodes ts e
  from_plain n (float x) ts e = none_nodes ts e
  from_plain n (boolean b) ts e = none_nodes ts e
  from_plain n (datetime x) ts e = none_nodes ts e

guide_plain : (ms : Members) (g : GuideTree) → guide_of_table ms ≡ Some g → has_plain_references g ≡ true
guide_plain ms g e =
    of_step _ (head_of ms) g e (λ head is_head e1.
    of_step _ (optional None (λ d. option_map Some (table_of hl_of d)) (codes "hl") ms) g e1 (λ rule is_rule e2.
    of_step _ (optional [] (list_of (table_of dependency_of)) (codes "depends") ms) g e2 (λ rows is_rows e3.
    of_step _ (nodes_among 1 ms) g e3 (λ nodes is_nodes e4.
    let made : GuideTree = record { head = head; hl = rule; depends = rows; nodes = nodes } in
    ap has_plain_references (sym (same_some made g e4)) ∙ among_plain 1 ms nodes is_nodes []))))

files_plain : (files : List (List ℕ)) (gs : List GuideTree)
    → all_of (map (λ bytes. option_and_then guide_of_table (table_in bytes)) files) ≡ Some gs → list_all has_plain_references gs ≡ true
files_plain [] gs e = ap (list_all has_plain_references) (sym (same_some [] gs e))
files_plain (bytes ∷ files) gs e =
    of_step _ (option_and_then guide_of_table (table_in bytes)) gs e (λ g is_g e1.
    of_map (λ (more : List GuideTree). g ∷ more) (all_of (map (λ bytes. option_and_then guide_of_table (table_in bytes)) files)) gs e1
    (λ more is_more same.
    of_step guide_of_table (table_in bytes) g is_g (λ ms is_ms e2.
    ap (list_all has_plain_references) (sym same)
    ∙ and_from (has_plain_references g) (list_all has_plain_references more) (guide_plain ms g e2) (files_plain files more is_more))))

tables_guides : (setup counters : Members) (gs : List GuideTree) (s : Setup) → setup_of_tables setup counters gs ≡ Some s → s.guides ≡ gs
tables_guides setup counters gs s e =
    of_step _ (optional [] (list_of (table_of counters_row)) (codes "counter") counters) s e (λ rows is_rows e1.
    of_step _ (required (table_of hub_of) (codes "hub") setup) s e1 (λ hub is_hub e2.
    of_step _ (required (list_of (table_of (partner_of rows gs))) (codes "partner") setup) s e2 (λ partners is_partners e3.
    of_step _ (optional [] (list_of (table_of (route_of partners))) (codes "route") setup) s e3 (λ routes is_routes e4.
    let made : Setup = record { hub = hub; partners = partners; routes = routes; guides = gs } in
    ap (λ (x : Setup). x.guides) (sym (same_some made s e4))))))

pub references : FileReferencesArePlain
references setup counters guides s e =
    of_step _ (all_of (map (λ bytes. option_and_then guide_of_table (table_in bytes)) guides)) s e (λ gs is_gs e1.
    of_step _ (table_in setup) s e1 (λ t is_t e2. of_step _ (table_in counters) s e2 (λ c is_c e3.
    ap (list_all has_plain_references) (tables_guides t c gs s e3) ∙ files_plain guides gs is_gs)))
