-- The rows that a guide file writes have reference numbers of digits, or none.
use Rattle.std.proofs.Common.{◌≡◌, ◌⊎◌, inl, inr, ℕ, ◌+◌, List, [], ◌∷◌, Option, Some, None, Result, Ok, Err, Bool, true, false}
use Rattle.std.proofs.Common.{option_map, refl, sym, ap, subst, codes, if◌then◌else◌}
use Rattle.std.specs.declared.cmp.Ordering.{Ordering}
use Rattle.std.specs.declared.cmp.Ordering.TheVariants as ordering
use Rattle.std.specs.List.{All}
use Rattle.std.specs.Str.{bytes_eq}
use Rattle.std.specs.Ordering.{nat_cmp, match_ordering}
use Rattle.std.specs.Cmp.Lexicographic.{slice_cmp}
use Rattle.std.proofs.lemmas.List.Elements.{All-cons, All-nil}
use Rattle.std.proofs.lemmas.Option.{option_and_then_some}
use Rattle.toml.specs.Data.{Data, string, integer, float, boolean, datetime, array, table}
use Rattle.toml.specs.Data.{Items, no_items, item, Members, no_members, member, get_member, as_array, as_str}
use Rattle.hub_kinds.specs.Words.{is_number}
use Rattle.guide_tree.specs.declared.element.Component.{Component}
use Rattle.guide_tree.specs.declared.element.Component.TheVariants as component
use Rattle.guide_tree.specs.declared.element.Element.{Element}
use Rattle.guide_tree.specs.declared.element.Element.TheVariants as element
use Rattle.guide_tree.specs.declared.element.Requirement.{Requirement}
use Rattle.guide_tree.specs.declared.element.SimpleRow.{SimpleRow}
use Rattle.guide_tree.specs.declared.slot.Slot.{Slot}
use Rattle.guide_tree.specs.declared.rows.GuideRows.{GuideRows}
use Rattle.guide_tree.specs.Words.{EachIn, EachNode, GuideTree, Tree, Trees, count_in, loop, no_trees, numbered, numbered_in, segment}
use Rattle.guide_tree.specs.Words.{tree, guide_of}
use Rattle.guide_toml.specs.declared.element_text.Measure.{Measure}
use Rattle.guide_toml.specs.declared.keys.TableKind.TheVariants as kind
use Rattle.guide_toml.specs.declared.nodes.NodeKind.{NodeKind}
use Rattle.guide_toml.specs.declared.nodes.NodeKind.TheVariants as node
use Rattle.guide_toml.specs.Answers.{Answers}
use Rattle.guide_toml.specs.ElementTexts.{Tokens, alone, component_of, components_behind, components_of_tokens, composite_of, element_in}
use Rattle.guide_toml.specs.ElementTexts.{element_of_text, measure_of, next_token, no_more, reference_of, requirement_of, row_of_tokens}
use Rattle.guide_toml.specs.ElementTexts.{simple_of, take_repeat, used_component, used_element}
use Rattle.guide_toml.specs.Entries.{condition_of, pick_of}
use Rattle.guide_toml.specs.Guides.{guide_of_table, inner_nodes, known_keys, node_list, loop_of, node_by, node_by_table, node_kind}
use Rattle.guide_toml.specs.Guides.{nodes_in}
use Rattle.guide_toml.specs.Guides.{segment_of, guide_top}
use Rattle.guide_toml.specs.Keys.{keys_of}
use Rattle.guide_toml.specs.Refused.{Refused, ◌⊳◌ as ◌▷◌, at_slot, number_after}
use Rattle.toml_keys.specs.Keys.{if_known, least_unknown}
use Rattle.toml_keys.specs.Reads.{◌>>=◌}
use Rattle.toml_keys.specs.Refusals.{Refusal, unknown, wrong_kind}
use Rattle.guide_toml.specs.References.{HasReference, HasReferences, HasReferencesIn, IsReference, WritesReferences}
use Rattle.toml_keys.specs.Tables.{◌>>=◌ as ◌⊳◌, asked, count_of_data as number_in, each_item, optional, required, required_of}
use Rattle.toml_keys.specs.Tables.{some_word_in}
use Rattle.guide_toml.specs.Values.{text_item, texts_in}
use Rattle.guide_toml.specs.Tokens.{token_groups}

abbrev ok : {A : Type 0} → A → Result A Refusal
ok x = Ok x

of_result : {A : Type 0} (x y : A) → ok x ≡ ok y → x ≡ y
of_result x y e = cc

abbrev placed_ok : {A : Type 0} → A → Result A Refused
placed_ok x = Ok x

of_placed_result : {A : Type 0} (x y : A) → placed_ok x ≡ placed_ok y → x ≡ y
of_placed_result x y e = cc

-- what each step of a reading gave
of_step : {A B P : Type 0} (f : A → Option B) (o : Option A) (y : B) → (o >>= f) ≡ Some y
    → ((x : A) → o ≡ Some x → f x ≡ Some y → P) → P
of_step = option_and_then_some

of_map : {A B P : Type 0} (f : A → B) (o : Option A) (y : B) → option_map f o ≡ Some y → ((x : A) → o ≡ Some x → f x ≡ y → P) → P
of_map f None y e k = let no : None ≡ Some y = e in cc
of_map f (Some x) y e k = k x refl (let is : Some (f x) ≡ Some y = e in cc)

of_ok : {A B P : Type 0} (f : A → Result B Refusal) (r : Result A Refusal) (y : B) → (r ⊳ f) ≡ Ok y
    → ((x : A) → r ≡ Ok x → f x ≡ Ok y → P) → P
of_ok f (Ok x) y e k = k x refl e
of_ok f (Err r) y e k = let no : Err r ≡ Ok y = e in cc

reference_by : (dash digits : Bool) (t reference : List ℕ) → is_number 4 t ≡ digits
    → (if dash then Some [] else (if digits then Some t else None)) ≡ Some reference → IsReference reference
reference_by true digits t reference h e = let is : Some [] ≡ Some reference = e in inl cc
reference_by false true t reference h e =
    let is : Some t ≡ Some reference = e in
    let same : t ≡ reference = cc in
    inr (subst (λ (x : List ℕ). is_number 4 x ≡ true) same h)
reference_by false false t reference h e = let no : None ≡ Some reference = e in cc

has_reference : (t reference : List ℕ) → reference_of t ≡ Some reference → IsReference reference
has_reference t reference e = reference_by (bytes_eq t (codes "-")) (is_number 4 t) t reference refl e

same_row : (reference : List ℕ) (req : Requirement) (m : Measure) (ts : Tokens) (row : SimpleRow) → row_of_tokens reference req m ts
    ≡ Some row
    → reference ≡ row.reference
same_row reference req m ts row e = of_map _ _ row e (λ c is same. ap (λ (r : SimpleRow). r.reference) same)

row_has : (reference : List ℕ) (req : Requirement) (m : Measure) (ts : Tokens) (row : SimpleRow) → row_of_tokens reference req m ts
    ≡ Some row
    → IsReference reference → IsReference row.reference
row_has reference req m ts row e has = subst IsReference (same_row reference req m ts row e) has

component_is : (c d : Component) → Some c ≡ Some d → HasReference c → HasReference d
component_is c d e has = let same : c ≡ d = cc in subst HasReference same has

element_is : (c d : Element) → Some c ≡ Some d → HasReferences c → HasReferences d
element_is c d e has = let same : c ≡ d = cc in subst HasReferences same has

no_more_is : {A : Type 0} (x y : A) (ts : Tokens) → no_more x ts ≡ Some y → Some x ≡ Some y
no_more_is x y [] e = e
no_more_is x y (t ∷ ts) e = let no : None ≡ Some y = e in cc

used_component_has : (reference word : List ℕ) (ts : Tokens) (c : Component) → used_component reference word ts ≡ Some c
    → IsReference reference → HasReference c
unfolding used_component
used_component_has reference word ts c e has =
    of_step _ (requirement_of word) c e (λ req is_req e1. of_step _ (measure_of ts) c e1 (λ (m : Measure × Tokens) is_m e2.
    of_step _ (row_of_tokens reference req m.0 m.1) c e2 (λ row is_row e3.
    component_is (component.Simple row) c e3 (row_has reference req m.0 m.1 row is_row has))))

component_by : (b : Bool) (reference word : List ℕ) (ts : Tokens) (c : Component)
    → (if b then no_more (component.NotUsed reference) ts else used_component reference word ts) ≡ Some c → IsReference reference
    → HasReference c
component_by true reference word ts c e has =
    component_is (component.NotUsed reference) c (no_more_is (component.NotUsed reference) c ts e) has
component_by false reference word ts c e has = used_component_has reference word ts c e has

component_has : (ts : Tokens) (c : Component) → component_of ts ≡ Some c → HasReference c
unfolding component_of
component_has ts c e =
    of_step _ (next_token ts) c e (λ (r : List ℕ × Tokens) is_r e1. of_step _ (reference_of r.0) c e1 (λ reference is_reference e2.
    of_step _ (next_token r.1) c e2 (λ (u : List ℕ × Tokens) is_u e3.
    component_by (bytes_eq u.0 (codes "N")) reference u.0 u.1 c e3 (has_reference r.0 reference is_reference))))

none_of_any : {A : Type 0} (P : A → Type 0) (xs : List A) → Some [] ≡ Some xs → All P xs
none_of_any P xs e = let same : [] ≡ xs = cc in subst (All P) same (All-nil P)

components_have : (gs : List Tokens) (cs : List Component) → components_of_tokens gs ≡ Some cs → All HasReference cs
components_have [] cs e = none_of_any HasReference cs e
components_have (g ∷ gs) cs e =
    of_step _ (component_of g) cs e (λ c is_c e1.
    of_map (λ (more : List Component). c ∷ more) (components_of_tokens gs) cs e1 (λ more is_more same.
    subst (All HasReference) same (All-cons HasReference c more (component_has g c is_c) (components_have gs more is_more))))

behind_have : (later : Option Tokens) (cs : List Component) → components_behind later ≡ Some cs → All HasReference cs
behind_have None cs e = none_of_any HasReference cs e
behind_have (Some ts) cs e = components_have (token_groups ts) cs e

alone_is : (later : Option Tokens) (o : Option Element) (x : Element) → alone later o ≡ Some x → o ≡ Some x
alone_is None o x e = e
alone_is (Some ts) o x e = let no : None ≡ Some x = e in cc

simple_has : (reference : List ℕ) (req : Requirement) (ts : Tokens) (x : Element) → simple_of reference req ts ≡ Some x
    → IsReference reference → HasReferences x
unfolding simple_of
simple_has reference req ts x e has =
    of_step _ (measure_of ts) x e (λ (m : Measure × Tokens) is_m e1.
    of_step _ (row_of_tokens reference req m.0 (take_repeat m.1).1) x e1 (λ row is_row e2.
    element_is (element.Simple row (take_repeat m.1).0) x e2 (row_has reference req m.0 (take_repeat m.1).1 row is_row has)))

composite_has : (reference : List ℕ) (req : Requirement) (ts : Tokens) (later : Option Tokens) (x : Element)
    → composite_of reference req ts later ≡ Some x → IsReference reference → HasReferences x
unfolding composite_of
composite_has reference req ts later x e has =
    of_step _ (no_more (take_repeat ts).0 (take_repeat ts).1) x e (λ count is_count e1.
    of_step _ (components_behind later) x e1 (λ components is_components e2.
    element_is (element.Composite (record { reference = reference; requirement = req; repeat = count; components = components })) x e2
    (has, behind_have later components is_components)))

used_by : (b : Bool) (reference : List ℕ) (req : Requirement) (ts all : Tokens) (later : Option Tokens) (x : Element)
    → (if b then composite_of reference req ts later else alone later (simple_of reference req all)) ≡ Some x → IsReference reference
    → HasReferences x
used_by true reference req ts all later x e has = composite_has reference req ts later x e has
used_by false reference req ts all later x e has =
    simple_has reference req all x (alone_is later (simple_of reference req all) x e) has

used_has : (reference word : List ℕ) (ts : Tokens) (later : Option Tokens) (x : Element) → used_element reference word ts later ≡ Some x
    → IsReference reference → HasReferences x
unfolding used_element
used_has reference word ts later x e has =
    of_step _ (requirement_of word) x e (λ req is_req e1. of_step _ (next_token ts) x e1 (λ (t : List ℕ × Tokens) is_t e2.
    used_by (bytes_eq t.0 (codes "C")) reference req t.1 ts later x e2 has))

element_by : (b : Bool) (reference word : List ℕ) (ts : Tokens) (later : Option Tokens) (x : Element)
    → (if b then alone later (no_more (element.NotUsed reference) ts) else used_element reference word ts later) ≡ Some x
    → IsReference reference → HasReferences x
element_by true reference word ts later x e has =
    element_is (element.NotUsed reference) x (no_more_is (element.NotUsed reference) x ts (alone_is later _ x e)) has
element_by false reference word ts later x e has = used_has reference word ts later x e has

element_in_has : (head : Tokens) (later : Option Tokens) (x : Element) → element_in head later ≡ Some x → HasReferences x
unfolding element_in
element_in_has head later x e =
    of_step _ (next_token head) x e (λ (r : List ℕ × Tokens) is_r e1. of_step _ (reference_of r.0) x e1 (λ reference is_reference e2.
    of_step _ (next_token r.1) x e2 (λ (u : List ℕ × Tokens) is_u e3.
    element_by (bytes_eq u.0 (codes "N")) reference u.0 u.1 later x e3 (has_reference r.0 reference is_reference))))

each_has : (ds : Items) (xs : List Element) → each_item (text_item element_of_text) ds ≡ Some xs → All HasReferences xs
each_has no_items xs e = none_of_any HasReferences xs e
each_has (item d ds) xs e =
    option_and_then_some _ (text_item element_of_text d) xs e (λ x is_x e1.
    of_map (λ (more : List Element). x ∷ more) (each_item (text_item element_of_text) ds) xs e1 (λ more is_more same.
    option_and_then_some element_of_text (as_str d) x is_x (λ text is_text e2.
    subst (All HasReferences) same (All-cons HasReferences x more (element_in_has _ _ x e2) (each_has ds more is_more)))))

list_has : (d : Data) (xs : List Element) → texts_in element_of_text d ≡ Some xs → All HasReferences xs
list_has d xs e = option_and_then_some _ (as_array d) xs e (λ ds is_ds e1. each_has ds xs e1)

asked_has : (key : List ℕ) (o : Option (List Element)) (xs : List Element) → asked key o ≡ Ok xs → o ≡ Some xs
asked_has key None xs e = let no : asked key None ≡ Ok xs = e in cc
asked_has key (Some ys) xs e = let is : Ok ys ≡ Ok xs = e in cc

required_has : (key : List ℕ) (o : Option Data) (xs : List Element) → required_of (texts_in element_of_text) key o ≡ Ok xs
    → All HasReferences xs
required_has key None xs e = let no : required_of (texts_in element_of_text) key None ≡ Ok xs = e in cc
required_has key (Some d) xs e = list_has d xs (asked_has key (texts_in element_of_text d) xs e)

segment_has : (ms : Members) (s : Slot) → segment_of ms ≡ Ok s → All HasReferences s.elements
unfolding segment_of
segment_has ms s e =
    of_ok _ (required as_str (codes "seg") ms) s e (λ id is_id e1. of_ok _ (required number_in (codes "min") ms) s e1 (λ least is_least e2.
    of_ok _ (required number_in (codes "max") ms) s e2 (λ most is_most e3.
    of_ok _ (optional None (some_word_in 1 20) (codes "label") ms) s e3 (λ label is_label e4.
    of_ok _ (optional [] (texts_in pick_of) (codes "pick") ms) s e4 (λ picks is_picks e5.
    of_ok _ (required (texts_in element_of_text) (codes "elements") ms) s e5 (λ elements is_elements e6.
    of_ok _ (optional [] (texts_in condition_of) (codes "conditions") ms) s e6 (λ conditions is_conditions e7.
    let same : elements ≡ s.elements = ap (λ (x : Slot). x.elements) (of_result _ s e7) in
    subst (All HasReferences) same (required_has (codes "elements") (get_member (codes "elements") ms) elements is_elements))))))))

known_is : {A : Type 0} (o : Option (List ℕ)) (r : Result A Refusal) (x : A) → if_known o r ≡ Ok x → r ≡ Ok x
known_is None r x e = e
known_is (Some key) r x e = let no : Err (unknown key) ≡ Ok x = e in cc

tree_is : (t u : Tree) → ok t ≡ ok u → EachIn HasReferencesIn t → EachIn HasReferencesIn u
tree_is t u e has = let same : t ≡ u = cc in subst (EachIn HasReferencesIn) same has

segment_node_has : (ms : Members) (t : Tree) → (segment_of ms ⊳ (λ s. Ok (segment s))) ≡ Ok t → EachIn HasReferencesIn t
segment_node_has ms t e = of_ok _ (segment_of ms) t e (λ s is_s e1. tree_is (segment s) t e1 (segment_has ms s is_s))

-- the same of readings with places
of_placed : {A B P : Type 0} (f : A → Result B Refused) (r : Result A Refused) (y : B) → (r ▷ f) ≡ Ok y
    → ((x : A) → r ≡ Ok x → f x ≡ Ok y → P) → P
of_placed f (Ok x) y e k = k x refl e
of_placed f (Err r) y e k = let no : Err r ≡ Ok y = e in cc

no_value : {A : Type 0} (r : Refused) (x : A) → Err r ≡ placed_ok x → ⊥
no_value r x e = cc

own_table : {A : Type 0} (slot : ℕ) (r : Result A Refusal) (x : A) → at_slot slot r ≡ Ok x → r ≡ Ok x
own_table slot (Ok y) x e = let same : y ≡ x = cc in ap Ok same
own_table slot (Err r) x e = absurd (no_value (slot, r) x e)

placed_tree : (t u : Tree) → placed_ok t ≡ placed_ok u → EachIn HasReferencesIn t → EachIn HasReferencesIn u
placed_tree t u e has = let same : t ≡ u = cc in subst (EachIn HasReferencesIn) same has

placed_trees : (ts us : Trees) → placed_ok ts ≡ placed_ok us → EachNode HasReferencesIn ts → EachNode HasReferencesIn us
placed_trees ts us e has = let same : ts ≡ us = cc in subst (EachNode HasReferencesIn) same has

-- a node by what it is, where the nodes in it have such references
by_kind : (k : NodeKind) (slot : ℕ) (ms : Members) (inner : Result Trees Refused) (t : Tree)
    → ((ts : Trees) → inner ≡ Ok ts → EachNode HasReferencesIn ts) → node_by k slot ms inner ≡ Ok t → EachIn HasReferencesIn t
by_kind node.Segment slot ms inner t within e =
    segment_node_has ms t (known_is (least_unknown (keys_of kind.Segment) ms) _ t (own_table slot _ t e))
by_kind node.Loop slot ms inner t within e =
    of_placed _ (at_slot slot (known_keys kind.Loop ms (loop_of ms))) t e (λ l is_l e1.
    of_placed _ inner t e1 (λ ts is_ts e2. placed_tree (loop l ts) t e2 (tt, within ts is_ts)))
by_kind node.Unclear slot ms inner t within e =
    let no : Err (wrong_kind (codes "seg")) ≡ Ok t = known_is (least_unknown (keys_of kind.Unclear) ms) _ t (own_table slot _ t e) in cc

by_order : (o : Ordering) (a b : Result Trees Refused) (ts : Trees) → match_ordering o a b a ≡ Ok ts
    → (a ≡ Ok ts) ⊎ (b ≡ Ok ts)
by_order ordering.Less a b ts e = inl e
by_order ordering.Equal a b ts e = inr e
by_order ordering.Greater a b ts e = inl e

no_node : (n : ℕ) (t : Tree) → Err (n, wrong_kind (codes "nodes")) ≡ placed_ok t → EachIn HasReferencesIn t
no_node n t e = cc

mutual
  nodes_have : (n : ℕ) (ds : Items) (ts : Trees) → nodes_in n ds ≡ Ok ts → EachNode HasReferencesIn ts
  nodes_have n no_items ts e = placed_trees no_trees ts e tt
  nodes_have n (item d ds) ts e =
      of_placed _ (node_by_table n d) ts e (λ t is_t e1. of_placed _ (nodes_in (number_after n (count_in t)) ds) ts e1 (λ more is_more e2.
      placed_trees (tree t more) ts e2 (node_has n d t is_t, nodes_have (number_after n (count_in t)) ds more is_more)))

  node_has : (n : ℕ) (d : Data) (t : Tree) → node_by_table n d ≡ Ok t → EachIn HasReferencesIn t
  node_has n (table ms) t e =
      by_kind (node_kind ms) n ms (inner_nodes (number_after n 1) ms) t (λ ts h. inner_has (number_after n 1) ms ts h) e
  node_has n (string s) t e = no_node n t e
  node_has n (integer z) t e = no_node n t e
  node_has n (float x) t e = no_node n t e
  node_has n (boolean b) t e = no_node n t e
  node_has n (datetime x) t e = no_node n t e
  node_has n (array ds) t e = no_node n t e

  inner_has : (n : ℕ) (ms : Members) (ts : Trees) → inner_nodes n ms ≡ Ok ts → EachNode HasReferencesIn ts
  inner_has n no_members ts e = placed_trees no_trees ts e tt
  inner_has n (member key d ms) ts e =
      elim (by_order (slice_cmp nat_cmp (codes "nodes") key) (inner_nodes n ms) (node_list n d) ts e) [
        | inl h ↦ inner_has n ms ts h
        | inr h ↦ list_in_has n d ts h
      ]

  list_in_has : (n : ℕ) (d : Data) (ts : Trees) → node_list n d ≡ Ok ts → EachNode HasReferencesIn ts
  list_in_has n (array ds) ts e = nodes_have n ds ts e
  list_in_has n (table ms) ts e = placed_trees no_trees ts e tt
  list_in_has n (string s) ts e = placed_trees no_trees ts e tt
  list_in_has n (integer z) ts e = placed_trees no_trees ts e tt
  list_in_has n (float x) ts e = placed_trees no_trees ts e tt
  list_in_has n (boolean b) ts e = placed_trees no_trees ts e tt
  list_in_has n (datetime x) ts e = placed_trees no_trees ts e tt

-- numbers of slots change nothing in them
mutual
  numbered_in_has : (n : ℕ) (t : Tree) → EachIn HasReferencesIn t → EachIn HasReferencesIn (numbered_in n t)
  numbered_in_has n (segment s) has = has
  numbered_in_has n (loop l ts) has = (tt, numbered_has (n + 1) ts has.1)

  numbered_has : (n : ℕ) (ts : Trees) → EachNode HasReferencesIn ts → EachNode HasReferencesIn (numbered n ts)
  numbered_has n no_trees has = tt
  numbered_has n (tree t ts) has = (numbered_in_has n t has.0, numbered_has (n + count_in t) ts has.1)

guide_has : (ms : Members) (g : GuideTree) → guide_of_table ms ≡ Ok g → EachNode HasReferencesIn g.nodes
guide_has ms g e =
    of_placed _ (at_slot 0 (guide_top ms)) g e (λ top is_top e1. of_placed _ (nodes_in 1 top.3) g e1 (λ trees is_trees e2.
    let same : trees ≡ g.nodes = ap (λ (x : GuideTree). x.nodes) (of_placed_result _ g e2) in
    subst (EachNode HasReferencesIn) same (nodes_have 1 top.3 trees is_trees)))

answers_have : (read : Result GuideTree Refused) (rows : GuideRows) → Answers (Ok rows) read
    → ((g : GuideTree) → read ≡ Ok g → EachNode HasReferencesIn g.nodes) → EachNode HasReferencesIn (guide_of rows).nodes
answers_have (Ok g) rows a has =
    subst (EachNode HasReferencesIn) (sym (ap (λ (x : GuideTree). x.nodes) a.0)) (numbered_has 1 g.nodes (has g refl))
answers_have (Err r) rows a has = absurd a

pub writes_references : WritesReferences
writes_references t rows a = answers_have (guide_of_table t) rows a (guide_has t)
