-- A guide that is accepted is as wide as itself.
use Rattle.std.proofs.Common.{◌≡◌, ◌∙◌, ℕ, List, [], ◌∷◌, Bool, true, false, refl, sym, ap, subst, arith, inl, inr, map, Option, Some, None}
use Rattle.std.specs.Prelude.{◌&&◌, ◌||◌, ◌==◌, if◌then◌else◌, nat_le, not}
use Rattle.std.specs.List.{list_all, list_any}
use Rattle.std.specs.Str.{bytes_eq}
use Rattle.std.proofs.lemmas.Bool.{and_from, and_parts, both_ways, eq-eqb, eqb-true, le-leb, or_left, or_right}
use Rattle.hub_kinds.specs.Words.{contains_text}
use Rattle.guide_tree.specs.declared.element.CodeList.{CodeList}
use Rattle.guide_tree.specs.declared.element.Component.{Component}
use Rattle.guide_tree.specs.declared.element.Component.TheVariants as component
use Rattle.guide_tree.specs.declared.element.Element.{Element}
use Rattle.guide_tree.specs.declared.element.Element.TheVariants as element
use Rattle.guide_tree.specs.declared.element.ElementType.{ElementType}
use Rattle.guide_tree.specs.declared.element.ElementType.TheVariants.{Text, Identifier, Number, Decimal, Date, Time}
use Rattle.guide_tree.specs.declared.element.Requirement.{Requirement}
use Rattle.guide_tree.specs.declared.element.Requirement.TheVariants.{Mandatory, Optional}
use Rattle.guide_tree.specs.declared.element.SimpleRow.{SimpleRow}
use Rattle.guide_tree.specs.declared.fault.GuideFault.TheVariants as fault
use Rattle.guide_tree.specs.declared.rows.Dependency.{Dependency}
use Rattle.guide_tree.specs.declared.rows.DependencyKind.{DependencyKind}
use Rattle.guide_tree.specs.declared.rows.DependencyKind.TheVariants.{Need, Ban}
use Rattle.guide_tree.specs.declared.rows.GuideHead.{GuideHead}
use Rattle.guide_tree.specs.declared.rows.HlPair.{HlPair}
use Rattle.guide_tree.specs.declared.rows.HlRule.{HlRule}
use Rattle.guide_tree.specs.declared.slot.Condition.{Condition}
use Rattle.guide_tree.specs.declared.slot.Pick.{Pick}
use Rattle.guide_tree.specs.declared.slot.Slot.{Slot}
use Rattle.guide_tree.specs.Words.{EachIn, EachNode, GuideTree, IsWellFormed, Tree, Trees, agree, are_picks_of, can_fit_both, has_codes}
use Rattle.guide_tree.specs.Words.{has_trigger}
use Rattle.guide_tree.specs.Words.{is_conditioned, is_distinct, is_pick_of, is_slot_conditioned, is_triggered, loop, min_of, no_trees}
use Rattle.guide_tree.specs.Words.{pick_position, segment, share_text, tree}
use Rattle.guide_tree.proofs.ForAbove.{In, each_passes}
use Rattle.guide_widening.specs.Nodes.{are_wider_conditions, are_wider_nodes, are_wider_picks, begins_alike, is_same_condition}
use Rattle.guide_widening.specs.Nodes.{is_same_node}
use Rattle.guide_widening.specs.Nodes.{is_same_text, is_wider_node, is_wider_pick, is_wider_slot, relation_number}
use Rattle.guide_widening.specs.Rows.{are_texts_of, are_wider_components, are_wider_elements, is_wider_codes, is_wider_component}
use Rattle.guide_widening.specs.Rows.{is_wider_element, is_wider_range, is_wider_requirement, is_wider_row, is_wider_type}
use Rattle.guide_widening.specs.Rows.{is_wider_alphabet}
use Rattle.guide_widening.specs.Rules.{are_wider_dependencies, are_wider_pairs, asks_same, is_code_asked, is_dependency_kept, is_same_kind}
use Rattle.guide_widening.specs.Rules.{is_same_pair, is_wider_convention, is_wider_hierarchy, is_wider_tolerance, tolerated_elements}
use Rattle.guide_widening.specs.Rules.{tolerated_segments}
use Rattle.guide_widening.specs.Wider.{is_same_set, is_wider}
use Rattle.widening_law.proofs.Listed.{texts_same}

-- tests of lists of which each item passes
module _ {X : Type 0} (test : X → Bool) where
  all_in : (xs : List X) → ((x : X) → In xs x → test x ≡ true) → list_all test xs ≡ true
  all_in [] f = refl
  all_in (x ∷ xs) f = and_from (test x) (list_all test xs) (f x (inl refl)) (all_in xs (λ y i. f y (inr i)))

  any_in : (xs : List X) (x : X) → In xs x → test x ≡ true → list_any test xs ≡ true
  any_in [] x i h = absurd i
  any_in (y ∷ ys) x (inl e) h = or_left (test y) (list_any test ys) (ap test e ∙ h)
  any_in (y ∷ ys) x (inr i) h = or_right (test y) (list_any test ys) (any_in ys x i h)

le_itself : (n : ℕ) → nat_le n n ≡ true
le_itself n = le-leb n n (omega arith)

eq_itself : (n : ℕ) → (n == n) ≡ true
eq_itself n = eq-eqb n n refl

text_itself : (t : List ℕ) → bytes_eq t t ≡ true
text_itself t = texts_same t t refl

texts_itself : (ts : List (List ℕ)) → are_texts_of ts ts ≡ true
texts_itself ts = all_in (contains_text ts) ts (λ t i. any_in (λ u. bytes_eq u t) ts t i (text_itself t))

label_itself : (label : Option (List ℕ)) → is_same_text label label ≡ true
label_itself None = refl
label_itself (Some t) = text_itself t

range_itself : (a b : ℕ) → is_wider_range a b a b ≡ true
range_itself a b = and_from (nat_le a a) (nat_le b b) (le_itself a) (le_itself b)

requirement_itself : (r : Requirement) → is_wider_requirement r r ≡ true
requirement_itself Mandatory = refl
requirement_itself Optional = refl

type_itself : (t : ElementType) → is_wider_type t t ≡ true
type_itself Text = refl
type_itself Identifier = refl
type_itself (Number n) = eq_itself n
type_itself Decimal = refl
type_itself Date = refl
type_itself Time = refl

alphabet_itself : (wide : Bool) → is_wider_alphabet wide wide ≡ true
alphabet_itself true = refl
alphabet_itself false = refl

codes_itself : (c : Option CodeList) → is_wider_codes c c ≡ true
codes_itself None = refl
codes_itself (Some c) = texts_itself c.used

row_itself : (r : SimpleRow) → is_wider_row r r ≡ true
row_itself r =
    and_from _ _ (and_from _ _ (and_from _ _ (and_from _ _ (requirement_itself r.requirement) (type_itself r.data_type))
    (range_itself r.min r.max)) (alphabet_itself r.wide)) (codes_itself r.codes)

component_itself : (c : Component) → is_wider_component c c ≡ true
component_itself (component.NotUsed reference) = refl
component_itself (component.Simple row) = row_itself row

components_itself : (cs : List Component) → are_wider_components cs cs ≡ true
components_itself [] = refl
components_itself (c ∷ cs) = and_from _ _ (component_itself c) (components_itself cs)

element_itself : (e : Element) → is_wider_element e e ≡ true
element_itself (element.NotUsed reference) = refl
element_itself (element.Simple row repeat) = and_from _ _ (le_itself repeat) (row_itself row)
element_itself (element.Composite row) =
    and_from _ _ (and_from _ _ (requirement_itself row.requirement) (le_itself row.repeat)) (components_itself row.components)

elements_itself : (es : List Element) → are_wider_elements es es ≡ true
elements_itself [] = refl
elements_itself (e ∷ es) = and_from _ _ (element_itself e) (elements_itself es)

pick_itself : (p : Pick) → is_wider_pick p p ≡ true
pick_itself p = and_from _ _ (eq_itself p.position) (texts_itself p.codes)

picks_itself : (ps : List Pick) → are_wider_picks ps ps ≡ true
picks_itself ps =
    all_in (λ pick. list_any (λ before. is_wider_pick before pick) ps) ps
    (λ p i. any_in (λ before. is_wider_pick before p) ps p i (pick_itself p))

condition_itself : (c : Condition) → is_same_condition c c ≡ true
condition_itself c = and_from _ _ (eq_itself (relation_number c.relation)) (text_itself c.positions)

conditions_itself : (cs : List Condition) → are_wider_conditions cs cs ≡ true
conditions_itself cs =
    all_in (λ condition. list_any (λ before. is_same_condition before condition) cs) cs
    (λ c i. any_in (λ before. is_same_condition before c) cs c i (condition_itself c))

slot_itself : (s : Slot) → is_wider_slot s s ≡ true
slot_itself s =
    and_from _ _ (and_from _ _ (and_from _ _ (and_from _ _ (and_from _ _ (text_itself s.id) (label_itself s.label))
    (range_itself s.min s.max)) (picks_itself s.picks)) (elements_itself s.elements)) (conditions_itself s.conditions)

-- picks of different positions, each with a code, agree with one another
shared : (codes : List (List ℕ)) → has_codes codes ≡ true → share_text codes codes ≡ true
shared [] h = cc
shared (c ∷ codes) h =
    or_left (contains_text (c ∷ codes) c) (list_any (contains_text (c ∷ codes)) codes)
    (or_left (bytes_eq c c) (list_any (λ t. bytes_eq t c) codes) (text_itself c))

not_true : (a : Bool) → not a ≡ true → a ≡ false
not_true true h = cc
not_true false h = refl

either_false : (a b : Bool) → (a || b) ≡ false → (a ≡ false) × (b ≡ false)
either_false true b h = cc
either_false false b h = (refl, h)

apart : (x : ℕ) (ps : List Pick) (p : Pick) → list_any (λ y. x == y) (map pick_position ps) ≡ false → In ps p → (x == p.position) ≡ false
apart x [] p h i = absurd i
apart x (q ∷ ps) p h (inl e) = ap (λ (r : Pick). x == r.position) (sym e) ∙ (either_false (x == q.position) _ h).0
apart x (q ∷ ps) p h (inr i) = apart x ps p (either_false (x == q.position) _ h).1 i

turned : (a b : ℕ) → (a == b) ≡ false → (b == a) ≡ false
turned a b h = by (b == a) refl
  where
    by : (e : Bool) → (b == a) ≡ e → (b == a) ≡ false
    by true is = absurd (both_ways (a == b) h (eq-eqb a b (sym (eqb-true b a is))))
    by false is = is

differing : (p q : Pick) → (p.position == q.position) ≡ false → agree p q ≡ true
differing p q h = or_left (not (p.position == q.position)) (share_text p.codes q.codes) (ap not h)

agree_all : (ps : List Pick) → is_distinct (map pick_position ps) ≡ true → ((p : Pick) → In ps p → has_codes p.codes ≡ true)
    → (p q : Pick) → In ps p → In ps q → agree p q ≡ true
agree_all [] d codes p q i j = absurd i
agree_all (x ∷ ps) d codes p q (inl e) (inl f) =
    or_right (not (p.position == q.position)) (share_text p.codes q.codes)
    (subst (λ (r : Pick). share_text p.codes r.codes ≡ true) f (subst (λ (r : Pick). share_text r.codes x.codes ≡ true) e
    (shared x.codes (codes x (inl refl)))))
agree_all (x ∷ ps) d codes p q (inl e) (inr j) =
    subst (λ (r : Pick). agree r q ≡ true) e (differing x q
    (apart x.position ps q (not_true _ (and_parts _ (is_distinct (map pick_position ps)) d).0) j))
agree_all (x ∷ ps) d codes p q (inr i) (inl f) =
    subst (λ (r : Pick). agree p r ≡ true) f (differing p x (turned x.position p.position
    (apart x.position ps p (not_true _ (and_parts _ (is_distinct (map pick_position ps)) d).0) i)))
agree_all (x ∷ ps) d codes p q (inr i) (inr j) =
    agree_all ps (and_parts _ (is_distinct (map pick_position ps)) d).1 (λ r k. codes r (inr k)) p q i j

at_each : {X : Type 0} (test : X → Bool) (xs : List X) (x : X) → list_all test xs ≡ true → In xs x → test x ≡ true
at_each test [] x h i = absurd i
at_each test (y ∷ ys) x h (inl e) = ap test (sym e) ∙ (and_parts (test y) (list_all test ys) h).0
at_each test (y ∷ ys) x h (inr i) = at_each test ys x (and_parts (test y) (list_all test ys) h).1 i

fits_itself : (ts : Trees) (s : Slot) → is_slot_conditioned ts s ≡ true → can_fit_both s s ≡ true
fits_itself ts s h =
    let picks : are_picks_of s s.picks ≡ true = (and_parts _ _ (and_parts _ _ h).0).1 in
    let parts = and_parts (is_distinct (map pick_position s.picks)) (list_all (is_pick_of s) s.picks) picks in
    let codes = λ (p : Pick) (i : In s.picks p). (and_parts _ (has_codes p.codes) (at_each (is_pick_of s) s.picks p parts.1 i)).1 in
    and_from _ _ (text_itself s.id)
    (all_in (λ p. list_all (agree p) s.picks) s.picks
    (λ p i. all_in (agree p) s.picks (λ q j. agree_all s.picks parts.0 codes p q i j)))

-- a loop begins as it begins
begun : (all ts : Trees) → has_trigger ts ≡ true → EachNode (λ t. is_conditioned all t ≡ true) ts → begins_alike ts ts ≡ true
begun all no_trees h e = cc
begun all (tree (segment s) ts) h e = fits_itself all s e.0
begun all (tree (loop l us) ts) h e = cc

mutual
  node_itself : (all : Trees) (t : Tree) → EachIn (λ u. is_triggered u ≡ true) t → EachIn (λ u. is_conditioned all u ≡ true) t
      → (is_same_node t t ≡ true) × (is_wider_node t t ≡ true)
  node_itself all (segment s) begins keeps = (fits_itself all s keeps, slot_itself s)
  node_itself all (loop l ts) begins keeps = (
    and_from _ _ (text_itself l.id) (begun all ts begins.0 keeps.1),
    and_from _ _ (and_from _ _ (text_itself l.id) (range_itself l.min l.max)) (nodes_itself all ts begins.1 keeps.1),
  )

  nodes_itself : (all ts : Trees) → EachNode (λ u. is_triggered u ≡ true) ts → EachNode (λ u. is_conditioned all u ≡ true) ts
      → are_wider_nodes ts ts ≡ true
  nodes_itself all no_trees begins keeps = refl
  nodes_itself all (tree t ts) begins keeps =
      let n = node_itself all t begins.0 keeps.0 in
      ap (λ (b : Bool). if b then is_wider_node t t && are_wider_nodes ts ts else (min_of t == 0) && are_wider_nodes (tree t ts) ts) n.0
      ∙ and_from _ _ n.1 (nodes_itself all ts begins.1 keeps.1)

kind_itself : (kind : DependencyKind) → is_same_kind kind kind ≡ true
kind_itself Need = refl
kind_itself Ban = refl

asks_itself : (d : Dependency) → asks_same d d ≡ true
asks_itself d =
    and_from _ _ (kind_itself d.kind) (and_from _ _ (eq_itself d.at) (and_from _ _ (eq_itself d.element)
    (and_from _ _ (text_itself d.slot) (text_itself d.target))))

dependencies_itself : (ds : List Dependency) → are_wider_dependencies ds ds ≡ true
dependencies_itself ds =
    all_in (is_dependency_kept ds) ds
    (λ d i. all_in (is_code_asked ds d) d.codes
    (λ c j. any_in (λ (other : Dependency). asks_same other d && contains_text other.codes c) ds d i
    (and_from _ _ (asks_itself d) (any_in (λ t. bytes_eq t c) d.codes c j (text_itself c)))))

pairs_itself : (ps : List HlPair) → are_wider_pairs ps ps ≡ true
pairs_itself ps =
    all_in (λ pair. list_any (λ after. is_same_pair after pair) ps) ps
    (λ p i. any_in (λ after. is_same_pair after p) ps p i (and_from _ _ (label_itself p.parent) (text_itself p.child)))

counted_itself : (b : Bool) → (b || not b) ≡ true
counted_itself true = refl
counted_itself false = refl

hierarchy_itself : (hl : Option HlRule) → is_wider_hierarchy hl hl ≡ true
hierarchy_itself None = refl
hierarchy_itself (Some rule) = and_from _ _ (counted_itself rule.sequential) (pairs_itself rule.pairs)

convention_itself : (c : Option (List ℕ)) → is_wider_convention c c ≡ true
convention_itself None = refl
convention_itself (Some c) = text_itself c

head_itself : (head : GuideHead) → ((is_same_set head head && is_wider_convention head.convention head.convention)
    && is_wider_tolerance head head) ≡ true
head_itself head =
    and_from _ _ (and_from _ _ (and_from _ _ (and_from _ _ (text_itself head.group) (text_itself head.set)) (text_itself head.version))
    (convention_itself head.convention))
    (and_from _ _ (texts_itself (tolerated_segments head)) (texts_itself (tolerated_elements head)))

pub as_wide : (g : GuideTree) → IsWellFormed g → is_wider g g ≡ true
as_wide g sound =
    and_from _ _ (and_from _ _ (and_from _ _ (head_itself g.head) (hierarchy_itself g.hl)) (dependencies_itself g.depends))
    (nodes_itself g.nodes g.nodes (each_passes is_triggered g.nodes (λ k f. sound (fault.BadTrigger k) f))
    (each_passes (is_conditioned g.nodes) g.nodes (λ k f. sound (fault.BadCondition k) (inr f))))
