-- own: the guide that a guide file describes.
use Rattle.std.specs.Prelude.{ℕ, ◌+◌, ◌==◌, nat_le, List, [], ◌∷◌, length, codes, Option, Some, None, Bool, true, false, not, ◌&&◌, ◌||◌}
use Rattle.std.specs.Prelude.{if◌then◌else◌, option_map, bytes_eq, take, drop, find, map, is_some}
use Rattle.std.specs.Option.{option_map_or}
use Rattle.std.specs.List.{list_all, prefix_len, slice_split}
use Rattle.std.specs.Char.{is_ascii_uppercase}
use Rattle.toml.specs.Data.{Data, array, table, Items, no_items, item, Members, no_members, member}
use Rattle.toml.specs.Data.{as_str, as_bool, get_member}
use Rattle.guide_tree.specs.declared.slot.Slot.{Slot}
use Rattle.guide_tree.specs.declared.slot.Pick.{Pick}
use Rattle.guide_tree.specs.declared.slot.Condition.{Condition}
use Rattle.guide_tree.specs.declared.slot.Relation.TheVariants as relation
use Rattle.guide_tree.specs.declared.element.Requirement.{Requirement}
use Rattle.guide_tree.specs.declared.element.Requirement.TheVariants.{Mandatory, Optional}
use Rattle.guide_tree.specs.declared.element.ElementType.{ElementType}
use Rattle.guide_tree.specs.declared.element.ElementType.TheVariants as types
use Rattle.guide_tree.specs.declared.element.CodeList.{CodeList}
use Rattle.guide_tree.specs.declared.element.SimpleRow.{SimpleRow}
use Rattle.guide_tree.specs.declared.element.Component.{Component}
use Rattle.guide_tree.specs.declared.element.Component.TheVariants as part
use Rattle.guide_tree.specs.declared.element.Element.{Element}
use Rattle.guide_tree.specs.declared.element.Element.TheVariants as row
use Rattle.guide_tree.specs.declared.node.Loop.{Loop}
use Rattle.guide_tree.specs.declared.rows.GuideHead.{GuideHead}
use Rattle.guide_tree.specs.declared.rows.HlPair.{HlPair}
use Rattle.guide_tree.specs.declared.rows.HlRule.{HlRule}
use Rattle.guide_tree.specs.declared.rows.Dependency.{Dependency}
use Rattle.guide_tree.specs.declared.rows.DependencyKind.TheVariants as depends
use Rattle.guide_tree.specs.Tree.{Tree, Trees, segment, loop, no_trees, tree, GuideTree}
use Rattle.hub_kinds.specs.declared.codes.SegmentCode.{SegmentCode}
use Rattle.hub_kinds.specs.declared.codes.SegmentCode.TheVariants as ik304
use Rattle.hub_kinds.specs.declared.codes.ElementCode.{ElementCode}
use Rattle.hub_kinds.specs.declared.codes.ElementCode.TheVariants as ik403
use Rattle.night_definition.specs.Header.{divided, number_of, is_word}
use Rattle.night_definition.specs.Codes.{ik304_of, ik403_of}
use Rattle.night_definition.specs.Acknowledgments.{is_id}
use Rattle.night_definition.specs.Tables.{◌>>=◌, required, optional, only, number, word, list_of, texts, table_of, one_of}

-- a text's words between spaces
abbrev pub Words : Type 0
Words = List (List ℕ)

-- one or more digits, at most 4,294,967,295
abbrev pub count : List ℕ → Option ℕ
count text = number_of (length text) text >>= only (λ n. nat_le n 4294967295)

-- a code consists of the bytes 0x21 to 0x7E without =, ! and ;
abbrev pub is_code : List ℕ → Bool
is_code t = nat_le 1 (length t) && list_all (λ b. nat_le 33 b && nat_le b 126 && not (b == 61 || b == 33 || b == 59)) t

abbrev pub no_more : {A : Type 0} → A → Words → Option A
no_more x [] = Some x
no_more x (t ∷ ts) = None

abbrev pub reference_of : List ℕ → Option (List ℕ)
reference_of t = if bytes_eq t (codes "-") then Some [] else number_of 4 t >>= λ n. Some t

abbrev pub requirement_of : List ℕ → Option Requirement
requirement_of t = one_of ((codes "M", Mandatory) ∷ (codes "O", Optional) ∷ []) t

abbrev pub type_of : List ℕ → Option ElementType
type_of t =
    if length t == 2 && bytes_eq (take 1 t) (codes "N") then (number_of 1 (drop 1 t) >>= λ n. Some (types.Number n))
    else one_of ((codes "AN", types.Text) ∷ (codes "ID", types.Identifier) ∷ (codes "R", types.Decimal) ∷ (codes "DT", types.Date)
    ∷ (codes "TM", types.Time) ∷ []) t

-- xN, or once
abbrev pub take_repeat : Words → ℕ × Words
take_repeat [] = (1, [])
take_repeat (t ∷ ts) = option_map_or (λ n. (n, ts)) (if bytes_eq (take 1 t) (codes "x") then count (drop 1 t) else None) (1, t ∷ ts)

-- the codes that are known but not used, after !
abbrev pub codes_unused : (used : Words) → Words → Option CodeList
codes_unused used [] = Some (record { used = used; unused = None })
codes_unused used (t ∷ ts) =
    if bytes_eq t (codes "!") && list_all is_code ts then Some (record { used = used; unused = Some ts }) else None

-- the codes in use after =, and those not used
abbrev pub code_list : Words → Option (Option CodeList)
code_list [] = Some None
code_list (t ∷ ts) =
    let used = take (prefix_len is_code ts) ts in
    if bytes_eq t (codes "=") then option_map Some (codes_unused used (drop (prefix_len is_code ts) ts)) else None

abbrev pub take_wide : Words → Bool × Words
take_wide [] = (false, [])
take_wide (t ∷ ts) = if bytes_eq t (codes "wide") then (true, ts) else (false, t ∷ ts)

-- TYPE MIN MAX, then `wide` and codes
abbrev pub row_of : (reference : List ℕ) → Requirement → (type least most : List ℕ) → Words → Option SimpleRow
row_of reference requirement type least most ts =
    type_of type >>= λ t. count least >>= λ a. count most >>= λ b. code_list (take_wide ts).1 >>= λ listed.
    Some (record {
      reference = reference;
      requirement = requirement;
      data_type = t;
      min = a;
      max = b;
      wide = (take_wide ts).0;
      codes = listed;
    })

abbrev pub component_of : Words → Option Component
component_of (ref ∷ usage ∷ []) = if bytes_eq usage (codes "N") then option_map part.NotUsed (reference_of ref) else None
component_of (ref ∷ usage ∷ type ∷ least ∷ most ∷ ts) =
    reference_of ref >>= λ r. requirement_of usage >>= λ q. option_map part.Simple (row_of r q type least most ts)
component_of ts = None

abbrev pub all_of : {A : Type 0} → List (Option A) → Option (List A)
all_of [] = Some []
all_of (o ∷ os) = o >>= λ x. option_map (λ xs. x ∷ xs) (all_of os)

-- MIN MAX xN, then `wide` and codes
abbrev pub simple_of : (reference : List ℕ) → Requirement → (type : List ℕ) → Words → (components : List Words) → Option Element
simple_of r q type (least ∷ most ∷ ts) [] =
    option_map (λ s. row.Simple s (take_repeat ts).0) (row_of r q type least most (take_repeat ts).1)
simple_of r q type ts groups = None

-- REF N; or REF USE C and components after semicolons; or REF USE TYPE MIN MAX
abbrev pub element_of : Words → (components : List Words) → Option Element
element_of (ref ∷ usage ∷ []) [] = if bytes_eq usage (codes "N") then option_map row.NotUsed (reference_of ref) else None
element_of (ref ∷ usage ∷ type ∷ ts) groups =
    reference_of ref >>= λ r. requirement_of usage >>= λ q.
    if bytes_eq type (codes "C")
    then (no_more (take_repeat ts).0 (take_repeat ts).1 >>= λ n. all_of (map component_of groups) >>= λ cs.
    Some (row.Composite (record { reference = r; requirement = q; repeat = n; components = cs })))
    else simple_of r q type ts groups
element_of ts groups = None

abbrev pub head_or_none : List Words → Words
head_or_none [] = []
head_or_none (g ∷ gs) = g

abbrev pub element_text : List ℕ → Option Element
element_text text =
    let groups = slice_split (λ t. bytes_eq t (codes ";")) (divided 32 text) in element_of (head_or_none groups) (drop 1 groups)

abbrev pub pick_in : Words → Option Pick
pick_in [] = None
pick_in (t ∷ ts) = count t >>= λ n. if list_all is_code ts then Some (record { position = n; codes = ts }) else None

-- POSITION CODE CODE ..
abbrev pub pick_of : List ℕ → Option Pick
pick_of text = pick_in (divided 32 text)

abbrev pub positions_of : List ℕ → Option (List ℕ)
positions_of [] = Some []
positions_of (a ∷ []) = None
positions_of (a ∷ b ∷ ds) = number_of 2 (a ∷ b ∷ []) >>= λ p. option_map (λ ps. p ∷ ps) (positions_of ds)

-- a letter and two-digit positions
abbrev pub condition_of : List ℕ → Option Condition
condition_of text =
    one_of ((codes "P", relation.Paired) ∷ (codes "R", relation.Required) ∷ (codes "E", relation.Exclusion)
    ∷ (codes "C", relation.Conditional) ∷ (codes "L", relation.ListConditional) ∷ []) (take 1 text) >>= λ r.
    positions_of (drop 1 text) >>= λ ps. Some (record { relation = r; positions = ps })

abbrev pub pair_in : Words → Option HlPair
pair_in ([] ∷ child ∷ []) = only (is_word 1 2) child >>= λ c. Some (record { parent = None; child = c })
pair_in (parent ∷ child ∷ []) = only (is_word 1 2) parent >>= λ p. only (is_word 1 2) child
    >>= λ c. Some (record { parent = Some p; child = c })
pair_in ts = None

-- PARENT/CHILD
abbrev pub pair_of : List ℕ → Option HlPair
pair_of text = pair_in (divided 47 text)

abbrev pub segment_code : List ℕ → Option SegmentCode
segment_code t = find (λ c. bytes_eq (ik304_of c).0 t)
    (ik304.UnrecognizedSegment ∷ ik304.UnexpectedSegment ∷ ik304.RequiredSegmentMissing ∷ ik304.LoopTooOften ∷ ik304.SegmentTooOften
    ∷ ik304.NotInSet ∷ ik304.OutOfSequence ∷ ik304.NotUsedPresent ∷ ik304.DependentMissing ∷ ik304.LoopTooSeldom ∷ ik304.SegmentTooSeldom
    ∷ ik304.DependentNotUsedPresent ∷ [])

abbrev pub element_code : List ℕ → Option ElementCode
element_code t = find (λ c. bytes_eq (ik403_of c).0 t)
    (ik403.RequiredMissing ∷ ik403.ConditionalMissing ∷ ik403.TooManyElements ∷ ik403.TooShort ∷ ik403.TooLong ∷ ik403.InvalidCharacter
    ∷ ik403.InvalidCode ∷ ik403.InvalidDate ∷ ik403.InvalidTime ∷ ik403.ExclusionViolated ∷ ik403.TooManyRepetitions
    ∷ ik403.TooManyComponents
    ∷ ik403.CodeNotUsed ∷ ik403.DependentMissing ∷ ik403.NotUsedPresent ∷ ik403.PatternFailure ∷ ik403.DependentNotUsedPresent ∷ [])

abbrev pub slot_of : (number : ℕ) → Members → Option Slot
slot_of n ms =
    required as_str (codes "seg") ms >>= λ id. required number (codes "min") ms >>= λ least. required number (codes "max") ms >>= λ most.
    optional None (λ d. option_map Some (word 1 20 d)) (codes "label") ms >>= λ label.
    optional [] (texts pick_of) (codes "pick") ms >>= λ picks.
    required (texts element_text) (codes "elements") ms >>= λ elements.
    optional [] (texts condition_of) (codes "conditions") ms >>= λ conditions.
    Some (record {
      number = n;
      id = id;
      label = label;
      min = least;
      max = most;
      picks = picks;
      elements = elements;
      conditions = conditions;
    })

abbrev pub loop_of : (number : ℕ) → Members → Option Loop
loop_of n ms =
    required (word 1 4) (codes "loop") ms >>= λ id. required number (codes "min") ms >>= λ least. required number (codes "max") ms
    >>= λ most.
    Some (record { number = n; id = id; min = least; max = most })

abbrev mutual
  pub count_in : Tree → ℕ
  count_in (segment s) = 1
  count_in (loop l ts) = count_of ts + 1

  pub count_of : Trees → ℕ
  count_of no_trees = 0
  count_of (tree t ts) = count_in t + count_of ts

-- a node has either `seg` or `loop`
abbrev pub node_of : (number : ℕ) → Members → (inner : Option Trees) → Option Tree
node_of n ms inner =
    if is_some (get_member (codes "loop") ms)
    then (if is_some (get_member (codes "seg") ms) then None else (loop_of n ms >>= λ l. inner >>= λ ts. Some (loop l ts)))
    else option_map segment (slot_of n ms)

abbrev mutual
  -- nodes are numbered from 1 on, parents first
  pub nodes_of : (first : ℕ) → Items → Option Trees
  nodes_of n no_items = Some no_trees
  nodes_of n (item d ds) = node_in n d >>= λ t. nodes_of (n + count_in t) ds >>= λ ts. Some (tree t ts)

  pub node_in : (number : ℕ) → Data → Option Tree
  node_in n (table ms) = node_of n ms (nodes_among (n + 1) ms)
  node_in n d = None

  pub nodes_among : (first : ℕ) → Members → Option Trees
  nodes_among n no_members = None
  nodes_among n (member key d ms) = if bytes_eq key (codes "nodes") then nodes_from n d else nodes_among n ms

  pub nodes_from : (first : ℕ) → Data → Option Trees
  nodes_from n (array ds) = nodes_of n ds
  nodes_from n d = None

abbrev pub hl_of : Members → Option HlRule
hl_of ms =
    required (texts pair_of) (codes "pairs") ms >>= λ pairs. required as_bool (codes "sequential") ms >>= λ sequential.
    Some (record { pairs = pairs; sequential = sequential })

abbrev pub dependency_of : Members → Option Dependency
dependency_of ms =
    required (λ d. as_str d >>= one_of ((codes "need", depends.Need) ∷ (codes "ban", depends.Ban) ∷ [])) (codes "kind") ms >>= λ kind.
    required (word 1 20) (codes "slot") ms >>= λ slot. required number (codes "at") ms >>= λ position.
    required (texts (only is_code)) (codes "codes") ms >>= λ values. required (word 1 20) (codes "target") ms >>= λ target.
    required number (codes "element") ms >>= λ element.
    Some (record { kind = kind; slot = slot; at = position; codes = values; target = target; element = element })

abbrev pub is_group : List ℕ → Bool
is_group t = length t == 2 && list_all is_ascii_uppercase t && not (bytes_eq t (codes "FA"))

abbrev pub head_of : Members → Option GuideHead
head_of ms =
    required (word 1 20) (codes "name") ms >>= λ name. required (λ d. as_str d >>= only is_group) (codes "group") ms >>= λ group.
    required (word 3 3) (codes "set") ms >>= λ set. required (word 1 12) (codes "version") ms >>= λ version.
    optional None (λ d. option_map Some (word 1 35 d)) (codes "convention") ms >>= λ convention.
    optional [] (texts (only is_id)) (codes "dictionary") ms >>= λ dictionary.
    optional [] (texts segment_code) (codes "tolerate_segment") ms >>= λ segments.
    optional [] (texts element_code) (codes "tolerate_element") ms >>= λ elements.
    Some (record {
      name = name;
      group = group;
      set = set;
      version = version;
      convention = convention;
      dictionary = dictionary;
      tolerate_segment = segments;
      tolerate_element = elements;
    })

abbrev pub guide_of_table : Members → Option GuideTree
guide_of_table ms =
    head_of ms >>= λ head. optional None (λ d. option_map Some (table_of hl_of d)) (codes "hl") ms >>= λ rule.
    optional [] (list_of (table_of dependency_of)) (codes "depends") ms >>= λ rows.
    nodes_among 1 ms >>= λ nodes.
    Some (record { head = head; hl = rule; depends = rows; nodes = nodes })
