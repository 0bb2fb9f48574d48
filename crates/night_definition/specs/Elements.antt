-- X12.6, data element, and 999 guide, IK4: what is wrong with a segment's elements, by the rows and conditions of its slot.
use Rattle.std.specs.Prelude.{ℕ, ◌+◌, ◌-◌, ◌==◌, nat_lt, Bool, true, false, not, ◌&&◌, ◌||◌, List, [], ◌∷◌, ◌++◌, length, drop, take, map}
use Rattle.std.specs.Prelude.{Option, Some, None, if◌then◌else◌, slice_get, slice_index_or, option_to_list, filter, flat_map, zero, suc}
use Rattle.std.specs.List.{list_all, list_any}
use Rattle.std.specs.Option.{option_map_or}
use Rattle.x12_bytes.specs.declared.delims.Delims.{Delims}
use Rattle.guide_tree.specs.declared.element.Requirement.{Requirement}
use Rattle.guide_tree.specs.declared.element.Requirement.TheVariants.{Mandatory, Optional}
use Rattle.guide_tree.specs.declared.element.Component.{Component}
use Rattle.guide_tree.specs.declared.element.Component.TheVariants as part
use Rattle.guide_tree.specs.declared.element.Element.{Element}
use Rattle.guide_tree.specs.declared.element.Element.TheVariants as row
use Rattle.guide_tree.specs.declared.slot.Slot.{Slot}
use Rattle.guide_tree.specs.declared.slot.Condition.{Condition}
use Rattle.guide_tree.specs.declared.slot.Relation.{Relation}
use Rattle.guide_tree.specs.declared.slot.Relation.TheVariants.{Paired, Required, Exclusion, Conditional, ListConditional}
use Rattle.hub_kinds.specs.declared.codes.ElementCode.{ElementCode}
use Rattle.hub_kinds.specs.declared.codes.ElementCode.TheVariants as ik403
use Rattle.hub_kinds.specs.declared.fault.ElemFault.{ElemFault}
use Rattle.night_definition.specs.Header.{divided}
use Rattle.night_definition.specs.Segments.{Elements, element}
use Rattle.night_definition.specs.Values.{value_fault}

-- the items of a list, each with its number
abbrev pub numbered : {A : Type 0} → ℕ → List A → List (ℕ × A)
numbered n [] = []
numbered n (x ∷ xs) = (n, x) ∷ numbered (n + 1) xs

abbrev pub is_this : Option ℕ → ℕ → Bool
is_this separator b = option_map_or (λ s. b == s) separator false

-- own: a text of component and repetition separators alone is empty
abbrev pub is_filled : Delims → List ℕ → Bool
is_filled d text = not (list_all (λ b. b == d.component || is_this d.repetition b) text)

abbrev pub occurrences : Delims → List ℕ → List (List ℕ)
occurrences d text = option_map_or (λ r. divided r text) d.repetition (text ∷ [])

abbrev pub components : Delims → List ℕ → List (List ℕ)
components d text = divided d.component text

-- own: empty ones at the end don't count
abbrev pub has_more : Delims → ℕ → List (List ℕ) → Bool
has_more d n texts = list_any (is_filled d) (drop n texts)

-- a mistake in an element: the component and the repetition to show, 0 for none, its code, and the text to copy
pub record Wrong : Type 0 where
  pub component : ℕ
  pub repetition : ℕ
  pub code : ElementCode
  pub copy : List ℕ

abbrev pub wrong : (component repetition : ℕ) → ElementCode → List ℕ → Wrong
wrong component repetition code copy = record { component = component; repetition = repetition; code = code; copy = copy }

abbrev pub missing : Requirement → Option ElementCode
missing Mandatory = Some ik403.RequiredMissing
missing Optional = None

abbrev pub component_fault : Delims → Component → List ℕ → Option ElementCode
component_fault d (part.NotUsed reference) text = if is_filled d text then Some ik403.NotUsedPresent else None
component_fault d (part.Simple r) text = if is_filled d text then value_fault r text else missing r.requirement

-- in an occurrence that isn't empty: too many components, or the mistakes of each
abbrev pub occurrence_wrongs : Delims → (composite : Bool) → List Component → (repetition : ℕ) → List ℕ → List Wrong
occurrence_wrongs d composite rows n text =
    let texts = components d text in
    if not (is_filled d text) then []
    else if has_more d (length rows) texts
    then wrong (length rows + 1) n ik403.TooManyComponents (slice_index_or texts (length rows) []) ∷ []
    else flat_map (λ x.
    let value = slice_index_or texts (x.0 - 1) [] in
    map (λ code. wrong (if composite then x.0 else 0) n code value) (option_to_list (component_fault d x.1 value)))
    (numbered 1 rows)

-- in an element that the guide uses: it is missing, or it has too many occurrences and each of the first has its mistakes
abbrev pub used_wrongs : Delims → Requirement → (repeat : ℕ) → (composite : Bool) → List Component → List ℕ → List Wrong
used_wrongs d requirement repeat composite rows text =
    let all = occurrences d text in
    if not (is_filled d text) then map (λ code. wrong 0 0 code []) (option_to_list (missing requirement))
    else (if has_more d repeat all then wrong 0 (repeat + 1) ik403.TooManyRepetitions (slice_index_or all repeat []) ∷ [] else [])
    ++ flat_map (λ x. occurrence_wrongs d composite rows (if nat_lt 1 repeat then x.0 else 0) x.1) (numbered 1 (take repeat all))

abbrev pub wrongs : Delims → Element → List ℕ → List Wrong
wrongs d (row.NotUsed reference) text = if is_filled d text then wrong 0 0 ik403.NotUsedPresent text ∷ [] else []
wrongs d (row.Simple r repeat) text = used_wrongs d r.requirement repeat false (part.Simple r ∷ []) text
wrongs d (row.Composite r) text = used_wrongs d r.requirement r.repeat true r.components text

abbrev pub component_reference : Component → List ℕ
component_reference (part.NotUsed reference) = reference
component_reference (part.Simple r) = r.reference

-- the reference number of an element, or of the component that is shown if it has a row
abbrev pub reference_of : Element → (component : ℕ) → List ℕ
reference_of (row.NotUsed reference) n = reference
reference_of (row.Simple r repeat) n = r.reference
reference_of (row.Composite r) zero = r.reference
reference_of (row.Composite r) (suc n) = option_map_or component_reference (slice_get r.components n) r.reference

abbrev pub reference_at : Slot → (position : ℕ) → (component : ℕ) → List ℕ
reference_at slot position component =
    option_map_or (λ r. reference_of r component) (slice_get slot.elements (position - 1)) []

abbrev pub fault_at : Slot → (position : ℕ) → Wrong → ElemFault
fault_at slot position w = record {
  element = position;
  component = w.component;
  repetition = w.repetition;
  code = w.code;
  reference = reference_at slot position w.component;
  copy = w.copy;
}

-- X12.6, relational conditions: the positions at which a condition is broken
abbrev pub broken_at : (present : ℕ → Bool) → Relation → List ℕ → List ℕ
broken_at present Paired ps = if list_any present ps then filter (λ p. not (present p)) ps else []
broken_at present Required ps = if list_any present ps then [] else take 1 ps
broken_at present Exclusion ps = drop 1 (filter present ps)
broken_at present Conditional ps =
    if list_any present (take 1 ps) then filter (λ p. not (present p)) (drop 1 ps) else []
broken_at present ListConditional ps =
    if list_any present (take 1 ps) && not (list_any present (drop 1 ps)) then take 1 (drop 1 ps) else []

abbrev pub condition_wrong : Relation → (text : List ℕ) → Wrong
condition_wrong Exclusion text = wrong 0 0 ik403.ExclusionViolated text
condition_wrong relation text = wrong 0 0 ik403.ConditionalMissing []

-- row by row, then condition by condition, then an element after the last row
abbrev pub element_faults : Delims → Slot → Elements → List ElemFault
element_faults d slot s =
    flat_map (λ x. map (fault_at slot x.0) (wrongs d x.1 (element x.0 s))) (numbered 1 slot.elements)
    ++ flat_map (λ (c : Condition).
    map (λ p. fault_at slot p (condition_wrong c.relation (element p s)))
    (broken_at (λ p. is_filled d (element p s)) c.relation c.positions)) slot.conditions
    ++ (if has_more d (length slot.elements) (drop 1 s)
    then fault_at slot (length slot.elements + 1) (wrong 0 0 ik403.TooManyElements (element (length slot.elements + 1) s)) ∷ [] else [])
