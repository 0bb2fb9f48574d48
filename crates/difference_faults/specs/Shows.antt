-- 999 guide, IK3 and IK4: which fault shows a difference of two guides: it is one that the difference makes, where the guides differ.
use Rattle.std.specs.Prelude.{ℕ, zero, suc, ◌+◌, ◌==◌, Bool, true, false, ◌&&◌, ◌||◌, List, Option, None, Some, if◌then◌else◌, is_none}
use Rattle.std.specs.List.{list_any}
use Rattle.std.specs.Option.{option_map_or}
use Rattle.std.specs.Str.{bytes_eq}
use Rattle.hub_kinds.specs.declared.codes.ElementCode.{ElementCode}
use Rattle.hub_kinds.specs.declared.codes.ElementCode.TheVariants as element
use Rattle.hub_kinds.specs.declared.codes.SegmentCode.{SegmentCode}
use Rattle.hub_kinds.specs.declared.codes.SegmentCode.TheVariants as segment
use Rattle.hub_kinds.specs.declared.fault.ElemFault.{ElemFault}
use Rattle.hub_kinds.specs.declared.fault.Fault.{Fault}
use Rattle.guide_tree.specs.Words.{GuideTree}
use Rattle.guide_tree.specs.declared.rows.Dependency.{Dependency}
use Rattle.guide_tree.specs.declared.rows.DependencyKind.{DependencyKind}
use Rattle.guide_tree.specs.declared.rows.DependencyKind.TheVariants.{Need, Ban}
use Rattle.guide_tree.specs.declared.rows.HlPair.{HlPair}
use Rattle.guide_tree.specs.declared.slot.Condition.{Condition}
use Rattle.guide_widening.specs.declared.difference.At.{At}
use Rattle.guide_widening.specs.declared.difference.Difference.{Difference}
use Rattle.guide_widening.specs.declared.difference.Key.{Key}
use Rattle.guide_widening.specs.declared.difference.Key.TheVariants as key
use Rattle.guide_widening.specs.declared.difference.Value.{Value}
use Rattle.guide_widening.specs.declared.difference.Value.TheVariants as value
use Rattle.difference_faults.specs.Codes.{is_element_code, is_of_level, is_of_relation, is_of_stray, is_segment_code}
use Rattle.difference_faults.specs.Parts.{IsPart}
use Rattle.difference_faults.specs.declared.part.Part.{Part}
use Rattle.difference_faults.specs.declared.part.Part.TheVariants as part

-- an element of the hierarchy, whose difference has no node; or the very element or component that differs
abbrev pub is_element_at : At → (slot : ℕ) → ElemFault → Bool
is_element_at at slot e =
    at.node == 0 || (at.node == slot && (at.element == e.element && at.component == e.component))

-- the element has the code that is gone, if one is
abbrev pub is_gone_code : Key → (old : Value) → (text : List ℕ) → Bool
is_gone_code key.Code (value.Text code) text = bytes_eq code text
is_gone_code key old text = true

abbrev pub shows_element : Difference → (slot : ℕ) → ElemFault → Bool
shows_element d slot e = is_element_code d.key e.code && (is_element_at d.at slot e && is_gone_code d.key d.old e.copy)

-- the difference makes segments stray: a node is gone, or fits fewer of them
abbrev pub is_straying : Key → (new : Value) → Bool
is_straying key.Node value.Nothing = true
is_straying key.Pick new = true
is_straying key new = false

-- a stray segment has the id of the node that differs; any other fault is of that very node
abbrev pub shows_segment : (id : List ℕ) → Difference → Fault → Bool
shows_segment id d f =
    if is_straying d.key d.new then is_of_stray f.code && (f.slot == 0 && bytes_eq f.id id)
    else is_segment_code d.key f.code && d.at.node == f.slot

-- a slot that is needed is missing, or one that is banned is there
abbrev pub is_target_code : DependencyKind → SegmentCode → Bool
is_target_code Need segment.DependentMissing = true
is_target_code Ban segment.DependentNotUsedPresent = true
is_target_code kind code = false

-- the same of an element
abbrev pub is_target_element : DependencyKind → ElementCode → Bool
is_target_element Need element.DependentMissing = true
is_target_element Ban element.DependentNotUsedPresent = true
is_target_element kind code = false

-- the target of the dependency isn't as it asks: a whole slot, whose element is 0, or an element of it
abbrev pub shows_target : Dependency → (slot : ℕ) → Fault → Bool
shows_target r slot f =
    slot == f.slot
    && option_map_or (λ e. r.element == e.element && is_target_element r.kind e.code) f.elem
    (r.element == 0 && is_target_code r.kind f.code)

-- the condition is broken at one of its positions, in the segment that has it
abbrev pub shows_condition : Condition → (node : ℕ) → Fault → Bool
shows_condition c node f =
    node == f.slot && option_map_or (λ e. is_of_relation c.relation e.code && list_any (λ p. p == e.element) c.positions) f.elem false

-- HL03 has the level that isn't listed under its parent's any more
abbrev pub shows_levels : HlPair → Fault → Bool
shows_levels p f = option_map_or (λ e. is_of_level e.code && (e.element == 3 && bytes_eq e.copy p.child)) f.elem false

abbrev pub shows_by_id : (id : List ℕ) → Difference → Fault → Bool
shows_by_id id d f = option_map_or (shows_element d f.slot) f.elem (shows_segment id d f)

-- a fault shows a difference, which is of a part of the guides
abbrev pub shows : Part → Difference → Fault → Bool
shows (part.Segment id) d f = shows_by_id id.now d f
shows (part.Target r slot) d f = shows_target r.now slot f
shows (part.Condition c) d f = shows_condition c.now d.at.node f
shows (part.Levels p) d f = shows_levels p.now f
