-- X12.6, loops begin with a segment that is there once; relational conditions name elements that there are.
-- Picks, labels, dependencies and the rule of the hierarchy are own.
use Rattle.std.specs.Prelude.{ℕ, ◌==◌, nat_le, List, [], ◌∷◌, codes, length, map, Option, Some, None, Bool, true}
use Rattle.std.specs.Prelude.{false, ◌&&◌, ◌||◌, not}
use Rattle.std.specs.List.{list_any, list_all}
use Rattle.std.specs.Option.{option_map_or}
use Rattle.std.specs.Str.{bytes_eq}
use Rattle.guide_tree.specs.declared.slot.Slot.{Slot}
use Rattle.guide_tree.specs.declared.slot.Condition.{Condition}
use Rattle.guide_tree.specs.declared.slot.Pick.{Pick}
use Rattle.guide_tree.specs.declared.rows.Dependency.{Dependency}
use Rattle.guide_tree.specs.declared.rows.HlRule.{HlRule}
use Rattle.guide_tree.specs.Tree.{Tree, Trees, segment, loop, no_trees, tree, find_slot, any_slot, GuideTree}
use Rattle.guide_tree.specs.Bounds.{is_within, has_codes}

-- is there exactly once
abbrev pub is_once : Slot → Bool
is_once s = (s.min == 1) && (s.max == 1)

-- a loop's first child is a segment that is there exactly once
abbrev pub has_trigger : Trees → Bool
has_trigger no_trees = false
has_trigger (tree (segment s) ts) = is_once s
has_trigger (tree (loop l us) ts) = false

abbrev pub is_triggered : Tree → Bool
is_triggered (segment s) = true
is_triggered (loop l ts) = has_trigger ts

-- no number twice
abbrev pub is_distinct : List ℕ → Bool
is_distinct [] = true
is_distinct (x ∷ xs) = not (list_any (λ y. x == y) xs) && is_distinct xs

-- a position, from 1 on, at which the slot has a row
abbrev pub has_row : Slot → ℕ → Bool
has_row s position = is_within 1 (length s.elements) position

-- two or more positions, none twice, each with a row
abbrev pub is_condition_of : Slot → Condition → Bool
is_condition_of s c = nat_le 2 (length c.positions) && is_distinct c.positions && list_all (has_row s) c.positions

-- a position with a row, and some code
abbrev pub is_pick_of : Slot → Pick → Bool
is_pick_of s p = has_row s p.position && has_codes p.codes

abbrev pub pick_position : Pick → ℕ
pick_position p = p.position

abbrev pub are_picks_of : Slot → List Pick → Bool
are_picks_of s picks = is_distinct (map pick_position picks) && list_all (is_pick_of s) picks

abbrev pub has_label : List ℕ → Slot → Bool
has_label label s = option_map_or (λ l. bytes_eq l label) s.label false

-- the slot that a label names: the first that has it
abbrev pub labelled : Trees → List ℕ → Option Slot
labelled ts label = find_slot (has_label label) ts

-- the label isn't an earlier slot's
abbrev pub is_label_new : Trees → Slot → Bool
is_label_new ts s = option_map_or (λ l. option_map_or (λ first. nat_le s.number first.number) (labelled ts l) true) s.label true

abbrev pub is_slot_conditioned : Trees → Slot → Bool
is_slot_conditioned ts s = list_all (is_condition_of s) s.conditions && are_picks_of s s.picks && is_label_new ts s

-- the node's own conditions, picks and label
abbrev pub is_conditioned : Trees → Tree → Bool
is_conditioned ts (segment s) = is_slot_conditioned ts s
is_conditioned ts (loop l us) = true

-- both labels name a slot, the first one's element has a row, and so has the second one's, if it names one
abbrev pub is_dependency_of : Trees → Dependency → Bool
is_dependency_of ts d =
    option_map_or (λ s. has_row s d.at) (labelled ts d.slot) false
    && option_map_or (λ s. (d.element == 0) || has_row s d.element) (labelled ts d.target) false

-- a segment HL of at least four elements
abbrev pub is_hierarchy_slot : Slot → Bool
is_hierarchy_slot s = bytes_eq s.id (codes "HL") && nat_le 4 (length s.elements)

abbrev pub is_hierarchy_of : Trees → Option HlRule → Bool
is_hierarchy_of ts None = true
is_hierarchy_of ts (Some rule) = any_slot is_hierarchy_slot ts

-- what the guide says beside its nodes speaks of slots and elements that there are
abbrev pub are_names_known : GuideTree → Bool
are_names_known g = list_all (is_dependency_of g.nodes) g.depends && is_hierarchy_of g.nodes g.hl
