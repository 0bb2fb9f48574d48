-- X12.6, transaction set: what two guides say otherwise.
use Rattle.std.specs.Prelude.{ℕ, List, [], ◌++◌, Bool, true, false, Option, Some, None}
use Rattle.std.specs.List.{list_any}
use Rattle.guide_tree.specs.declared.rows.Dependency.{Dependency}
use Rattle.guide_tree.specs.declared.rows.GuideHead.{GuideHead}
use Rattle.guide_tree.specs.declared.rows.HlPair.{HlPair}
use Rattle.guide_tree.specs.declared.rows.HlRule.{HlRule}
use Rattle.guide_tree.specs.Words.{GuideTree}
use Rattle.guide_widening.specs.declared.difference.Change.TheVariants.{Narrower, Wider}
use Rattle.guide_widening.specs.declared.difference.Difference.{Difference}
use Rattle.guide_widening.specs.declared.difference.Key.{Key}
use Rattle.guide_widening.specs.declared.difference.Key.TheVariants as key
use Rattle.guide_widening.specs.declared.difference.Value.{Value}
use Rattle.guide_widening.specs.declared.difference.Value.TheVariants as value
use Rattle.guide_widening.specs.Changes.{said, text_change, convention_change, asked_change, text_value, items_differences}
use Rattle.guide_widening.specs.Changes.{gone_texts, new_texts}
use Rattle.guide_widening.specs.NodeDifferences.{at_node, nodes_differences}
use Rattle.guide_widening.specs.Rules.{is_dependency_kept, is_same_pair, tolerated_elements, tolerated_segments}
use Rattle.guide_widening.specs.Written.{dependency_text, pair_text}

abbrev pub text_differences : Key → (old new : List ℕ) → List Difference
text_differences key old new = said (at_node 0) key (text_change old new) (value.Text old) (value.Text new)

abbrev pub convention_differences : (old new : Option (List ℕ)) → List Difference
convention_differences old new =
    said (at_node 0) key.Convention (convention_change old new) (text_value old) (text_value new)

-- codes that don't reject a set: one that is gone is narrower
abbrev pub tolerance_differences : Key → (old new : List (List ℕ)) → List Difference
tolerance_differences key old new = gone_texts (at_node 0) key new old ++ new_texts (at_node 0) key old new

abbrev pub tolerated_differences : (old new : GuideHead) → List Difference
tolerated_differences old new =
    tolerance_differences key.TolerateSegment (tolerated_segments old) (tolerated_segments new)
    ++ tolerance_differences key.TolerateElement (tolerated_elements old) (tolerated_elements new)

abbrev pub head_differences : (old new : GuideHead) → List Difference
head_differences old new =
    text_differences key.Group old.group new.group
    ++ (text_differences key.Set old.set new.set
    ++ (text_differences key.Version old.version new.version
    ++ (convention_differences old.convention new.convention ++ tolerated_differences old new)))

abbrev pub is_pair_in : List HlPair → HlPair → Bool
is_pair_in pairs pair = list_any (λ other. is_same_pair other pair) pairs

abbrev pub pair_value : HlPair → Value
pair_value pair = value.Text (pair_text pair)

-- a pair of levels that is gone is narrower
abbrev pub pair_differences : (old new : List HlPair) → List Difference
pair_differences old new =
    items_differences (is_pair_in new) (at_node 0) key.Pair Narrower pair_value (λ p. value.Nothing) old
    ++ items_differences (is_pair_in old) (at_node 0) key.Pair Wider (λ p. value.Nothing) pair_value new

abbrev pub hierarchy_differences : (old new : Option HlRule) → List Difference
hierarchy_differences None None = []
hierarchy_differences None (Some new) = said (at_node 0) key.Hierarchy (Some Narrower) (value.Flag false) (value.Flag true)
hierarchy_differences (Some old) None = said (at_node 0) key.Hierarchy (Some Wider) (value.Flag true) (value.Flag false)
hierarchy_differences (Some old) (Some new) =
    said (at_node 0) key.Sequential (asked_change old.sequential new.sequential) (value.Flag old.sequential) (value.Flag new.sequential)
    ++ pair_differences old.pairs new.pairs

abbrev pub dependency_value : Dependency → Value
dependency_value depend = value.Text (dependency_text depend)

-- a new dependency is narrower unless old ones ask for all of it; an old one is wider unless it is asked for
abbrev pub dependency_differences : (old new : List Dependency) → List Difference
dependency_differences old new =
    items_differences (is_dependency_kept old) (at_node 0) key.Dependency Narrower (λ d. value.Nothing) dependency_value new
    ++ items_differences (is_dependency_kept new) (at_node 0) key.Dependency Wider dependency_value (λ d. value.Nothing) old

abbrev pub differences : (old new : GuideTree) → List Difference
differences old new =
    head_differences old.head new.head
    ++ (hierarchy_differences old.hl new.hl
    ++ (dependency_differences old.depends new.depends
    ++ nodes_differences old.nodes new.nodes))
