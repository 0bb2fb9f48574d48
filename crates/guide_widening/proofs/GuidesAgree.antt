-- No difference of two guides narrows exactly where the new guide is wider.
use Rattle.std.proofs.Common.{◌≡◌, ℕ, List, Bool, true, false, Option, Some, None, refl}
use Rattle.std.specs.Prelude.{◌&&◌, ◌||◌, not}
use Rattle.std.specs.Str.{bytes_eq}
use Rattle.guide_tree.specs.declared.rows.Dependency.{Dependency}
use Rattle.guide_tree.specs.declared.rows.GuideHead.{GuideHead}
use Rattle.guide_tree.specs.declared.rows.HlPair.{HlPair}
use Rattle.guide_tree.specs.declared.rows.HlRule.{HlRule}
use Rattle.guide_tree.specs.Words.{GuideTree}
use Rattle.guide_widening.specs.declared.difference.Key.{Key}
use Rattle.guide_widening.specs.declared.difference.Key.TheVariants as key
use Rattle.guide_widening.specs.declared.difference.Value.TheVariants as value
use Rattle.guide_widening.specs.Changes.{text_change, convention_change, asked_change, text_value}
use Rattle.guide_widening.specs.Differences as found
use Rattle.guide_widening.specs.NodeDifferences.{at_node}
use Rattle.guide_widening.specs.Nodes.{are_wider_nodes}
use Rattle.guide_widening.specs.Rows.{are_texts_of}
use Rattle.guide_widening.specs.Rules.{are_wider_pairs, is_dependency_kept, is_wider_hierarchy, are_wider_dependencies}
use Rattle.guide_widening.specs.Rules.{is_wider_convention, is_wider_tolerance, tolerated_elements, tolerated_segments}
use Rattle.guide_widening.specs.Wider.{is_wider, is_same_set}
use Rattle.guide_widening.proofs.Agreeing.{Says, both, turn, told, keeps, keeps_other, keeps_narrower, new_wider}
use Rattle.guide_widening.proofs.Agreeing.{gone_narrower, items_narrower, items_wider, with_true, four, five}
use Rattle.guide_widening.proofs.NodesAgree.{nodes_agree}

text_agrees : (key : Key) (old new : List ℕ) → Says (found.text_differences key old new) (bytes_eq old new)
text_agrees key old new =
    told (at_node 0) key (text_change old new) (value.Text old) (value.Text new) (bytes_eq old new) (keeps_other (bytes_eq old new))

keeps_convention : (old new : Option (List ℕ)) → keeps (convention_change old new) ≡ is_wider_convention old new
keeps_convention None None = refl
keeps_convention None (Some new) = refl
keeps_convention (Some old) None = refl
keeps_convention (Some old) (Some new) = keeps_narrower (bytes_eq old new)

convention_agrees : (old new : Option (List ℕ)) → Says (found.convention_differences old new) (is_wider_convention old new)
convention_agrees old new =
    told (at_node 0) key.Convention (convention_change old new) (text_value old) (text_value new) (is_wider_convention old new)
    (keeps_convention old new)

keeps_asked : (old new : Bool) → keeps (asked_change old new) ≡ (old || not new)
keeps_asked true true = refl
keeps_asked true false = refl
keeps_asked false true = refl
keeps_asked false false = refl

pairs_agree : (old new : List HlPair) → Says (found.pair_differences old new) (are_wider_pairs old new)
pairs_agree old new =
    turn (both (items_narrower (found.is_pair_in new) (at_node 0) key.Pair found.pair_value (λ p. value.Nothing) old)
    (items_wider (found.is_pair_in old) (at_node 0) key.Pair
    (λ p. value.Nothing) found.pair_value new)) (with_true (are_wider_pairs old new))

hierarchy_agrees : (old new : Option HlRule) → Says (found.hierarchy_differences old new) (is_wider_hierarchy old new)
hierarchy_agrees None None = record { is = refl }
hierarchy_agrees None (Some new) = record { is = refl }
hierarchy_agrees (Some old) None = record { is = refl }
hierarchy_agrees (Some old) (Some new) =
    both (told (at_node 0) key.Sequential (asked_change old.sequential new.sequential) (value.Flag old.sequential)
    (value.Flag new.sequential) (old.sequential || not new.sequential) (keeps_asked old.sequential new.sequential))
    (pairs_agree old.pairs new.pairs)

dependencies_agree : (old new : List Dependency) → Says (found.dependency_differences old new) (are_wider_dependencies old new)
dependencies_agree old new =
    turn (both (items_narrower (is_dependency_kept old) (at_node 0) key.Dependency (λ d. value.Nothing) found.dependency_value new)
    (items_wider (is_dependency_kept new) (at_node 0) key.Dependency found.dependency_value
    (λ d. value.Nothing) old)) (with_true (are_wider_dependencies old new))

tolerance_agrees : (key : Key) (old new : List (List ℕ)) → Says (found.tolerance_differences key old new) (are_texts_of new old)
tolerance_agrees key old new =
    turn (both (gone_narrower (at_node 0) key new old) (new_wider (at_node 0) key old new)) (with_true (are_texts_of new old))

tolerated_agree : (old new : GuideHead) → Says (found.tolerated_differences old new) (is_wider_tolerance old new)
tolerated_agree old new =
    both (tolerance_agrees key.TolerateSegment (tolerated_segments old) (tolerated_segments new))
    (tolerance_agrees key.TolerateElement (tolerated_elements old) (tolerated_elements new))

heads_agree : (old new : GuideHead) → Says (found.head_differences old new)
    ((is_same_set old new && is_wider_convention old.convention new.convention) && is_wider_tolerance old new)
heads_agree old new =
    turn (both (text_agrees key.Group old.group new.group)
    (both (text_agrees key.Set old.set new.set)
    (both (text_agrees key.Version old.version new.version)
    (both (convention_agrees old.convention new.convention) (tolerated_agree old new)))))
    (five (bytes_eq old.group new.group) (bytes_eq old.set new.set) (bytes_eq old.version new.version)
    (is_wider_convention old.convention new.convention) (is_wider_tolerance old new))

pub guides_agree : (old new : GuideTree) → Says (found.differences old new) (is_wider old new)
guides_agree old new =
    turn (both (heads_agree old.head new.head)
    (both (hierarchy_agrees old.hl new.hl)
    (both (dependencies_agree old.depends new.depends) (nodes_agree old.nodes new.nodes))))
    (four ((is_same_set old.head new.head && is_wider_convention old.head.convention new.head.convention)
    && is_wider_tolerance old.head new.head)
    (is_wider_hierarchy old.hl new.hl) (are_wider_dependencies old.depends new.depends) (are_wider_nodes old.nodes new.nodes))
