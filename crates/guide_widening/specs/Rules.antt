-- X12.6, transaction set: what a new guide says beside its nodes refuses no set that the old one takes. The rules themselves are own.
use Rattle.std.specs.Prelude.{ℕ, ◌==◌, List, map, Bool, true, false, ◌&&◌, ◌||◌, not, Option, Some, None}
use Rattle.std.specs.List.{list_all, list_any}
use Rattle.std.specs.Str.{bytes_eq}
use Rattle.hub_kinds.specs.Words.{contains_text, element_code_text, segment_code_text}
use Rattle.guide_tree.specs.declared.rows.GuideHead.{GuideHead}
use Rattle.guide_tree.specs.declared.rows.HlPair.{HlPair}
use Rattle.guide_tree.specs.declared.rows.HlRule.{HlRule}
use Rattle.guide_tree.specs.declared.rows.Dependency.{Dependency}
use Rattle.guide_tree.specs.declared.rows.DependencyKind.{DependencyKind}
use Rattle.guide_tree.specs.declared.rows.DependencyKind.TheVariants.{Need, Ban}
use Rattle.guide_widening.specs.Rows.{are_texts_of}
use Rattle.guide_widening.specs.Nodes.{is_same_text}

abbrev pub is_same_pair : HlPair → HlPair → Bool
is_same_pair p q = is_same_text p.parent q.parent && bytes_eq p.child q.child

-- each old pair of levels is a new one
abbrev pub are_wider_pairs : (old new : List HlPair) → Bool
are_wider_pairs old new = list_all (λ pair. list_any (λ after. is_same_pair after pair) new) old

-- no rule, or the old one with the same pairs of levels or more, and no count of HL01 that wasn't asked for
abbrev pub is_wider_hierarchy : (old new : Option HlRule) → Bool
is_wider_hierarchy old None = true
is_wider_hierarchy None (Some new) = false
is_wider_hierarchy (Some old) (Some new) = (old.sequential || not new.sequential) && are_wider_pairs old.pairs new.pairs

abbrev pub is_same_kind : DependencyKind → DependencyKind → Bool
is_same_kind Need Need = true
is_same_kind Need Ban = false
is_same_kind Ban Need = false
is_same_kind Ban Ban = true

-- they ask the same of one target, where one element of one slot has a code
abbrev pub asks_same : (one other : Dependency) → Bool
asks_same one other =
    is_same_kind one.kind other.kind
    && ((one.at == other.at)
    && ((one.element == other.element) && (bytes_eq one.slot other.slot && bytes_eq one.target other.target)))

-- a code makes some dependency ask the same
abbrev pub is_code_asked : List Dependency → Dependency → (code : List ℕ) → Bool
is_code_asked depends depend code = list_any (λ other. asks_same other depend && contains_text other.codes code) depends

-- each of its codes makes one of some dependencies ask the same
abbrev pub is_dependency_kept : List Dependency → Dependency → Bool
is_dependency_kept depends depend = list_all (is_code_asked depends depend) depend.codes

-- each new dependency was asked for by old ones
abbrev pub are_wider_dependencies : (old new : List Dependency) → Bool
are_wider_dependencies old new = list_all (is_dependency_kept old) new

-- no convention is asked for, or the old one
abbrev pub is_wider_convention : (old new : Option (List ℕ)) → Bool
is_wider_convention old None = true
is_wider_convention None (Some new) = false
is_wider_convention (Some old) (Some new) = bytes_eq old new

-- the codes that don't reject a set, as they are written
abbrev pub tolerated_segments : GuideHead → List (List ℕ)
tolerated_segments head = map segment_code_text head.tolerate_segment

abbrev pub tolerated_elements : GuideHead → List (List ℕ)
tolerated_elements head = map element_code_text head.tolerate_element

-- each code that didn't reject a set still doesn't
abbrev pub is_wider_tolerance : (old new : GuideHead) → Bool
is_wider_tolerance old new =
    are_texts_of (tolerated_segments new) (tolerated_segments old) && are_texts_of (tolerated_elements new) (tolerated_elements old)
