-- HL segments that are whole.
use Rattle.std.proofs.Common.{◌≡◌, ◌↔◌, ℕ, ◌+◌, List, [], ◌∷◌, Bool, true, false, ◌&&◌, ◌||◌, not, Option, Some, None, refl, sym, ap, ◌∙◌}
use Rattle.std.proofs.Common.{arith}
use Rattle.std.specs.Prelude.{IsTrue, IsFalse, bytes_eq, if◌then◌else◌, is_none, slice_get, take, drop}
use Rattle.std.specs.List.{list_any}
use Rattle.std.specs.Option.{option_map_or}
use Rattle.x12_bytes.specs.declared.delims.Delims.{Delims}
use Rattle.guide_tree.specs.declared.rows.HlRule.{HlRule}
use Rattle.guide_tree.specs.declared.rows.HlPair.{HlPair}
use Rattle.night_definition.specs.Segments.{Elements, element}
use Rattle.night_definition.specs.Elements.{is_filled}
use Rattle.night_definition.specs.Rules as room
use Rattle.night_definition.specs.Sets as room_sets
use Rattle.hl_check.specs.Hierarchy as old
use Rattle.night_equal_set.specs.Hierarchies.{HierarchiesAreOne}
use Rattle.night_equal_set.proofs.Facts.{same_text}

parent_is : (a : List ℕ) (p : Option (List ℕ)) → option_map_or (bytes_eq a) p false ≡ option_map_or (λ own. bytes_eq own a) p false
parent_is a None = refl
parent_is a (Some own) = same_text a own

listed_in : (rule : HlRule) (pairs : List HlPair) (parent : Option (List ℕ)) (level : List ℕ)
    → room.is_listed (record rule { pairs = pairs }) parent level ≡ list_any (old.is_pair parent level) pairs
listed_in rule [] parent level = refl
listed_in rule (pair ∷ pairs) None level = ap (λ b. (is_none pair.parent && bytes_eq pair.child level) || b)
    (listed_in rule pairs None level)
listed_in rule (pair ∷ pairs) (Some a) level =
    ap (λ b. (option_map_or (bytes_eq a) pair.parent false && bytes_eq pair.child level) || b) (listed_in rule pairs (Some a) level)
    ∙ ap (λ c. (c && bytes_eq pair.child level) || list_any (old.is_pair (Some a) level) pairs) (parent_is a pair.parent)

pub listed_is : (rule : HlRule) (parent : Option (List ℕ)) (level : List ℕ) → room.is_listed rule parent level
    ≡ old.is_listed rule parent level
listed_is rule parent level = listed_in rule rule.pairs parent level

pub level_is : (rule : HlRule) (d : Delims) (earlier : List Elements) (h : Elements)
    → room.is_level_wrong rule d earlier h ≡ old.is_level_wrong rule d earlier h
level_is rule d earlier h = by (is_filled d (element 2 h)) (room.first_numbered (element 2 h) earlier)
  where
    by : (filled : Bool) (first : Option Elements)
        → (if filled then option_map_or (λ p. not (room.is_listed rule (Some (element 3 p)) (element 3 h))) first false
        else not (room.is_listed rule None (element 3 h)))
        ≡ (if filled then option_map_or (λ p. not (old.is_listed rule (Some (element 3 p)) (element 3 h))) first false
        else not (old.is_listed rule None (element 3 h)))
    by false first = ap not (listed_is rule None (element 3 h))
    by true None = refl
    by true (Some p) = ap not (listed_is rule (Some (element 3 p)) (element 3 h))

four : (a b c e : Bool) → IsTrue (not a && not b && not c && not e) → IsFalse a × IsFalse b × IsFalse c × IsFalse e
four a b c e is = grind arith

one : (a b c e : Bool) → IsFalse a × IsFalse b × IsFalse c × IsFalse e → IsTrue (not a && not b && not c && not e)
one a b c e is = grind arith

abbrev tests : (level : Bool) (rule : HlRule) (d : Delims) (hls : List Elements) (n : ℕ) (h : Elements) → Bool
tests level rule d hls n h =
    not (room.is_number_wrong rule d (take n hls) h) && not (room.is_parent_wrong d (take n hls) h)
    && not level && not (room.is_child_wrong d h (drop (n + 1) hls))

pub whole : HierarchiesAreOne
whole rule d hls = (to, from)
  where
    to : room_sets.IsHierarchyWhole rule d hls → old.IsHierarchyWhole (Some rule) d hls
    to is n h there =
        four (old.is_number_wrong rule d (take n hls) h) (old.is_parent_wrong d (take n hls) h) (old.is_level_wrong rule d (take n hls) h)
        (old.is_child_wrong d h (drop (n + 1) hls))
        (sym (ap (λ b. tests b rule d hls n h) (level_is rule d (take n hls) h)) ∙ is n h there)

    from : old.IsHierarchyWhole (Some rule) d hls → room_sets.IsHierarchyWhole rule d hls
    from is n h there =
        ap (λ b. tests b rule d hls n h) (level_is rule d (take n hls) h)
        ∙ one (old.is_number_wrong rule d (take n hls) h) (old.is_parent_wrong d (take n hls) h)
        (old.is_level_wrong rule d (take n hls) h)
        (old.is_child_wrong d h (drop (n + 1) hls)) (is n h there)
