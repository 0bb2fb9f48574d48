-- The faults of a set's hierarchy and of its guide's dependencies.
use Rattle.std.proofs.Common.{◌≡◌, ◌↔◌, ◌⊎◌, inl, inr, ℕ, List, [], ◌∷◌, ◌++◌, map, Bool, true, false, Option, Some, None, refl, sym, ap}
use Rattle.std.proofs.Common.{◌∙◌, subst}
use Rattle.std.specs.Prelude.{filter, cond, IsSomeAnd}
use Rattle.std.specs.List.{Contains}
use Rattle.std.specs.Option.{option_map_or}
use Rattle.std.proofs.lemmas.List.Elements.{Contains-append_left, Contains-append_right, Contains-append_cases}
use Rattle.x12_bytes.specs.declared.delims.Delims.{Delims}
use Rattle.hub_kinds.specs.declared.fault.Fault.{Fault}
use Rattle.guide_tree.specs.Tree.{GuideTree}
use Rattle.guide_tree.specs.Nexts.{placing_of}
use Rattle.guide_tree.specs.declared.rows.HlRule.{HlRule}
use Rattle.elem_rules.proofs.ForAbove.{no_member}
use Rattle.loop_match.specs.PlacedSegments.{PlacedSegment, placed_segments}
use Rattle.hl_check.specs.Hierarchy as old_hl
use Rattle.depend_check.specs.Dependencies.{IsDependencyFault}
use Rattle.set_check.specs.SetFaults as old
use Rattle.night_definition.specs.Segments.{Elements}
use Rattle.night_definition.specs.Places.{Use, placing, uses}
use Rattle.night_definition.specs.Rules as room
use Rattle.night_equal_set.specs.Hl.{seen}
use Rattle.night_equal_set.specs.Dependencies.{IsFaultOf}
use Rattle.night_equal_set.specs.RuleFaults.{RuleFaultsAreOne}
use Rattle.night_equal_set.proofs.HlFaults.{hl_faults}
use Rattle.night_equal_set.proofs.Dependencies.{dependency_faults}
use Rattle.night_equal_set.proofs.PlacedSegments.{placed}

hls_are : (xs : List Use) → map seen (filter (λ x. room.is_hl x.segment) xs) ≡ filter (λ h. old_hl.is_hl h.segment) (map seen xs)
hls_are [] = refl
hls_are (x ∷ xs) = by (room.is_hl x.segment) (hls_are xs)
  where
    by : (b : Bool) → map seen (filter (λ x. room.is_hl x.segment) xs) ≡ filter (λ h. old_hl.is_hl h.segment) (map seen xs)
        → map seen (cond b (x ∷ filter (λ x. room.is_hl x.segment) xs) (filter (λ x. room.is_hl x.segment) xs))
        ≡ cond b (seen x ∷ filter (λ h. old_hl.is_hl h.segment) (map seen xs)) (filter (λ h. old_hl.is_hl h.segment) (map seen xs))
    by true is = ap (λ l. seen x ∷ l) is
    by false is = is

by_rule : (d : Delims) (o : Option HlRule) (xs : List Use) (hls : List PlacedSegment) (f : Fault) → map seen xs ≡ hls
    → Contains (option_map_or (λ rule. room.hl_faults rule d [] xs) o []) f ↔ IsSomeAnd o (λ rule. old_hl.IsFaultAmong rule d hls f)
by_rule d None xs hls f are = (λ c. absurd (no_member f c), λ h. absurd h)
by_rule d (Some rule) xs hls f are = (
  λ c. subst (λ l. old_hl.IsFaultAmong rule d l f) are ((hl_faults rule d xs f).0 c),
  λ h. (hl_faults rule d xs f).1 (subst (λ l. old_hl.IsFaultAmong rule d l f) (sym are) h),
)

pub rule_faults : RuleFaultsAreOne
rule_faults g d body end f = (to, from)
  where
    xs : List Use
    xs = uses (placing g.nodes None 2 body)

    front : Contains (room.hierarchy_faults g d xs) f ↔ old_hl.IsHierarchyFault g d body (placing_of g.nodes body) f
    front = by_rule d g.hl (filter (λ x. room.is_hl x.segment) xs) (old_hl.hls_of g.nodes body (placing_of g.nodes body)) f
        (hls_are xs ∙ ap (filter (λ h. old_hl.is_hl h.segment)) (placed g.nodes body))

    forth : Contains (room.dependency_faults g d end xs) f → IsDependencyFault g d body (placing_of g.nodes body) end f
    forth c =
        let r : IsFaultOf g d end (placed_segments g.nodes body (placing_of g.nodes body)) f =
        subst (λ l. IsFaultOf g d end l f) (placed g.nodes body) ((dependency_faults g d end xs f).0 c) in
        record { dependency = r.0; listed = r.1; triggered = r.2; broken = r.3 }

    back : IsDependencyFault g d body (placing_of g.nodes body) end f → Contains (room.dependency_faults g d end xs) f
    back h =
        (dependency_faults g d end xs f).1
        (subst (λ l. IsFaultOf g d end l f) (sym (placed g.nodes body)) (h.dependency, h.listed, h.triggered, h.broken))

    to : Contains (room.hierarchy_faults g d xs ++ room.dependency_faults g d end xs) f
        → old.IsRuleFault g d body (placing_of g.nodes body) end f
    to c = elim (Contains-append_cases (room.hierarchy_faults g d xs) (room.dependency_faults g d end xs) f c) [
      | inl e ↦ inl (front.0 e)
      | inr e ↦ inr (forth e)
    ]

    from : old.IsRuleFault g d body (placing_of g.nodes body) end f → Contains
        (room.hierarchy_faults g d xs ++ room.dependency_faults g d end xs) f
    from h = elim h [
      | inl e ↦ Contains-append_left (room.hierarchy_faults g d xs) (room.dependency_faults g d end xs) f (front.1 e)
      | inr e ↦ Contains-append_right (room.hierarchy_faults g d xs) (room.dependency_faults g d end xs) f (back e)
    ]
