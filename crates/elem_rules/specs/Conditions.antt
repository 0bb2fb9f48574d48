-- X12.6, relational conditions, and the 999 guide, IK403: at which of the elements that a condition lists it is broken.
use Rattle.std.specs.Prelude.{ℕ, List, [], take, drop, Bool, not, if◌then◌else◌}
use Rattle.std.specs.List.{list_any, filter}
use Rattle.guide_tree.specs.declared.slot.Relation.{Relation}
use Rattle.guide_tree.specs.declared.slot.Relation.TheVariants.{Paired, Required, Exclusion, Conditional, ListConditional}
use Rattle.guide_tree.specs.Words.{Segment, element_at}
use Rattle.hub_kinds.specs.declared.codes.ElementCode.{ElementCode}
use Rattle.hub_kinds.specs.declared.codes.ElementCode.TheVariants as ik403
use Rattle.x12_bytes.specs.declared.delims.Delims.{Delims}
use Rattle.elem_rules.specs.Divided.{is_filled}

-- an element is present where it isn't empty
abbrev pub is_present : Delims → Segment → ℕ → Bool
is_present delims s position = is_filled delims (element_at s position)

abbrev pub absent : (ℕ → Bool) → List ℕ → List ℕ
absent present positions = filter (λ position. not (present position)) positions

-- if any is present, all are: each absent one
-- at least one is present: the first listed
-- at most one is present: each present one but the first of them
-- if the first is present, all others are: each absent other
-- if the first is present, one of the others is: the first of the others
abbrev pub broken_at : (ℕ → Bool) → Relation → List ℕ → List ℕ
broken_at present Paired positions = if list_any present positions then absent present positions else []
broken_at present Required positions = if list_any present positions then [] else take 1 positions
broken_at present Exclusion positions = drop 1 (filter present positions)
broken_at present Conditional positions = if list_any present (take 1 positions) then absent present (drop 1 positions) else []
broken_at present ListConditional positions =
    if list_any present (take 1 positions)
    then (if list_any present (drop 1 positions) then [] else take 1 (drop 1 positions))
    else []

abbrev pub condition_code : Relation → ElementCode
condition_code Paired = ik403.ConditionalMissing
condition_code Required = ik403.ConditionalMissing
condition_code Exclusion = ik403.ExclusionViolated
condition_code Conditional = ik403.ConditionalMissing
condition_code ListConditional = ik403.ConditionalMissing
