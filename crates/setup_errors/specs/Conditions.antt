-- X12.6, relational conditions; picks are own: what of a segment position's conditions and picks can't be.
use Rattle.std.specs.Prelude.{ℕ, Bool, nat_lt, not, List, [], ◌∷◌, length, Option, Some, None, if◌then◌else◌, option_map}
use Rattle.std.specs.List.{find, list_any}
use Rattle.guide_tree.specs.Words.{Tree, has_row, has_codes, loop, or_else, segment}
use Rattle.guide_tree.specs.declared.slot.Condition.{Condition}
use Rattle.guide_tree.specs.declared.slot.Pick.{Pick}
use Rattle.guide_tree.specs.declared.slot.Slot.{Slot}
use Rattle.setup_errors.specs.declared.conditions.ConditionCause.{ConditionCause}
use Rattle.setup_errors.specs.declared.conditions.ConditionCause.TheVariants as cause

-- the first position at which there isn't an element
abbrev pub missing_row : Slot → (positions : List ℕ) → Option ℕ
missing_row s positions = find (λ p. not (has_row s p)) positions

abbrev pub missing_rows : Slot → List Condition → Option ℕ
missing_rows s [] = None
missing_rows s (c ∷ cs) = or_else (missing_row s c.positions) (missing_rows s cs)

abbrev pub are_few : Condition → Bool
are_few c = nat_lt (length c.positions) 2

abbrev pub pick_cause : Slot → Pick → Option ConditionCause
pick_cause s p =
    if not (has_row s p.position) then Some (cause.PickNoRow p.position)
    else (if not (has_codes p.codes) then Some (cause.PickNoCode p.position) else None)

abbrev pub picks_cause : Slot → List Pick → Option ConditionCause
picks_cause s [] = None
picks_cause s (p ∷ ps) = or_else (pick_cause s p) (picks_cause s ps)

-- an element that isn't there, too few of them, then the picks; none is left where an element or a label is twice
abbrev pub condition_cause : Slot → Option ConditionCause
condition_cause s =
    or_else (option_map (λ p. cause.NoRow p) (missing_rows s s.conditions))
    (if list_any are_few s.conditions then Some cause.Few else picks_cause s s.picks)

-- of a node, if it is a segment position
abbrev pub node_condition : Tree → Option ConditionCause
node_condition (segment s) = condition_cause s
node_condition (loop l ts) = None
