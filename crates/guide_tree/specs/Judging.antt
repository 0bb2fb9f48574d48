-- X12.6, transaction set (own): the kinds of faults one after another, and the first that there is.
use Rattle.std.specs.Prelude.{ℕ, nat_le, Option, Some, None, option_map, if◌then◌else◌}
use Rattle.hub_kinds.specs.declared.limits.TheConstants.{MOST_NODES}
use Rattle.guide_tree.specs.declared.limits.TheConstants.{MOST_NESTED}
use Rattle.guide_tree.specs.declared.fault.GuideFault.{GuideFault}
use Rattle.guide_tree.specs.declared.fault.GuideFault.TheVariants as fault
use Rattle.guide_tree.specs.declared.judge.Rule.TheVariants as rule
use Rattle.guide_tree.specs.Tree.{GuideTree, nesting, node_count, or_else}
use Rattle.guide_tree.specs.Conditions.{are_names_known}
use Rattle.guide_tree.specs.Rules.{keeps, first_failing}
use Rattle.guide_tree.specs.Rivals.{Numbers, least_rivals}

abbrev pub at_slot : (ℕ → GuideFault) → Option ℕ → Option GuideFault
at_slot fault_at found = option_map fault_at found

abbrev pub between_slots : Numbers → GuideFault
between_slots m = fault.Ambiguous m.0 m.1

-- what is judged slot by slot
abbrev pub first_in_rows : GuideTree → Option GuideFault
first_in_rows g =
    or_else (at_slot fault.BadBounds (first_failing (keeps rule.Bounds g.nodes) g.nodes))
    (or_else (at_slot fault.BadTrigger (first_failing (keeps rule.Trigger g.nodes) g.nodes))
    (or_else (if are_names_known g then None else Some (fault.BadCondition 0))
    (or_else (at_slot fault.BadCondition (first_failing (keeps rule.Conditions g.nodes) g.nodes))
    (option_map between_slots (least_rivals None g.nodes)))))

-- what is judged before any other walk
abbrev pub first_in_size : GuideTree → Option GuideFault
first_in_size g =
    or_else (if nat_le (nesting g.nodes) MOST_NESTED then None else Some fault.TooDeep)
    (if nat_le (node_count g.nodes) MOST_NODES then None else Some fault.TooMany)
