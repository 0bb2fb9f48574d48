-- X12.6, loops: why a node isn't a loop that begins with a segment which is there once.
use Rattle.std.specs.Prelude.{◌==◌, ◌&&◌, Option, None, Some, if◌then◌else◌}
use Rattle.guide_tree.specs.Words.{Tree, Trees, loop, no_trees, segment, tree}
use Rattle.guide_tree.specs.declared.slot.Slot.{Slot}
use Rattle.setup_errors.specs.declared.triggers.TriggerCause.{TriggerCause}
use Rattle.setup_errors.specs.declared.triggers.TriggerCause.TheVariants as cause

abbrev pub uses_cause : Slot → Option TriggerCause
uses_cause s = if (s.min == 1) && (s.max == 1) then None else Some (cause.Uses s.min s.max)

abbrev pub first_cause : Trees → Option TriggerCause
first_cause no_trees = Some cause.NoNode
first_cause (tree (segment s) ts) = uses_cause s
first_cause (tree (loop l us) ts) = Some cause.LoopFirst

abbrev pub trigger_cause : Tree → Option TriggerCause
trigger_cause (segment s) = Some cause.NotLoop
trigger_cause (loop l ts) = first_cause ts
