-- X12.6, transaction set: what is wrong with each node of a guide, looked at by itself.
use Rattle.std.specs.Prelude.{ℕ, zero, suc, ◌+◌, List, [], ◌∷◌, ◌++◌, Option, None, Some}
use Rattle.std.specs.Option.{option_map_or}
use Rattle.hub_kinds.specs.declared.limits.TheConstants.{MOST_NODES}
use Rattle.guide_tree.specs.Words.{Tree, Trees, loop, segment}
use Rattle.setup_errors.specs.Bounds.{bounds_cause}
use Rattle.setup_errors.specs.Conditions.{node_condition}
use Rattle.setup_errors.specs.Nodes.{numbered_node}
use Rattle.setup_errors.specs.Triggers.{trigger_cause}
use Rattle.setup_errors.specs.declared.nodes_said.NodeFault.{NodeFault}
use Rattle.setup_errors.specs.declared.nodes_said.NodeFault.TheVariants as fault

abbrev pub bounds_faults : (number : ℕ) → Tree → List NodeFault
bounds_faults number t = option_map_or (λ cause. fault.Bounds number cause ∷ []) (bounds_cause t) []

abbrev pub loop_faults : (number : ℕ) → Tree → List NodeFault
loop_faults number t = option_map_or (λ cause. fault.Trigger number cause ∷ []) (trigger_cause t) []

abbrev pub trigger_faults : (number : ℕ) → Tree → List NodeFault
trigger_faults number (segment s) = []
trigger_faults number (loop l ts) = loop_faults number (loop l ts)

abbrev pub condition_faults : (number : ℕ) → Tree → List NodeFault
condition_faults number t = option_map_or (λ cause. fault.Condition number cause ∷ []) (node_condition t) []

-- its bounds, how a loop begins, its conditions and picks
abbrev pub faults_of : (number : ℕ) → Tree → List NodeFault
faults_of number t = bounds_faults number t ++ (trigger_faults number t ++ condition_faults number t)

abbrev pub found_faults : (number : ℕ) → Option Tree → List NodeFault
found_faults number None = []
found_faults number (Some t) = faults_of number t

-- of the nodes with the numbers from 1 to a most
unfoldable pub faults_up_to : (most : ℕ) → Trees → List NodeFault
faults_up_to zero nodes = []
faults_up_to (suc n) nodes = faults_up_to n nodes ++ found_faults (n + 1) (numbered_node (n + 1) nodes)

abbrev pub node_faults : Trees → List NodeFault
node_faults nodes = faults_up_to MOST_NODES nodes
