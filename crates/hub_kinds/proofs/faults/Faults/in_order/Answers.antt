use Rattle.std.proofs.Common.{◌↔◌, [], Box, Global, List, Option, ap, subst, sym, ◌∙◌}
use Rattle.std.specs.List.{Contains}
use Rattle.std.specs.Option.{option_map_or}
use Rattle.hub_kinds.specs.declared.fault.Fault.{Fault}
use Rattle.hub_kinds.specs.declared.fault_rows.FaultRows.{FaultRows}
use Rattle.hub_kinds.specs.Fault.{key_of}
use Rattle.hub_kinds.proofs.Once.{none_rises}
use Rattle.hub_kinds.proofs.faults.Faults.in_order.Goals as goal

pub returns-in-None-clause-rising : goal.returns-in-None-clause-rising
returns-in-None-clause-rising c = none_rises key_of

pub returns-in-Some-clause-same : goal.returns-in-Some-clause-same
returns-in-Some-clause-same c =
    subst (λ (l : List Fault). (f : Fault) → Contains c.in_order.result.value f ↔ Contains l f)
    (ap (λ (o : Option (Box FaultRows Global)). option_map_or (λ b. b.value) o []) (sym c.in-Some.is) ∙ c.self.view_is)
    c.in_order.ensures.same
