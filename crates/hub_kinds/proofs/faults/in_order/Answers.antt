use Rattle.std.proofs.Common.{◌↔◌, List, subst}
use Rattle.std.specs.List.{Contains}
use Rattle.hub_kinds.specs.declared.fault.Fault.{Fault}
use Rattle.hub_kinds.proofs.faults.in_order.Goals as goal

pub returns-clause-same : goal.returns-clause-same
returns-clause-same c =
    subst (λ (l : List Fault). (f : Fault) → Contains c.put_in_order.new.self f ↔ Contains l f) c.deref_mut.ensures.value
    c.put_in_order.ensures.same
