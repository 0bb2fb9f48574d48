use Rattle.std.proofs.Common.{[], Box, Global, List, Option, ap, subst, sym, ◌∙◌}
use Rattle.std.specs.List.Sorted.{IsBinarySearchResult}
use Rattle.std.specs.Option.{option_map_or}
use Rattle.hub_kinds.specs.declared.fault.Fault.{Fault}
use Rattle.hub_kinds.specs.declared.fault_rows.FaultRows.{FaultRows}
use Rattle.hub_kinds.specs.Fault.{key_of}
use Rattle.hub_kinds.specs.Rising.{order_by}
use Rattle.hub_kinds.proofs.faults.Faults.search.Goals as goal

pub returns-in-Some-clause-position : goal.returns-in-Some-clause-position
returns-in-Some-clause-position c =
    subst (λ (l : List Fault). IsBinarySearchResult (λ other. order_by key_of other c.args.fault.now) l c.search.result)
    (c.deref.ensures ∙ ap (λ (o : Option (Box FaultRows Global)). option_map_or (λ b. b.value) o []) (sym c.in-Some.is)
    ∙ c.self.view_is)
    c.search.ensures.position
