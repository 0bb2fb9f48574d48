use Rattle.std.proofs.Common.{List, sym, subst}
use Rattle.std.specs.List.{Contains}
use Rattle.hub_kinds.specs.declared.fault.ElemFault.{ElemFault}
use Rattle.hub_kinds.specs.Words.{element_key_of, IsKeyedBy}
use Rattle.elem_rules.proofs.exact.check_segment_at.Goals as goal

pub returns-clause-exact : goal.returns-clause-exact
returns-clause-exact c f =
    let a = c.in_order.ensures.same f in
    let b = c.in_ok-found.ensures.exact f in (
      λ h. b.0 (subst (λ (l : List ElemFault). Contains l f) c.into_faults.ensures (a.0 h)),
      λ h. a.1 (subst (λ (l : List ElemFault). Contains l f) (sym c.into_faults.ensures) (b.1 h)),
    )

pub in_order-requires : goal.in_order-requires
in_order-requires c =
    subst (λ (l : List ElemFault). IsKeyedBy element_key_of l) (sym c.into_faults.ensures) c.in_ok-found.ensures.keyed
