use Rattle.std.proofs.Common.{List, sym, subst}
use Rattle.std.specs.List.{Contains}
use Rattle.hub_kinds.specs.declared.fault.ElemFault.{ElemFault}
use Rattle.hub_kinds.specs.Words.{AreElementsRising, element_key_of, IsKeyedBy}
use Rattle.hub_kinds.proofs.ForAbove.{none_rises}
use Rattle.elem_rules.proofs.Members.{no_member}
use Rattle.elem_rules.proofs.Looks.{on_true}
use Rattle.elem_rules.proofs.check.check_segment.Goals as goal

pub returns-clause-exact : goal.returns-clause-exact
returns-clause-exact c f =
    let a = c.in_order.ensures.same f in
    let b = c.in_ok-found.ensures.exact f in (
      λ h. b.0 (subst (λ (l : List ElemFault). Contains l f) c.into_faults.ensures (a.0 h)),
      λ h. a.1 (subst (λ (l : List ElemFault). Contains l f) (sym c.into_faults.ensures) (b.1 h)),
    )

pub in_order-requires : goal.in_order-requires
in_order-requires c =
    subst (λ (l : List ElemFault). IsKeyedBy element_key_of l) (sym c.into_faults.ensures) c.in_ok-found.ensures.keyed

-- nothing is in the empty list, and a clean segment has no fault
pub returns-then-is_clean-clause-exact : goal.returns-then-is_clean-clause-exact
returns-then-is_clean-clause-exact c f = (
  λ h. absurd (no_member f (subst (λ (l : List ElemFault). Contains l f) c.new.ensures.items h)),
  λ h. absurd (on_true c.is_clean.result c.if-is_clean.true c.is_clean.ensures f h),
)

pub returns-then-is_clean-clause-rising : goal.returns-then-is_clean-clause-rising
returns-then-is_clean-clause-rising c = subst AreElementsRising (sym c.new.ensures.items) (none_rises element_key_of)
