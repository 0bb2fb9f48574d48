-- No fault and no code is the same as meeting the guide.
use Rattle.std.proofs.Common.{◌≡◌, Option, Some, None, refl, subst}
use Rattle.guide_tree.specs.Words.{GuideTree, IsWellFormed}
use Rattle.guide_law.proofs.ForAbove.{triggers, placed_one_way, only_placing, derived_is_placed, placed_is_derived}
use Rattle.guide_law.specs.Law.{IsOnlyPlacing, DerivedIsPlaced, PlacedIsDerived}
use Rattle.set_check.specs.SetParts.{SetParts}
use Rattle.set_check.specs.Meets.{MeetsAlone}
use Rattle.set_check.specs.MeetsLaw.{IsClean, IsWellGuided, IsCleanAsItMeets}
use Rattle.set_check.proofs.NoFaults.{Derived, faultless_derived, derived_faultless}
use Rattle.set_check.proofs.NoCodes.{Enveloped, codeless, guideless_has_a_code, enveloped_codeless}

-- the laws of the guide that are asked
pub record Laws (g : GuideTree) : Type 0 where
  pub well : IsWellFormed g
  pub only : IsOnlyPlacing g
  pub derived : DerivedIsPlaced g
  pub placed : PlacedIsDerived g

pub clean_meets : (g : GuideTree) (parts : SetParts) → Laws g → IsClean (Some g) parts → MeetsAlone (Some g) parts
clean_meets g parts laws h =
    let d = faultless_derived g parts laws.well laws.only laws.placed h.0 in
    let v = codeless g parts h.1 in
    record {
      known = g;
      guided = refl;
      slots = d.slots;
      body = d.body;
      derived = d.derived;
      elements = d.elements;
      hierarchy = d.hierarchy;
      dependencies = d.dependencies;
      trailer = v.trailer;
      closed = v.closed;
      counted = v.counted;
      same_control = v.same_control;
      long_control = v.long_control;
      convention = v.convention;
    }

pub meets_clean : (g : GuideTree) (parts : SetParts) → Laws g → MeetsAlone (Some g) parts → IsClean (Some g) parts
meets_clean g parts laws m =
    let same : m.known ≡ g = let e : Some g ≡ Some m.known = m.guided in cc in
    let d : Derived m.known parts = record {
      slots = m.slots;
      body = m.body;
      derived = m.derived;
      elements = m.elements;
      hierarchy = m.hierarchy;
      dependencies = m.dependencies;
    } in
    let v : Enveloped m.known parts = record {
      trailer = m.trailer;
      closed = m.closed;
      counted = m.counted;
      same_control = m.same_control;
      long_control = m.long_control;
      convention = m.convention;
    } in (
      derived_faultless g parts laws.well laws.only laws.derived (subst (λ (k : GuideTree). Derived k parts) same d),
      enveloped_codeless g parts (subst (λ (k : GuideTree). Enveloped k parts) same v),
    )

pub guideless : (parts : SetParts) → MeetsAlone None parts → ⊥
guideless parts m = let e : None ≡ Some m.known = m.guided in cc

laws : (g : GuideTree) → IsWellFormed g → Laws g
laws g w = record {
  well = w;
  only = only_placing g (triggers g w) (placed_one_way g w);
  derived = derived_is_placed g w;
  placed = placed_is_derived g w;
}

pub clean_as_it_meets : (guide : Option GuideTree) → IsWellGuided guide → IsCleanAsItMeets guide
clean_as_it_meets None w parts = ((λ h. absurd (guideless_has_a_code parts h.1)), λ m. absurd (guideless parts m))
clean_as_it_meets (Some g) w parts = (clean_meets g parts (laws g w), meets_clean g parts (laws g w))
