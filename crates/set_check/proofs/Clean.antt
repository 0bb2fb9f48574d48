-- A checked set has neither a fault nor a code exactly where it meets its guide.
use Rattle.std.proofs.Common.{◌≡◌, ◌↔◌, ◌∙◌, ap, sym, subst, refl, inl, Bool, IsTrue, List, [], ◌∷◌, None}
use Rattle.std.specs.List.{Contains}
use Rattle.hub_kinds.specs.declared.fault.Fault.{Fault}
use Rattle.hub_kinds.specs.declared.set_codes.SetCode.{SetCode}
use Rattle.guide_law.proofs.ForAbove.{in_contains}
use Rattle.elem_rules.proofs.ForAbove.{no_member}
use Rattle.set_check.specs.Checked.{Checked, IsChecked, guide_in, parts_in}
use Rattle.set_check.specs.Meets.{MeetsAlone}
use Rattle.set_check.specs.SetParts.{SetParts}
use Rattle.set_check.specs.SetFaults.{AreSetFaults, codes_with}
use Rattle.set_check.proofs.Meeting.{clean_as_it_meets}

none_in : (faults : List Fault) → ((f : Fault) → Contains faults f → ⊥) → faults ≡ []
none_in [] h = refl
none_in (f ∷ faults) h = absurd (h f (in_contains (f ∷ faults) f (inl refl)))

pub clean_as_met : (c : Checked) → IsChecked c → ((c.faults ≡ []) × (c.codes ≡ [])) ↔ MeetsAlone (guide_in c) (parts_in c)
clean_as_met c k =
    let law = clean_as_it_meets (guide_in c) k.well_guided (parts_in c) in (
      λ h. law.0 (
        λ f x. no_member f (subst (λ (l : List Fault). Contains l f) h.0 ((k.faults f).1 x)),
        ap (codes_with (guide_in c) (parts_in c)) (sym h.0) ∙ sym k.codes ∙ h.1,
      ),
      λ m. let empty = none_in c.faults (λ f x. (law.1 m).0 f ((k.faults f).0 x)) in
          (empty, k.codes ∙ ap (codes_with (guide_in c) (parts_in c)) empty ∙ (law.1 m).1),
    )

-- without a guide there is nothing to find
pub unguided : (parts : SetParts) (faults : List Fault) → faults ≡ [] → AreSetFaults None parts faults
unguided parts faults e f = (λ h. no_member f (subst (λ (l : List Fault). Contains l f) e h), λ h. absurd h)

pub clean_by : (c : Checked) → IsChecked c → (faults : List Fault) (codes : List SetCode) (b : Bool) → faults ≡ c.faults → codes ≡ c.codes
    → IsTrue b ↔ ((faults ≡ []) × (codes ≡ [])) → IsTrue b ↔ MeetsAlone (guide_in c) (parts_in c)
clean_by c k faults codes b f e is =
    let met = clean_as_met c k in (
      λ h. met.0 (sym f ∙ (is.0 h).0, sym e ∙ (is.0 h).1),
      λ m. is.1 (f ∙ (met.1 m).0, e ∙ (met.1 m).1),
    )
