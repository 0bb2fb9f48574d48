-- The verdict on a checked set: accepted exactly where the set meets its guide and no earlier set has its ST02, which rejects it.
use Rattle.std.proofs.Common.{◌≡◌, ◌↔◌, ◌∙◌, ap, sym, refl, ℕ, suc, Bool, true, false, List, [], ◌∷◌, ◌++◌, take, is_none}
use Rattle.std.proofs.Common.{Option, ◌&&◌, if◌then◌else◌}
use Rattle.std.specs.Prelude.{not}
use Rattle.std.specs.Option.{option_map_or}
use Rattle.std.specs.List.{list_all, list_any}
use Rattle.hub_kinds.specs.declared.fault.Fault.{Fault}
use Rattle.hub_kinds.specs.declared.set_codes.SetCode.{SetCode}
use Rattle.hub_kinds.specs.declared.set_codes.SetCode.TheVariants as code
use Rattle.hub_kinds.specs.declared.set_codes.Verdict.{Verdict}
use Rattle.hub_kinds.specs.declared.set_codes.Verdict.TheVariants.{Accepted, AcceptedWithErrors, Rejected}
use Rattle.guide_tree.specs.Words.{GuideTree}
use Rattle.set_check.specs.Checked.{Checked, IsChecked, guide_in, parts_in}
use Rattle.set_check.specs.Codes.{code_if, first_five, is_of_guides, reported, has_other_control, has_other_count}
use Rattle.set_check.specs.Codes.{has_short_control, convention_codes}
use Rattle.set_check.specs.Meets.{MeetsAlone}
use Rattle.set_check.specs.SetFaults.{set_codes_where}
use Rattle.set_check.specs.SetParts.{SetParts, segments_of_set}
use Rattle.set_check.specs.Verdict.{tells_of_faults, tolerates, verdict_on, verdict_with}
use Rattle.set_check.proofs.Clean.{clean_as_met}

abbrev envelope_part : (t o w s : Bool) → List SetCode
envelope_part t o w s =
    code_if t code.TrailerMissing ++ code_if o code.ControlNumbersDiffer ++ code_if w code.SegmentCountWrong
    ++ code_if s code.ControlNumberInvalid

-- after 5 and I5 comes 23 or a code before it, and neither reports faults
other_first : (k : ℕ) (g t o w s : Bool) (last : List SetCode) → list_all tells_of_faults
    (take (suc k) (code_if g code.NotSupported ++ envelope_part t o w s ++ (code.ControlNumberNotUnique ∷ []) ++ last)) ≡ false
other_first k true t o w s last = refl
other_first k false true o w s last = refl
other_first k false false true w s last = refl
other_first k false false false true s last = refl
other_first k false false false false true last = refl
other_first k false false false false false last = refl

other_among : (a b g t o w s : Bool) (last : List SetCode) → list_all tells_of_faults (first_five
    ((code_if a code.SegmentsInError ++ code_if b code.ImplementationSegmentsInError) ++ code_if g code.NotSupported
    ++ envelope_part t o w s ++ (code.ControlNumberNotUnique ∷ []) ++ last)) ≡ false
other_among true true g t o w s last = other_first 2 g t o w s last
other_among true false g t o w s last = other_first 3 g t o w s last
other_among false true g t o w s last = other_first 3 g t o w s last
other_among false false g t o w s last = other_first 4 g t o w s last

not_of_faults : (guide : Option GuideTree) (parts : SetParts) (faults : List Fault)
    → list_all tells_of_faults (set_codes_where guide parts faults true) ≡ false
not_of_faults guide parts faults =
    other_among (list_any (λ f. option_map_or (λ c. not (is_of_guides c)) (reported f) false) faults)
    (list_any (λ f. option_map_or is_of_guides (reported f) false) faults)
    (is_none guide) (is_none parts.trailer) (has_other_control parts.header parts.trailer)
    (has_other_count (segments_of_set parts) parts.trailer) (has_short_control parts.header)
    (convention_codes guide parts.header)

rejected_by : (guide : Option GuideTree) (faults : List Fault) (codes : List SetCode) → list_all tells_of_faults codes ≡ false
    → verdict_on guide faults codes ≡ Rejected
rejected_by guide faults [] h = cc
rejected_by guide [] (c ∷ codes) h =
    ap (λ (b : Bool). if b && list_all (tolerates guide) [] then AcceptedWithErrors else Rejected) h
rejected_by guide (f ∷ faults) (c ∷ codes) h =
    ap (λ (b : Bool). if b && list_all (tolerates guide) (f ∷ faults) then AcceptedWithErrors else Rejected) h

earlier_rejects : (guide : Option GuideTree) (parts : SetParts) (faults : List Fault) → verdict_with guide parts faults true ≡ Rejected
earlier_rejects guide parts faults =
    rejected_by guide faults (set_codes_where guide parts faults true) (not_of_faults guide parts faults)

not_accepted : (b : Bool) → (if b then AcceptedWithErrors else Rejected) ≡ Accepted → ⊥
not_accepted true h = cc
not_accepted false h = cc

accepted_by : (guide : Option GuideTree) (faults : List Fault) (codes : List SetCode)
    → verdict_on guide faults codes ≡ Accepted ↔ ((faults ≡ []) × (codes ≡ []))
accepted_by guide [] [] = (λ h. (refl, refl), λ h. refl)
accepted_by guide [] (c ∷ codes) = (
  λ h. absurd (not_accepted (list_all tells_of_faults (c ∷ codes) && list_all (tolerates guide) []) h),
  λ h. let k : c ∷ codes ≡ [] = h.1 in cc,
)
accepted_by guide (f ∷ faults) codes = (
  λ h. absurd (not_accepted (list_all tells_of_faults codes && list_all (tolerates guide) (f ∷ faults)) h),
  λ h. let k : f ∷ faults ≡ [] = h.0 in cc,
)

module _ (c : Checked) (k : IsChecked c) where
  pub verdict_is : (guide : Option GuideTree) (faults : List Fault) (codes : List SetCode) (earlier : Bool) (v : Verdict)
      → guide ≡ guide_in c → faults ≡ c.faults → codes ≡ c.codes
      → v ≡ (if earlier then Rejected else verdict_on guide faults codes)
      → v ≡ verdict_with (guide_in c) (parts_in c) c.faults earlier
  verdict_is guide faults codes true v g f e is = is ∙ sym (earlier_rejects (guide_in c) (parts_in c) c.faults)
  verdict_is guide faults codes false v g f e is =
      is
      ∙ ap (λ (x : Option GuideTree). verdict_on x faults codes) g
      ∙ ap (λ (x : List Fault). verdict_on (guide_in c) x codes) f
      ∙ ap (verdict_on (guide_in c) c.faults) (e ∙ k.codes)

  accepted_as_met : (earlier : Bool) → verdict_with (guide_in c) (parts_in c) c.faults earlier ≡ Accepted
      ↔ ((earlier ≡ false) × MeetsAlone (guide_in c) (parts_in c))
  accepted_as_met true = (
    λ h. let no : Rejected ≡ Accepted = sym (earlier_rejects (guide_in c) (parts_in c) c.faults) ∙ h in cc,
    λ h. let no : true ≡ false = h.0 in cc,
  )
  accepted_as_met false =
      let met = clean_as_met c k in
      let found = accepted_by (guide_in c) c.faults (set_codes_where (guide_in c) (parts_in c) c.faults false) in (
        λ h. (refl, met.0 ((found.0 h).0, k.codes ∙ (found.0 h).1)),
        λ h. found.1 ((met.1 h.1).0, sym k.codes ∙ (met.1 h.1).1),
      )

  pub meets_by : (earlier : Bool) (v : Verdict) → v ≡ verdict_with (guide_in c) (parts_in c) c.faults earlier
      → v ≡ Accepted ↔ ((earlier ≡ false) × MeetsAlone (guide_in c) (parts_in c))
  meets_by earlier v e = (
    λ h. (accepted_as_met earlier).0 (sym e ∙ h),
    λ h. e ∙ (accepted_as_met earlier).1 h,
  )
