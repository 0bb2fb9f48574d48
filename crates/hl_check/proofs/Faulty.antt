-- What the two walks find is what the definition says.
use Rattle.std.proofs.Common.{◌≡◌, ◌↔◌, ◌⊎◌, inl, inr, ℕ, zero, suc, ◌+◌, ◌<◌, List, [], ◌∷◌, ◌++◌, length, take, drop, Bool, true, false}
use Rattle.std.proofs.Common.{refl, sym, subst, arith, add-one, Option, Some, None}
use Rattle.std.specs.List.{Contains, slice_get}
use Rattle.std.proofs.lemmas.Bool.{cases_eq}
use Rattle.std.proofs.lemmas.List.Elements.{Contains-append_left, Contains-append_right, Contains-append_cases}
use Rattle.std.proofs.lemmas.Option.{slice_get_within}
use Rattle.x12_bytes.specs.declared.delims.Delims.{Delims}
use Rattle.hub_kinds.specs.declared.fault.Fault.{Fault}
use Rattle.hub_kinds.specs.declared.codes.ElementCode.{ElementCode}
use Rattle.hub_kinds.specs.declared.codes.ElementCode.TheVariants as ik403
use Rattle.guide_tree.specs.declared.rows.HlRule.{HlRule}
use Rattle.elem_rules.proofs.ForAbove.{no_member, contains_one, one_contains}
use Rattle.loop_match.specs.PlacedSegments.{PlacedSegment}
use Rattle.hl_check.specs.Hierarchy.{segments_of, hl_fault, IsHlFault, IsFaultAmong}
use Rattle.hl_check.specs.Hierarchy.{is_number_wrong, is_parent_wrong, is_level_wrong, is_child_wrong}
use Rattle.hl_check.specs.Found.{fault_if, faults_behind, faults_at, forward_faults, backward_faults, found_faults}

from_fault_if : (wrong : Bool) (h : PlacedSegment) (element : ℕ) (code : ElementCode) (f : Fault)
    → Contains (fault_if wrong h element code) f → (wrong ≡ true) × (f ≡ hl_fault h element code)
from_fault_if true h element code f c = (refl, contains_one _ f c)
from_fault_if false h element code f c = absurd (no_member f c)

in_fault_if : (wrong : Bool) (h : PlacedSegment) (element : ℕ) (code : ElementCode) (f : Fault)
    → (wrong ≡ true) × (f ≡ hl_fault h element code) → Contains (fault_if wrong h element code) f
in_fault_if wrong h element code f (w, e) =
    subst (λ (b : Bool). Contains (fault_if b h element code) f) (sym w)
    (subst (Contains (hl_fault h element code ∷ [])) (sym e) (one_contains _))

-- what the earlier HLs show is one of the first three faults
from_behind : (rule : HlRule) (d : Delims) (earlier : List PlacedSegment) (h : PlacedSegment) (later : List PlacedSegment) (f : Fault)
    → Contains (faults_behind rule d (segments_of earlier) h) f → IsHlFault rule d earlier h later f
from_behind rule d earlier h later f c =
    let first = fault_if (is_number_wrong rule d (segments_of earlier) h.segment) h 1 ik403.PatternFailure in
    let second = fault_if (is_parent_wrong d (segments_of earlier) h.segment) h 2 ik403.PatternFailure in
    let third = fault_if (is_level_wrong rule d (segments_of earlier) h.segment) h 3 ik403.CodeNotUsed in
    elim (Contains-append_cases first (second ++ third) f c) [
      | inl e ↦ inl (from_fault_if (is_number_wrong rule d (segments_of earlier) h.segment) h 1 ik403.PatternFailure f e)
      | inr e ↦ elim (Contains-append_cases second third f e) [
        | inl g ↦ inr (inl (from_fault_if (is_parent_wrong d (segments_of earlier) h.segment) h 2 ik403.PatternFailure f g))
        | inr g ↦ inr (inr (inl (from_fault_if (is_level_wrong rule d (segments_of earlier) h.segment) h 3 ik403.CodeNotUsed f g)))
      ]
    ]

abbrev ShowsBehind : HlRule → Delims → List PlacedSegment → ℕ → Fault → Type 0
ShowsBehind rule d hls n f =
    (k : ℕ) × (h : PlacedSegment) × (k < n) × (slice_get hls k ≡ Some h) × Contains (faults_behind rule d (segments_of (take k hls)) h) f

from_at : (rule : HlRule) (d : Delims) (hls : List PlacedSegment) (n : ℕ) (o : Option PlacedSegment) (f : Fault) → slice_get hls n ≡ o
    → Contains (faults_at rule d (segments_of (take n hls)) o) f → ShowsBehind rule d hls (suc n) f
from_at rule d hls n None f e c = absurd (no_member f c)
from_at rule d hls n (Some h) f e c = (n, h, omega arith, e, c)

from_forward : (rule : HlRule) (d : Delims) (hls : List PlacedSegment) (n : ℕ) (f : Fault)
    → Contains (forward_faults rule d hls n) f → ShowsBehind rule d hls n f
from_forward rule d hls zero f c = absurd (no_member f c)
from_forward rule d hls (suc n) f c =
    elim (Contains-append_cases (forward_faults rule d hls n) (faults_at rule d (segments_of (take n hls)) (slice_get hls n)) f c) [
      | inl e ↦ let r = from_forward rule d hls n f e in (r.0, r.1, omega (arith, r.2), r.3, r.4)
      | inr e ↦ from_at rule d hls n (slice_get hls n) f refl e
    ]

in_forward : (rule : HlRule) (d : Delims) (hls : List PlacedSegment) (n : ℕ) (f : Fault)
    → ShowsBehind rule d hls n f → Contains (forward_faults rule d hls n) f
in_forward rule d hls zero f r = absurd (omega (arith, r.2))
in_forward rule d hls (suc n) f r =
    let l : r.0 < suc n = r.2 in
    elim (cases_eq r.0 n) [
      | inl e ↦ Contains-append_right (forward_faults rule d hls n) (faults_at rule d (segments_of (take n hls)) (slice_get hls n)) f
          (subst (λ (k : ℕ). Contains (faults_at rule d (segments_of (take k hls)) (slice_get hls k)) f) e
          (subst (λ (o : Option PlacedSegment). Contains (faults_at rule d (segments_of (take r.0 hls)) o) f) (sym r.3) r.4))
      | inr e ↦ Contains-append_left (forward_faults rule d hls n) (faults_at rule d (segments_of (take n hls)) (slice_get hls n)) f
          (in_forward rule d hls n f (r.0, r.1, omega arith, r.3, r.4))
    ]

abbrev ShowsBefore : Delims → List PlacedSegment → Fault → Type 0
ShowsBefore d hls f = (k : ℕ) × (h : PlacedSegment) × (slice_get hls k ≡ Some h)
    × ((is_child_wrong d h.segment (segments_of (drop (suc k) hls)) ≡ true) × (f ≡ hl_fault h 4 ik403.PatternFailure))

from_backward : (d : Delims) (hls : List PlacedSegment) (f : Fault) → Contains (backward_faults d hls) f → ShowsBefore d hls f
from_backward d [] f c = absurd (no_member f c)
from_backward d (h ∷ later) f c =
    let wrong : Bool = is_child_wrong d h.segment (segments_of later) in
    elim (Contains-append_cases (backward_faults d later) (fault_if wrong h 4 ik403.PatternFailure) f c) [
      | inl e ↦ let r = from_backward d later f e in (suc r.0, r.1, r.2, r.3)
      | inr e ↦ (0, h, refl, from_fault_if (is_child_wrong d h.segment (segments_of later)) h 4 ik403.PatternFailure f e)
    ]

in_backward : (d : Delims) (hls : List PlacedSegment) (k : ℕ) (h : PlacedSegment) (f : Fault) → slice_get hls k ≡ Some h
    → (is_child_wrong d h.segment (segments_of (drop (suc k) hls)) ≡ true) × (f ≡ hl_fault h 4 ik403.PatternFailure)
    → Contains (backward_faults d hls) f
in_backward d [] k h f there r = cc
in_backward d (x ∷ later) zero h f there r =
    let e : x ≡ h = cc in
    Contains-append_right (backward_faults d later) (fault_if (is_child_wrong d x.segment (segments_of later)) x 4 ik403.PatternFailure) f
    (subst (λ (y : PlacedSegment). Contains (fault_if (is_child_wrong d y.segment (segments_of later)) y 4 ik403.PatternFailure) f) (sym e)
    (in_fault_if (is_child_wrong d h.segment (segments_of later)) h 4 ik403.PatternFailure f r))
in_backward d (x ∷ later) (suc k) h f there r =
    Contains-append_left (backward_faults d later) (fault_if (is_child_wrong d x.segment (segments_of later)) x 4 ik403.PatternFailure) f
    (in_backward d later k h f there r)

abbrev IsChildFault : Delims → PlacedSegment → List PlacedSegment → Fault → Type 0
IsChildFault d h later f = (is_child_wrong d h.segment (segments_of later) ≡ true) × (f ≡ hl_fault h 4 ik403.PatternFailure)

is_fault : (rule : HlRule) (d : Delims) (hls : List PlacedSegment) (f : Fault) → Contains (found_faults rule d hls (length hls)) f
    → IsFaultAmong rule d hls f
is_fault rule d hls f c =
    elim (Contains-append_cases (forward_faults rule d hls (length hls)) (backward_faults d hls) f c) [
      | inl e ↦ let r = from_forward rule d hls (length hls) f e in
          record {
            count = r.0;
            hl = r.1;
            there = r.3;
            wrong = from_behind rule d (take r.0 hls) r.1 (drop (r.0 + 1) hls) f r.4;
          }
      | inr e ↦ let r = from_backward d hls f e in
          record {
            count = r.0;
            hl = r.1;
            there = r.2;
            wrong = inr (inr (inr (subst (λ (k : ℕ). IsChildFault d r.1 (drop k hls) f) (sym (add-one r.0)) r.3)));
          }
    ]

in_behind : (rule : HlRule) (d : Delims) (earlier : List PlacedSegment) (h : PlacedSegment) (later : List PlacedSegment) (f : Fault)
    → IsHlFault rule d earlier h later f → Contains (faults_behind rule d (segments_of earlier) h) f ⊎ IsChildFault d h later f
in_behind rule d earlier h later f wrong =
    let first = fault_if (is_number_wrong rule d (segments_of earlier) h.segment) h 1 ik403.PatternFailure in
    let second = fault_if (is_parent_wrong d (segments_of earlier) h.segment) h 2 ik403.PatternFailure in
    let third = fault_if (is_level_wrong rule d (segments_of earlier) h.segment) h 3 ik403.CodeNotUsed in
    elim wrong [
      | inl w ↦ inl (Contains-append_left first (second ++ third) f
          (in_fault_if (is_number_wrong rule d (segments_of earlier) h.segment) h 1 ik403.PatternFailure f w))
      | inr v ↦ elim v [
        | inl w ↦ inl (Contains-append_right first (second ++ third) f (Contains-append_left second third f
            (in_fault_if (is_parent_wrong d (segments_of earlier) h.segment) h 2 ik403.PatternFailure f w)))
        | inr u ↦ elim u [
          | inl w ↦ inl (Contains-append_right first (second ++ third) f (Contains-append_right second third f
              (in_fault_if (is_level_wrong rule d (segments_of earlier) h.segment) h 3 ik403.CodeNotUsed f w)))
          | inr w ↦ inr w
        ]
      ]
    ]

is_found : (rule : HlRule) (d : Delims) (hls : List PlacedSegment) (f : Fault) → IsFaultAmong rule d hls f
    → Contains (found_faults rule d hls (length hls)) f
is_found rule d hls f r =
    elim (in_behind rule d (take r.count hls) r.hl (drop (r.count + 1) hls) f r.wrong) [
      | inl w ↦ Contains-append_left (forward_faults rule d hls (length hls)) (backward_faults d hls) f
          (in_forward rule d hls (length hls) f (r.count, r.hl, slice_get_within hls r.count r.hl r.there, r.there, w))
      | inr w ↦ Contains-append_right (forward_faults rule d hls (length hls)) (backward_faults d hls) f
          (in_backward d hls r.count r.hl f r.there
          (subst (λ (k : ℕ). IsChildFault d r.hl (drop k hls) f) (add-one r.count) w))
    ]

-- two walks find exactly the faults
pub members : (rule : HlRule) (d : Delims) (hls : List PlacedSegment) (f : Fault)
    → Contains (found_faults rule d hls (length hls)) f ↔ IsFaultAmong rule d hls f
members rule d hls f = (is_fault rule d hls f, is_found rule d hls f)
