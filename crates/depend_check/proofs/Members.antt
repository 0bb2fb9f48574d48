-- What is found of the dependencies is what the definition says.
use Rattle.std.proofs.Common.{◌≡◌, ◌↔◌, inl, inr, ℕ, zero, suc, List, [], ◌∷◌, Bool, true, false, ◌&&◌, ◌||◌, ◌==◌, not}
use Rattle.std.proofs.lemmas.Bool.{eqb-true}
use Rattle.std.proofs.Common.{refl, sym, ap, subst, arith, Some, None, if◌then◌else◌}
use Rattle.hub_kinds.specs.declared.codes.ElementCode.TheVariants as ik403
use Rattle.guide_tree.specs.Words.{element_at, Trees}
use Rattle.std.specs.List.{Contains, list_any, flat_map}
use Rattle.std.specs.Option.{option_map_or}
use Rattle.std.specs.Cmp.Derive.{both_true}
use Rattle.std.proofs.lemmas.Bool.{not-true, not_from_false}
use Rattle.std.proofs.lemmas.List.Elements.{Contains-append_left, Contains-append_right, Contains-append_cases}
use Rattle.x12_bytes.specs.declared.delims.Delims.{Delims}
use Rattle.hub_kinds.specs.declared.fault.Fault.{Fault}
use Rattle.hub_kinds.specs.declared.codes.SegmentCode.TheVariants as ik304
use Rattle.guide_tree.specs.declared.rows.Dependency.{Dependency}
use Rattle.guide_tree.specs.declared.rows.DependencyKind.{DependencyKind}
use Rattle.guide_tree.specs.declared.rows.DependencyKind.TheVariants as kind
use Rattle.elem_rules.proofs.ForAbove.{no_member, contains_one, one_contains, from_if, in_then, from_option, in_option, from_flat_map}
use Rattle.elem_rules.proofs.ForAbove.{in_flat_map}
use Rattle.loop_match.specs.PlacedSegments.{PlacedSegment}
use Rattle.depend_check.specs.Dependencies.{Seat, is_use, is_dependency_triggered, has_element, seat_of, unused_fault, IsTargetBroken}
use Rattle.depend_check.specs.Dependencies.{use_fault, element_fault}
use Rattle.depend_check.specs.Found.{is_broken_by, told_of, faults_of_use, is_left_out, faults_of_slot, faults_of_target, faults_of}
use Rattle.depend_check.specs.Found.{found_faults}
use Rattle.depend_check.specs.Uses.{IsFound}

left_of : (a b : Bool) → (a && b) ≡ true → a ≡ true
left_of true b h = refl
left_of false b h = h

right_of : (a b : Bool) → (a && b) ≡ true → b ≡ true
right_of true b h = h
right_of false b h = cc

zero_not : (e : ℕ) → (suc e == 0) ≡ true → ⊥
zero_not e h = let z : suc e ≡ 0 = eqb-true (suc e) 0 h in absurd (omega arith)

not_zero : (e : ℕ) (b : Bool) → (suc e == 0) ≡ b → b ≡ false
not_zero e false h = refl
not_zero e true h = absurd (zero_not e h)

never : (e : ℕ) → (suc e == 0) ≡ false
never e = not_zero e (suc e == 0) refl

abbrev banned : Bool → (e : ℕ) → PlacedSegment → Fault
banned whole e p =
    if whole then use_fault p ik304.DependentNotUsedPresent None
    else element_fault p e ik403.DependentNotUsedPresent (element_at p.segment e)

-- the use breaks the dependency
broken_use : (ts : Trees) (d : Delims) (end : ℕ) (placed : List PlacedSegment) (label : List ℕ) (k : DependencyKind) (e : ℕ)
    (p : PlacedSegment) (f : Fault) → Contains placed p → is_use label p ≡ true → is_broken_by d k e p ≡ true → f ≡ told_of k e p
    → IsTargetBroken ts d end placed label k e f
broken_use ts d end placed label kind.Need zero p f c u b is = cc
broken_use ts d end placed label kind.Ban zero p f c u b is = (p, c, u, is)
broken_use ts d end placed label kind.Need (suc e) p f c u b is =
    let h : not (has_element d p (suc e)) ≡ true = right_of (not (suc e == 0)) (not (has_element d p (suc e))) b in
    (p, record { listed = c; used = u; has = not-true (has_element d p (suc e)) h }, is)
broken_use ts d end placed label kind.Ban (suc e) p f c u b is = (
  p,
  record { listed = c; used = u; has = subst (λ (z : Bool). (z || has_element d p (suc e)) ≡ true) (never e) b },
  subst (λ (z : Bool). f ≡ banned z (suc e) p) (never e) is,
)

-- the slot isn't used
broken_slot : (ts : Trees) (d : Delims) (end : ℕ) (placed : List PlacedSegment) (label : List ℕ) (k : DependencyKind) (e : ℕ)
    (seat : Seat) (f : Fault) → is_left_out label k e placed ≡ true → seat_of ts label ≡ Some seat → f ≡ unused_fault end seat
    → IsTargetBroken ts d end placed label k e f
broken_slot ts d end placed label kind.Need zero seat f b s is = (seat, s, not-true (list_any (is_use label) placed) b, is)
broken_slot ts d end placed label kind.Ban zero seat f b s is = cc
broken_slot ts d end placed label kind.Need (suc e) seat f b s is =
    absurd (zero_not e (left_of (suc e == 0) (not (list_any (is_use label) placed)) b))
broken_slot ts d end placed label kind.Ban (suc e) seat f b s is = cc

from_use : (ts : Trees) (d : Delims) (end : ℕ) (placed : List PlacedSegment) (label : List ℕ) (k : DependencyKind) (e : ℕ)
    (p : PlacedSegment) (f : Fault) → Contains placed p → Contains (faults_of_use d label k e p) f
    → IsTargetBroken ts d end placed label k e f
from_use ts d end placed label k e p f c h =
    elim (from_if (is_use label p && is_broken_by d k e p) (told_of k e p ∷ []) [] f h) [
      | inl w ↦ broken_use ts d end placed label k e p f c (left_of (is_use label p) (is_broken_by d k e p) w.0)
          (right_of (is_use label p) (is_broken_by d k e p) w.0) (contains_one (told_of k e p) f w.1)
      | inr w ↦ absurd (no_member f w.1)
    ]

abbrev told_at : ℕ → Seat → List Fault
told_at end seat = unused_fault end seat ∷ []

from_slot : (ts : Trees) (d : Delims) (end : ℕ) (placed : List PlacedSegment) (label : List ℕ) (k : DependencyKind) (e : ℕ)
    (f : Fault) → Contains (faults_of_slot ts end placed label k e) f → IsTargetBroken ts d end placed label k e f
from_slot ts d end placed label k e f h =
    elim (from_if (is_left_out label k e placed) (option_map_or (told_at end) (seat_of ts label) []) [] f h) [
      | inl w ↦ let r = from_option (told_at end) (seat_of ts label) f w.1 in
          broken_slot ts d end placed label k e r.0 f w.0 r.1 (contains_one (unused_fault end r.0) f r.2)
      | inr w ↦ absurd (no_member f w.1)
    ]

pub from_target : (ts : Trees) (d : Delims) (end : ℕ) (placed : List PlacedSegment) (label : List ℕ) (k : DependencyKind) (e : ℕ)
    (f : Fault) → Contains (faults_of_target ts d end placed label k e) f → IsTargetBroken ts d end placed label k e f
from_target ts d end placed label k e f h =
    elim (Contains-append_cases (faults_of_slot ts end placed label k e) (flat_map (faults_of_use d label k e) placed) f h) [
      | inl w ↦ from_slot ts d end placed label k e f w
      | inr w ↦ let r = from_flat_map (faults_of_use d label k e) placed f w in from_use ts d end placed label k e r.0 f r.1 r.2
    ]

in_uses : (ts : Trees) (d : Delims) (end : ℕ) (placed : List PlacedSegment) (label : List ℕ) (k : DependencyKind) (e : ℕ)
    (p : PlacedSegment) (f : Fault) → Contains placed p → is_use label p ≡ true → is_broken_by d k e p ≡ true → f ≡ told_of k e p
    → Contains (faults_of_target ts d end placed label k e) f
in_uses ts d end placed label k e p f c u b is =
    Contains-append_right (faults_of_slot ts end placed label k e) (flat_map (faults_of_use d label k e) placed) f
    (in_flat_map (faults_of_use d label k e) placed p f c
    (in_then (is_use label p && is_broken_by d k e p) (told_of k e p ∷ []) [] f (both_true u b)
    (subst (Contains (told_of k e p ∷ [])) (sym is) (one_contains (told_of k e p)))))

in_slot : (ts : Trees) (d : Delims) (end : ℕ) (placed : List PlacedSegment) (label : List ℕ) (k : DependencyKind) (e : ℕ)
    (seat : Seat) (f : Fault) → is_left_out label k e placed ≡ true → seat_of ts label ≡ Some seat → f ≡ unused_fault end seat
    → Contains (faults_of_target ts d end placed label k e) f
in_slot ts d end placed label k e seat f b s is =
    Contains-append_left (faults_of_slot ts end placed label k e) (flat_map (faults_of_use d label k e) placed) f
    (in_then (is_left_out label k e placed) (option_map_or (told_at end) (seat_of ts label) []) [] f b
    (in_option (told_at end) (seat_of ts label) seat f s
    (subst (Contains (told_at end seat)) (sym is) (one_contains (unused_fault end seat)))))

pub in_target : (ts : Trees) (d : Delims) (end : ℕ) (placed : List PlacedSegment) (label : List ℕ) (k : DependencyKind) (e : ℕ)
    (f : Fault) → IsTargetBroken ts d end placed label k e f → Contains (faults_of_target ts d end placed label k e) f
in_target ts d end placed label kind.Need zero f r =
    in_slot ts d end placed label kind.Need 0 r.0 f (not_from_false (list_any (is_use label) placed) r.2) r.1 r.3
in_target ts d end placed label kind.Ban zero f r = in_uses ts d end placed label kind.Ban 0 r.0 f r.1 r.2 refl r.3
in_target ts d end placed label kind.Need (suc e) f r =
    in_uses ts d end placed label kind.Need (suc e) r.0 f r.1.listed r.1.used
    (both_true (ap not (never e)) (not_from_false (has_element d r.0 (suc e)) r.1.has)) r.2
in_target ts d end placed label kind.Ban (suc e) f r =
    in_uses ts d end placed label kind.Ban (suc e) r.0 f r.1.listed r.1.used
    (subst (λ (z : Bool). (z || has_element d r.0 (suc e)) ≡ true) (sym (never e)) r.1.has)
    (subst (λ (z : Bool). f ≡ banned z (suc e) r.0) (sym (never e)) r.2)

from_found : (ts : Trees) (d : Delims) (end : ℕ) (placed : List PlacedSegment) (depends : List Dependency) (f : Fault)
    → Contains (found_faults ts d end placed depends) f → IsFound ts d end placed depends f
from_found ts d end placed depends f h =
    let r = from_flat_map (faults_of ts d end placed) depends f h in
    let x = r.0 in
    elim (from_if (is_dependency_triggered x placed) (faults_of_target ts d end placed x.target x.kind x.element) [] f r.2) [
      | inl w ↦ record {
        dependency = x;
        listed = r.1;
        triggered = w.0;
        broken = from_target ts d end placed x.target x.kind x.element f w.1;
      }
      | inr w ↦ absurd (no_member f w.1)
    ]

in_found : (ts : Trees) (d : Delims) (end : ℕ) (placed : List PlacedSegment) (depends : List Dependency) (f : Fault)
    → IsFound ts d end placed depends f → Contains (found_faults ts d end placed depends) f
in_found ts d end placed depends f r =
    let x = r.dependency in
    in_flat_map (faults_of ts d end placed) depends x f r.listed
    (in_then (is_dependency_triggered x placed) (faults_of_target ts d end placed x.target x.kind x.element) [] f r.triggered
    (in_target ts d end placed x.target x.kind x.element f r.broken))

pub members : (ts : Trees) (d : Delims) (end : ℕ) (placed : List PlacedSegment) (depends : List Dependency) (f : Fault)
    → Contains (found_faults ts d end placed depends) f ↔ IsFound ts d end placed depends f
members ts d end placed depends f = (from_found ts d end placed depends f, in_found ts d end placed depends f)
