-- Two faults of a set that have one place in the order of faults are one.
use Rattle.std.proofs.Common.{◌≡◌, inl, inr, ℕ, ◌+◌, Bool, true, false, List, Option, Some, get_or, drop}
use Rattle.std.proofs.Common.{sym, ◌∙◌, ap, subst, arith, ◌==◌, ◌||◌, ◌++◌, ◌⊎◌, ◌↔◌, None, zero, suc, true≢false}
use Rattle.std.specs.Prelude.{IsSomeAnd}
use Rattle.std.specs.List.{Contains}
use Rattle.std.proofs.lemmas.List.Elements.{Contains-append_cases}
use Rattle.std.specs.List.{slice_get}
use Rattle.hub_kinds.specs.declared.fault.Fault.{Fault}
use Rattle.hub_kinds.specs.declared.fault.ElemFault.{ElemFault}
use Rattle.hub_kinds.specs.Words.{key_of, elem_key, IsKeyedBy}
use Rattle.x12_bytes.specs.declared.delims.Delims.{Delims}
use Rattle.guide_tree.specs.declared.slot.Slot.{Slot}
use Rattle.guide_tree.specs.Words.{Trees, GuideTree, Segment, Place, slot_at}
use Rattle.guide_tree.specs.Words.{IsStructureFault}
use Rattle.guide_tree.specs.declared.rows.HlRule.{HlRule}
use Rattle.guide_tree.specs.declared.rows.DependencyKind.{DependencyKind}
use Rattle.guide_tree.specs.declared.rows.DependencyKind.TheVariants as kind
use Rattle.hl_check.specs.Hierarchy.{IsFaultAmong, IsHierarchyFault, hls_of}
use Rattle.depend_check.specs.Dependencies.{IsTargetBroken, IsDependencyFault}
use Rattle.loop_match.specs.PlacedSegments.{PlacedSegment, placed_segments}
use Rattle.elem_rules.specs.ElementFaults.{IsElementFault}
use Rattle.set_check.specs.SetParts.{SetParts, end_position}
use Rattle.loop_match.specs.LoopIds.{loop_id_of}
use Rattle.set_check.specs.SetFaults.{IsFaultUnder, IsErrorIn, IsRuleFault, HasKeyOfError, fault_of_element}
use Rattle.set_check.specs.Adding.{AreSound}
use Rattle.set_walk.proofs.ForAbove.{apart_at, same_apart, structure_is_not, one_elem}

abbrev IsErrorAt : GuideTree → SetParts → List (Option Place) → (i : ℕ) → Segment → Place → Slot → ElemFault → Type 0
IsErrorAt g parts given i s q slot e = (slice_get parts.body i ≡ Some s) × (slice_get given i ≡ Some (Some q))
    × (slot_at g.nodes q ≡ Some slot) × IsElementFault parts.delims s slot e

one_error : (g : GuideTree) (parts : SetParts) (given : List (Option Place)) (i : ℕ) (s t : Segment) (q r : Place) (a b : Slot)
    (e c : ElemFault) → AreSound g.nodes → IsErrorAt g parts given i s q a e → IsErrorAt g parts given i t r b c
    → elem_key (Some e) ≡ elem_key (Some c)
    → fault_of_element (i + 2) s (loop_id_of g.nodes q) a e ≡ fault_of_element (i + 2) t (loop_id_of g.nodes r) b c
one_error g parts given i s t q r a b e c ok h k m =
    let x : s ≡ t = (let z : Some s ≡ Some t = sym h.0 ∙ k.0 in cc) in
    let y : q ≡ r = (let z : Some (Some q) ≡ Some (Some r) = sym h.1 ∙ k.1 in cc) in
    let w : a ≡ b = (let z : Some a ≡ Some b = sym h.2 ∙ ap (slot_at g.nodes) y ∙ k.2 in cc) in
    let v : IsElementFault parts.delims s a c =
    subst (λ (z : Segment). IsElementFault parts.delims z a c) (sym x)
    (subst (λ (z : Slot). IsElementFault parts.delims t z c) (sym w) k.3) in
    let u : e ≡ c = one_elem parts.delims s a e c (ok q a h.2) h.3 v m in
    ap (λ (z : ElemFault). fault_of_element (i + 2) s (loop_id_of g.nodes q) a z) u
    ∙ ap (λ (z : Slot). fault_of_element (i + 2) s (loop_id_of g.nodes q) z c) w
    ∙ ap (λ (z : Place). fault_of_element (i + 2) s (loop_id_of g.nodes z) b c) y
    ∙ ap (λ (z : Segment). fault_of_element (i + 2) z (loop_id_of g.nodes r) b c) x

pub errors_keyed : (g : GuideTree) (parts : SetParts) (given : List (Option Place)) (f h : Fault) → AreSound g.nodes
    → IsErrorIn g.nodes parts given f → IsErrorIn g.nodes parts given h → key_of f ≡ key_of h → f ≡ h
errors_keyed g parts given f h ok a b e =
    let k = ap key_of (sym a.is) ∙ e ∙ ap key_of b.is in
    let p : a.index + 2 ≡ b.index + 2 = ap (λ (l : List ℕ). get_or l 0 0) k in
    let i : b.index ≡ a.index = omega arith in
    let m : elem_key (Some a.elem) ≡ elem_key (Some b.elem) = ap (λ (l : List ℕ). drop 3 l) k in
    let there : slice_get parts.body a.index ≡ Some b.segment = ap (slice_get parts.body) (sym i) ∙ b.there in
    let placed : slice_get given a.index ≡ Some (Some b.place) = ap (slice_get given) (sym i) ∙ b.placed in
    a.is
    ∙ one_error g parts given a.index a.segment b.segment a.place b.place a.slot b.slot a.elem b.elem ok
    (a.there, a.placed, a.leads, a.wrong) (there, placed, b.leads, b.wrong) m
    ∙ ap (λ (n : ℕ). fault_of_element (n + 2) b.segment (loop_id_of g.nodes b.place) b.slot b.elem) (sym i)
    ∙ sym b.is

-- the element codes of hierarchies, which no dependency's fault has
abbrev of_hierarchy : Fault → Bool
of_hierarchy f = let rank = get_or (key_of f) 6 0 in (rank == 12) || (rank == 15)

among_hierarchy : (g : GuideTree) (d : Delims) (body : List Segment) (given : List (Option Place)) (rule : Option HlRule) (f : Fault)
    → IsSomeAnd rule (λ r. IsFaultAmong r d (hls_of g.nodes body given) f) → (apart_at f ≡ true) × (of_hierarchy f ≡ true)
among_hierarchy g d body given None f h = absurd h
among_hierarchy g d body given (Some rule) f r = elim r.wrong [
  | inl w ↦ (ap apart_at w.1, ap of_hierarchy w.1)
  | inr v ↦ elim v [
    | inl w ↦ (ap apart_at w.1, ap of_hierarchy w.1)
    | inr u ↦ elim u [ inl w ↦ (ap apart_at w.1, ap of_hierarchy w.1) | inr w ↦ (ap apart_at w.1, ap of_hierarchy w.1) ]
  ]
]

breaking : (ts : Trees) (d : Delims) (end : ℕ) (placed : List PlacedSegment) (label : List ℕ) (which : DependencyKind) (element : ℕ)
    (f : Fault) → IsTargetBroken ts d end placed label which element f → (apart_at f ≡ true) × (of_hierarchy f ≡ false)
breaking ts d end placed label kind.Need zero f b = (ap apart_at b.3, ap of_hierarchy b.3)
breaking ts d end placed label kind.Ban zero f b = (ap apart_at b.3, ap of_hierarchy b.3)
breaking ts d end placed label kind.Need (suc e) f b = (ap apart_at b.2, ap of_hierarchy b.2)
breaking ts d end placed label kind.Ban (suc e) f b = (ap apart_at b.2, ap of_hierarchy b.2)

module _ (g : GuideTree) (d : Delims) (body : List Segment) (given : List (Option Place)) (end : ℕ) where
  of_hierarchies : (f : Fault) → IsHierarchyFault g d body given f → (apart_at f ≡ true) × (of_hierarchy f ≡ true)
  of_hierarchies f h = among_hierarchy g d body given g.hl f h

  of_dependencies : (f : Fault) → IsDependencyFault g d body given end f → (apart_at f ≡ true) × (of_hierarchy f ≡ false)
  of_dependencies f r =
      breaking g.nodes d end (placed_segments g.nodes body given) r.dependency.target r.dependency.kind r.dependency.element f r.broken

  rule_is_apart : (f : Fault) → IsRuleFault g d body given end f → apart_at f ≡ true
  rule_is_apart f (inl h) = (of_hierarchies f h).0
  rule_is_apart f (inr h) = (of_dependencies f h).0

  -- hierarchies and dependencies have no key in common
  differ : (f h : Fault) → IsHierarchyFault g d body given f → IsDependencyFault g d body given end h → key_of f ≡ key_of h → ⊥
  differ f h a b e =
      let same : of_hierarchy f ≡ of_hierarchy h =
      ap (λ (l : List ℕ). let rank = get_or l 6 0 in (rank == 12) || (rank == 15)) e in
      true≢false (sym (of_hierarchies f a).1 ∙ same ∙ (of_dependencies h b).1)

  pub one_rule_fault : ((x y : Fault) → IsHierarchyFault g d body given x → IsHierarchyFault g d body given y → key_of x ≡ key_of y → x ≡ y)
      → ((x y : Fault) → IsDependencyFault g d body given end x → IsDependencyFault g d body given end y → key_of x ≡ key_of y → x ≡ y)
      → (f h : Fault) → IsRuleFault g d body given end f → IsRuleFault g d body given end h → key_of f ≡ key_of h → f ≡ h
  one_rule_fault one two f h (inl a) (inl b) e = one f h a b e
  one_rule_fault one two f h (inr a) (inr b) e = two f h a b e
  one_rule_fault one two f h (inl a) (inr b) e = absurd (differ f h a b e)
  one_rule_fault one two f h (inr a) (inl b) e = absurd (differ h f b a (sym e))

  pub rules_keyed : (hierarchies dependencies all : List Fault) → IsKeyedBy key_of hierarchies → IsKeyedBy key_of dependencies
      → ((f : Fault) → Contains hierarchies f ↔ IsHierarchyFault g d body given f)
      → ((f : Fault) → Contains dependencies f ↔ IsDependencyFault g d body given end f) → all ≡ hierarchies ++ dependencies
      → IsKeyedBy key_of all
  rules_keyed hierarchies dependencies all one two by_hl by_need is x y c k e =
      one_rule_fault (λ f h a b same. one f h ((by_hl f).1 a) ((by_hl h).1 b) same)
      (λ f h a b same. two f h ((by_need f).1 a) ((by_need h).1 b) same) x y (rule_fault x c) (rule_fault y k) e
    where
      rule_fault : (f : Fault) → Contains all f → IsRuleFault g d body given end f
      rule_fault f l = elim (Contains-append_cases hierarchies dependencies f (subst (λ (fs : List Fault). Contains fs f) is l)) [
        | inl a ↦ inl ((by_hl f).0 a)
        | inr a ↦ inr ((by_need f).0 a)
      ]

beside_is_apart : (g : GuideTree) (parts : SetParts) (given : List (Option Place)) (f : Fault)
    → IsErrorIn g.nodes parts given f
    ⊎ (IsRuleFault g parts.delims parts.body given (end_position parts) f × (HasKeyOfError g.nodes parts given f → ⊥))
    → apart_at f ≡ true
beside_is_apart g parts given f (inl r) = ap apart_at r.is
beside_is_apart g parts given f (inr r) = rule_is_apart g parts.delims parts.body given (end_position parts) f r.0

pub set_keyed : (g : GuideTree) (parts : SetParts) (given : List (Option Place)) (f h : Fault) → AreSound g.nodes
    → ((x y : Fault) → IsStructureFault g parts.body given (end_position parts) x
    → IsStructureFault g parts.body given (end_position parts) y → key_of x ≡ key_of y → x ≡ y)
    → ((x y : Fault) → IsRuleFault g parts.delims parts.body given (end_position parts) x
    → IsRuleFault g parts.delims parts.body given (end_position parts) y → key_of x ≡ key_of y → x ≡ y)
    → IsFaultUnder g parts given f → IsFaultUnder g parts given h → key_of f ≡ key_of h → f ≡ h
set_keyed g parts given f h ok one two (inl a) (inl b) e = one f h a b e
set_keyed g parts given f h ok one two (inr (inl a)) (inr (inl b)) e = errors_keyed g parts given f h ok a b e
set_keyed g parts given f h ok one two (inr (inr a)) (inr (inr b)) e = two f h a.0 b.0 e
set_keyed g parts given f h ok one two (inr (inl a)) (inr (inr b)) e = absurd (b.1 (f, a, e))
set_keyed g parts given f h ok one two (inr (inr a)) (inr (inl b)) e = absurd (a.1 (h, b, sym e))
set_keyed g parts given f h ok one two (inl a) (inr b) e =
    absurd (structure_is_not g parts.body given (end_position parts) f a (same_apart f h e ∙ beside_is_apart g parts given h b))
set_keyed g parts given f h ok one two (inr a) (inl b) e =
    absurd (structure_is_not g parts.body given (end_position parts) h b (sym (same_apart f h e) ∙ beside_is_apart g parts given f a))
