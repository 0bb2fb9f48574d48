-- Two faults of dependencies that have one place in the order of faults are one.
use Rattle.std.proofs.Common.{◌≡◌, ◌↔◌, ◌⊎◌, inl, inr, ℕ, zero, suc, ◌<◌, List, [], Option, Some, None, get_or}
use Rattle.std.proofs.Common.{refl, sym, ap, subst, ◌∙◌, arith}
use Rattle.std.specs.List.{Contains}
use Rattle.std.specs.List.Sorted.{IsStrictlySortedBy}
use Rattle.x12_bytes.specs.declared.delims.Delims.{Delims}
use Rattle.hub_kinds.specs.declared.fault.Fault.{Fault}
use Rattle.hub_kinds.specs.declared.codes.SegmentCode.TheVariants as ik304
use Rattle.hub_kinds.specs.declared.codes.ElementCode.TheVariants as ik403
use Rattle.hub_kinds.specs.Words.{element_rank, key_of, AreRising, IsKeyedBy}
use Rattle.guide_tree.specs.declared.rows.Dependency.{Dependency}
use Rattle.guide_tree.specs.declared.rows.DependencyKind.{DependencyKind}
use Rattle.guide_tree.specs.declared.rows.DependencyKind.TheVariants as kind
use Rattle.guide_tree.specs.Words.{GuideTree, Trees, numbered, Segment, element_at, Place}
use Rattle.loop_match.specs.PlacedSegments.{PlacedSegment, placed_segments}
use Rattle.loop_match.proofs.ForAbove.{one_placed}
use Rattle.depend_check.specs.Dependencies.{Seat, seat_of, unused_fault, use_fault, element_fault, IsTargetBroken, IsDependencyFault}
use Rattle.depend_check.specs.Uses.{IsFound}
use Rattle.depend_check.proofs.Seats.{one_seat}

-- what is reported of a use
abbrev IsTold : DependencyKind → ℕ → Type 0
IsTold kind.Need zero = ⊥
IsTold kind.Need (suc e) = Unit {0}
IsTold kind.Ban e = Unit {0}

abbrev told : DependencyKind → ℕ → PlacedSegment → Fault
told kind.Need e p = element_fault p e ik403.DependentMissing []
told kind.Ban zero p = use_fault p ik304.DependentNotUsedPresent None
told kind.Ban (suc e) p = element_fault p (suc e) ik403.DependentNotUsedPresent (element_at p.segment (suc e))

position_key : (k : DependencyKind) (e : ℕ) (p : PlacedSegment) → get_or (key_of (told k e p)) 0 0 ≡ p.position
position_key kind.Need e p = refl
position_key kind.Ban zero p = refl
position_key kind.Ban (suc e) p = refl

element_key : (k : DependencyKind) (e : ℕ) (p : PlacedSegment) → get_or (key_of (told k e p)) 3 0 ≡ e
element_key kind.Need e p = refl
element_key kind.Ban zero p = refl
element_key kind.Ban (suc e) p = refl

abbrev rank_of : DependencyKind → ℕ → ℕ
rank_of kind.Need e = element_rank ik403.DependentMissing
rank_of kind.Ban zero = 0
rank_of kind.Ban (suc e) = element_rank ik403.DependentNotUsedPresent

rank_key : (k : DependencyKind) (e : ℕ) (p : PlacedSegment) → get_or (key_of (told k e p)) 6 0 ≡ rank_of k e
rank_key kind.Need e p = refl
rank_key kind.Ban zero p = refl
rank_key kind.Ban (suc e) p = refl

same_kind : (k l : DependencyKind) (e : ℕ) → IsTold k e → IsTold l e → rank_of k e ≡ rank_of l e → k ≡ l
same_kind kind.Need kind.Need e t u h = refl
same_kind kind.Ban kind.Ban e t u h = refl
same_kind kind.Need kind.Ban zero t u h = absurd t
same_kind kind.Ban kind.Need zero t u h = absurd u
same_kind kind.Need kind.Ban (suc e) t u h = cc
same_kind kind.Ban kind.Need (suc e) t u h = cc

differs : (a b : ℕ) → a < b → a ≡ b → ⊥
differs a b l e = absurd (omega arith)

-- no fault of a use stands where one of an unused slot does
apart : (k : DependencyKind) (e : ℕ) (p : PlacedSegment) (end : ℕ) (seat : Seat) → key_of (told k e p) ≡ key_of (unused_fault end seat) → ⊥
apart kind.Need e p end seat h = differs 7 9 (omega arith) (ap (λ (l : List ℕ). get_or l 1 0) h)
apart kind.Ban zero p end seat h = differs 9 12 (omega arith) (sym (ap (λ (l : List ℕ). get_or l 1 0) h))
apart kind.Ban (suc e) p end seat h = differs 7 9 (omega arith) (ap (λ (l : List ℕ). get_or l 1 0) h)

record OfSlot (ts : Trees) (end : ℕ) (f : Fault) : Type 0 where
  label : List ℕ
  seat : Seat
  there : seat_of ts label ≡ Some seat
  is : f ≡ unused_fault end seat

record OfUse (placed : List PlacedSegment) (f : Fault) : Type 0 where
  kind : DependencyKind
  element : ℕ
  use_of : PlacedSegment
  listed : Contains placed use_of
  told_of : IsTold kind element
  is : f ≡ told kind element use_of

shape : (ts : Trees) (d : Delims) (end : ℕ) (placed : List PlacedSegment) (label : List ℕ) (k : DependencyKind) (e : ℕ) (f : Fault)
    → IsTargetBroken ts d end placed label k e f → OfSlot ts end f ⊎ OfUse placed f
shape ts d end placed label kind.Need zero f r = inl (record { label = label; seat = r.0; there = r.1; is = r.3 })
shape ts d end placed label kind.Ban zero f r =
    inr (record { kind = kind.Ban; element = 0; use_of = r.0; listed = r.1; told_of = tt; is = r.3 })
shape ts d end placed label kind.Need (suc e) f r =
    inr (record { kind = kind.Need; element = suc e; use_of = r.0; listed = r.1.listed; told_of = tt; is = r.2 })
shape ts d end placed label kind.Ban (suc e) f r =
    inr (record { kind = kind.Ban; element = suc e; use_of = r.0; listed = r.1.listed; told_of = tt; is = r.2 })

same_slot : (ts us : Trees) (end : ℕ) (f g : Fault) → ts ≡ numbered 1 us → OfSlot ts end f → OfSlot ts end g → key_of f ≡ key_of g → f ≡ g
same_slot ts us end f g n a b h =
    let k = sym (ap key_of a.is) ∙ h ∙ ap key_of b.is in
    let s : a.seat ≡ b.seat =
    one_seat us a.label b.label a.seat b.seat
    (subst (λ (t : Trees). seat_of t a.label ≡ Some a.seat) n a.there)
    (subst (λ (t : Trees). seat_of t b.label ≡ Some b.seat) n b.there) (ap (λ (l : List ℕ). get_or l 2 0) k) in
    a.is ∙ ap (unused_fault end) s ∙ sym b.is

same_use : (ts : Trees) (body : List Segment) (given : List (Option Place)) (f g : Fault) → OfUse (placed_segments ts body given) f
    → OfUse (placed_segments ts body given) g → key_of f ≡ key_of g → f ≡ g
same_use ts body given f g a b h =
    let k = sym (ap key_of a.is) ∙ h ∙ ap key_of b.is in
    let p : a.use_of ≡ b.use_of =
    one_placed ts body given a.use_of b.use_of a.listed b.listed
    (sym (position_key a.kind a.element a.use_of) ∙ ap (λ (l : List ℕ). get_or l 0 0) k ∙ position_key b.kind b.element b.use_of) in
    let e : a.element ≡ b.element =
    sym (element_key a.kind a.element a.use_of) ∙ ap (λ (l : List ℕ). get_or l 3 0) k ∙ element_key b.kind b.element b.use_of in
    let r : rank_of a.kind a.element ≡ rank_of b.kind b.element =
    sym (rank_key a.kind a.element a.use_of) ∙ ap (λ (l : List ℕ). get_or l 6 0) k ∙ rank_key b.kind b.element b.use_of in
    let w : a.kind ≡ b.kind =
    same_kind a.kind b.kind a.element a.told_of (subst (IsTold b.kind) (sym e) b.told_of)
    (r ∙ ap (rank_of b.kind) (sym e)) in
    a.is ∙ ap (λ (x : DependencyKind). told x a.element a.use_of) w ∙ ap (λ (x : ℕ). told b.kind x a.use_of) e
    ∙ ap (told b.kind b.element) p ∙ sym b.is

differ : (ts : Trees) (end : ℕ) (placed : List PlacedSegment) (f g : Fault) → OfUse placed f → OfSlot ts end g → key_of f ≡ key_of g → ⊥
differ ts end placed f g a b h = apart a.kind a.element a.use_of end b.seat (sym (ap key_of a.is) ∙ h ∙ ap key_of b.is)

same_fault : (ts us : Trees) (body : List Segment) (given : List (Option Place)) (end : ℕ) (f g : Fault) → ts ≡ numbered 1 us
    → OfSlot ts end f ⊎ OfUse (placed_segments ts body given) f → OfSlot ts end g ⊎ OfUse (placed_segments ts body given) g
    → key_of f ≡ key_of g → f ≡ g
same_fault ts us body given end f g n (inl a) (inl b) h = same_slot ts us end f g n a b h
same_fault ts us body given end f g n (inl a) (inr b) h = absurd (differ ts end (placed_segments ts body given) g f b a (sym h))
same_fault ts us body given end f g n (inr a) (inl b) h = absurd (differ ts end (placed_segments ts body given) f g a b h)
same_fault ts us body given end f g n (inr a) (inr b) h = same_use ts body given f g a b h

pub one_dependency_fault : (guide : GuideTree) (us : Trees) (d : Delims) (end : ℕ) (body : List Segment) (given : List (Option Place))
    (f g : Fault) → guide.nodes ≡ numbered 1 us → IsDependencyFault guide d body given end f → IsDependencyFault guide d body given end g
    → key_of f ≡ key_of g → f ≡ g
one_dependency_fault guide us d end body given f g n x y h =
    let ts = guide.nodes in
    let placed = placed_segments ts body given in
    same_fault ts us body given end f g n
    (shape ts d end placed x.dependency.target x.dependency.kind x.dependency.element f x.broken)
    (shape ts d end placed y.dependency.target y.dependency.kind y.dependency.element g y.broken) h

-- what is found has one fault for each key, where the nodes are numbered
pub keyed : (ts us : Trees) (d : Delims) (end : ℕ) (body : List Segment) (given : List (Option Place)) (depends : List Dependency)
    (faults : List Fault) → ts ≡ numbered 1 us
    → ((f : Fault) → Contains faults f ↔ IsFound ts d end (placed_segments ts body given) depends f) → IsKeyedBy key_of faults
keyed ts us d end body given depends faults n found f g a b h =
    let placed = placed_segments ts body given in
    let x = (found f).0 a in
    let y = (found g).0 b in
    same_fault ts us body given end f g n
    (shape ts d end placed x.dependency.target x.dependency.kind x.dependency.element f x.broken)
    (shape ts d end placed y.dependency.target y.dependency.kind y.dependency.element g y.broken) h

pub none_rising : AreRising []
unfolding IsStrictlySortedBy
none_rising = tt
