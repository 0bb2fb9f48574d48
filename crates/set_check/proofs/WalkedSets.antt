-- What one walk over a set finds are the set's faults, and its ends are those of its segments.
use Rattle.std.proofs.Common.{◌≡◌, ◌≤◌, ◌↔◌, inl, inr, ℕ, ◌-◌, ◌+◌, Bool, true, false, List, [], ◌∷◌, ◌++◌, length, take, map}
use Rattle.std.proofs.Common.{Option, Some, None, refl, sym, ap, subst, ◌∙◌, arith, slice_index_or}
use Rattle.std.specs.Prelude.{is_some}
use Rattle.std.specs.List.{All, Contains, slice_get}
use Rattle.std.proofs.lemmas.Option.{slice_get_within}
use Rattle.std.proofs.lemmas.List.{append-nil, length-append, take_all}
use Rattle.std.proofs.Math.Seq.{take-append_seam}
use Rattle.x12_bytes.specs.declared.delims.Delims.{Delims}
use Rattle.x12_segs.specs.Words.{SegValue, elements_of}
use Rattle.hub_kinds.specs.declared.fault.Fault.{Fault}
use Rattle.guide_tree.specs.Words.{GuideTree, IsStructureFault}
use Rattle.set_walk.specs.WalkedBody.{IsBodyFault, IsElementFaultIn, places_by}
use Rattle.set_walk.specs.WalkedSet.{IsWalkedSet, trailer_list}
use Rattle.set_walk.specs.declared.ends.Ends.{Ends}
use Rattle.set_walk.specs.declared.walked.WalkedSet.{WalkedSet}
use Rattle.set_check.specs.Envelope.{IsEnvelopeOf}
use Rattle.set_check.specs.SetFaults.{AreSetFaults, IsErrorIn, IsFaultUnder, IsRuleFault}
use Rattle.set_check.specs.SetParts.{SetParts, before_trailer, inner_of, set_trailer_of, parts_of, end_position, no_segment}
use Rattle.set_check.proofs.Enveloping.{count_of}
use Rattle.set_check.proofs.Whole.{at_end, below_of, error_of}

abbrev all_of : SegValue → List SegValue → Option SegValue → List SegValue
all_of h body t = h ∷ (body ++ trailer_list t)

inner_is : (closed : Bool) (h : SegValue) (body : List SegValue) (t : Option SegValue) → is_some t ≡ closed
    → inner_of closed (all_of h body t) ≡ body
inner_is true h body None e = cc
inner_is false h body (Some x) e = cc
inner_is false h body None e =
    take_all (length (all_of h body None) - 1) (body ++ []) (omega arith) ∙ append-nil body
inner_is true h body (Some x) e =
    let n : length (body ++ x ∷ []) ≡ length body + length (x ∷ []) = length-append body (x ∷ []) in
    let k : length (all_of h body (Some x)) - 1 - 1 ≡ length body = omega (arith, n) in
    ap (λ (i : ℕ). take i (body ++ x ∷ [])) k ∙ take-append_seam body (x ∷ [])

last_there : (body : List SegValue) (x : SegValue) → slice_get (body ++ x ∷ []) (length body) ≡ Some x
last_there [] x = refl
last_there (b ∷ body) x = last_there body x

trailer_is : (closed : Bool) (h : SegValue) (body : List SegValue) (t : Option SegValue) → is_some t ≡ closed
    → t ≡ set_trailer_of closed (all_of h body t)
trailer_is true h body None e = cc
trailer_is false h body (Some x) e = cc
trailer_is false h body None e = refl
trailer_is true h body (Some x) e =
    let n : length (body ++ x ∷ []) ≡ length body + length (x ∷ []) = length-append body (x ∷ []) in
    let k : length (all_of h body (Some x)) - 1 ≡ length (h ∷ body) = omega (arith, n) in
    sym (ap (slice_get (all_of h body (Some x))) k ∙ last_there body x)

room_is : (closed : Bool) (h : SegValue) (body : List SegValue) (t : Option SegValue) → is_some t ≡ closed
    → 1 ≤ before_trailer closed (length (all_of h body t))
room_is true h body None e = cc
room_is false h body (Some x) e = cc
room_is false h body None e = omega arith
room_is true h body (Some x) e =
    let n : length (body ++ x ∷ []) ≡ length body + length (x ∷ []) = length-append body (x ∷ []) in omega (arith, n)

-- what is wrong with a body is what is wrong with the set whose body it is
module _ (g : GuideTree) (d : Delims) (closed : Bool) (segs : List SegValue) (read : All (λ s. s.delims ≡ d) segs) where
  abbrev Body : List SegValue
  Body = inner_of closed segs

  abbrev Parts : SetParts
  Parts = parts_of d closed segs

  abbrev IsOfStructure : Fault → Type 0
  IsOfStructure f = IsStructureFault g Parts.body (places_by g Body) (end_position Parts) f

  structure_of : (f : Fault) → IsStructureFault g (map elements_of Body) (places_by g Body) (length Body + 2) f → IsOfStructure f
  structure_of f = at_end Body (λ (n : ℕ). IsStructureFault g (map elements_of Body) (places_by g Body) (length Body + 2) f
      → IsStructureFault g (map elements_of Body) (places_by g Body) n f) (λ h. h)

  of_structure : (f : Fault) → IsOfStructure f → IsStructureFault g (map elements_of Body) (places_by g Body) (length Body + 2) f
  of_structure f = at_end Body (λ (n : ℕ). IsStructureFault g (map elements_of Body) (places_by g Body) n f
      → IsStructureFault g (map elements_of Body) (places_by g Body) (length Body + 2) f) (λ h. h)

  element_of : (f : Fault) → IsElementFaultIn g.nodes 2 Body (places_by g Body) f → IsErrorIn g.nodes Parts (places_by g Body) f
  element_of f r = error_of g d closed segs read f (record {
    index = r.index;
    before = slice_get_within Body r.index r.seg r.there;
    seg = r.seg;
    place = r.place;
    slot = r.slot;
    there = r.there;
    placed = r.placed;
    leads = r.leads;
    told = r.told;
  })

  of_element : (f : Fault) → IsErrorIn g.nodes Parts (places_by g Body) f → IsElementFaultIn g.nodes 2 Body (places_by g Body) f
  of_element f e =
      let r = below_of g d closed segs read f e in
      record {
        index = r.index;
        seg = r.seg;
        place = r.place;
        slot = r.slot;
        there = r.there;
        placed = r.placed;
        leads = r.leads;
        told = r.told;
      }

  module _ (faults : List Fault) (are : (f : Fault) → Contains faults f ↔ IsBodyFault g Body f)
      (none : (f : Fault) → IsRuleFault g d Parts.body (places_by g Body) (end_position Parts) f → ⊥) where
    pub body_members : AreSetFaults (Some g) Parts faults
    body_members f = (λ h. to ((are f).0 h), λ h. (are f).1 (back h))
      where
        to : IsBodyFault g Body f → IsFaultUnder g Parts (places_by g Body) f
        to (inl a) = inl (structure_of f a)
        to (inr b) = inr (inl (element_of f b))

        back : IsFaultUnder g Parts (places_by g Body) f → IsBodyFault g Body f
        back (inl a) = inl (of_structure f a)
        back (inr (inl b)) = inr (of_element f b)
        back (inr (inr o)) = absurd (none f o.0)

-- the hierarchy and the dependencies are as they should be
module _ (g : GuideTree) (d : Delims) (closed : Bool) (segs : List SegValue) (w : WalkedSet) (read : All (λ s. s.delims ≡ d) segs)
    (is : IsWalkedSet g d closed segs w) where
  inner : inner_of closed segs ≡ is.body
  inner = ap (inner_of closed) is.segments ∙ inner_is closed w.ends.header is.body w.ends.trailer is.closed_is

  faults_are : (f : Fault) → Contains w.faults f ↔ IsBodyFault g (inner_of closed segs) f
  faults_are = subst (λ (l : List SegValue). (f : Fault) → Contains w.faults f ↔ IsBodyFault g l f) (sym inner) is.faults

  no_rule : (f : Fault) → IsRuleFault g d (map elements_of (inner_of closed segs)) (places_by g (inner_of closed segs))
      (end_position (parts_of d closed segs)) f → ⊥
  no_rule f h = none (subst (λ (l : List SegValue). IsRuleFault g d (map elements_of l) (places_by g l)
      (end_position (parts_of d closed segs)) f) inner h)
    where
      none : IsRuleFault g d (map elements_of is.body) (places_by g is.body) (end_position (parts_of d closed segs)) f → ⊥
      none (inl x) = is.hierarchy f x
      none (inr x) = is.dependencies (end_position (parts_of d closed segs)) f x

  pub walked_faults : AreSetFaults (Some g) (parts_of d closed segs) w.faults
  walked_faults = body_members g d closed segs read w.faults faults_are no_rule

pub walked_ends : (g : GuideTree) (d : Delims) (closed : Bool) (segs : List SegValue) (w : WalkedSet)
    → IsWalkedSet g d closed segs w → IsEnvelopeOf (parts_of d closed segs) w.ends
walked_ends g d closed segs w is =
    let e : Ends = w.ends in
    let some : 1 ≤ length segs = subst (λ (l : List SegValue). 1 ≤ length l) (sym is.segments) (omega arith) in
    let room : 1 ≤ before_trailer closed (length segs) =
    subst (λ (l : List SegValue). 1 ≤ before_trailer closed (length l)) (sym is.segments)
    (room_is closed e.header is.body e.trailer is.closed_is) in
    record {
      header = ap (λ (l : List SegValue). slice_index_or l 0 (no_segment d)) (sym is.segments);
      segments = is.count ∙ count_of d closed segs some room;
      trailer = trailer_is closed e.header is.body e.trailer is.closed_is ∙ ap (set_trailer_of closed) (sym is.segments);
    }
