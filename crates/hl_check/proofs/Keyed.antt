-- Two faults of a hierarchy that have one place in the order of faults are one.
use Rattle.std.proofs.Common.{◌≡◌, inl, inr, ℕ, ◌+◌, ◌==◌, List, [], Option, Some, None}
use Rattle.std.proofs.Common.{sym, ap, subst, ◌∙◌, if◌then◌else◌, length, get_or, take, drop}
use Rattle.std.specs.Prelude.{IsSomeAnd}
use Rattle.std.specs.List.{Contains, slice_get}
use Rattle.std.specs.List.Sorted.{IsStrictlySortedBy}
use Rattle.std.proofs.lemmas.List.Elements.{Contains-get_or, All-contains, All-filter, All-contains_itself}
use Rattle.std.proofs.lemmas.Option.{slice_get_within, get_or_from_slice_get}
use Rattle.x12_bytes.specs.declared.delims.Delims.{Delims}
use Rattle.hub_kinds.specs.declared.fault.Fault.{Fault}
use Rattle.hub_kinds.specs.declared.codes.ElementCode.{ElementCode}
use Rattle.hub_kinds.specs.declared.codes.ElementCode.TheVariants as ik403
use Rattle.hub_kinds.specs.Words.{key_of, AreRising, IsKeyedBy}
use Rattle.guide_tree.specs.declared.rows.HlRule.{HlRule}
use Rattle.guide_tree.specs.Words.{GuideTree, Trees, Segment, Place}
use Rattle.loop_match.specs.PlacedSegments.{PlacedSegment, placed_segments}
use Rattle.loop_match.proofs.ForAbove.{one_placed}
use Rattle.hl_check.specs.Hierarchy.{is_hl, hls_of, hl_fault, IsHlFault, IsFaultAmong, IsHierarchyFault}
use Rattle.hl_check.specs.Found.{found_faults}
use Rattle.hl_check.proofs.Faulty.{members}

there_contains : (hls : List PlacedSegment) (k : ℕ) (h : PlacedSegment) → slice_get hls k ≡ Some h → Contains hls h
there_contains hls k h e =
    subst (Contains hls) (get_or_from_slice_get hls k h h e) (Contains-get_or hls k h (slice_get_within hls k h e))

-- an HL that has a place is one of the placed segments
is_placed : (ts : Trees) (body : List Segment) (given : List (Option Place)) (k : ℕ) (h : PlacedSegment)
    → slice_get (hls_of ts body given) k ≡ Some h → Contains (placed_segments ts body given) h
is_placed ts body given k h e =
    let placed = placed_segments ts body given in
    All-contains (Contains placed) (hls_of ts body given) h
    (All-filter (λ (x : PlacedSegment). is_hl x.segment) (Contains placed) placed (All-contains_itself placed))
    (there_contains (hls_of ts body given) k h e)

abbrev code_at : ℕ → ElementCode
code_at element = if element == 3 then ik403.CodeNotUsed else ik403.PatternFailure

-- each fault is reported of one HL, by the element
shape : (rule : HlRule) (d : Delims) (earlier : List PlacedSegment) (h : PlacedSegment) (later : List PlacedSegment) (f : Fault)
    → IsHlFault rule d earlier h later f → (element : ℕ) × (f ≡ hl_fault h element (code_at element))
shape rule d earlier h later f wrong = elim wrong [
  | inl w ↦ (1, w.1)
  | inr v ↦ elim v [
    | inl w ↦ (2, w.1)
    | inr u ↦ elim u [ inl w ↦ (3, w.1) | inr w ↦ (4, w.1) ]
  ]
]

key_position : (f : Fault) (h : PlacedSegment) (element : ℕ) (code : ElementCode) → f ≡ hl_fault h element code
    → get_or (key_of f) 0 0 ≡ h.position
key_position f h element code e = ap (λ (x : Fault). get_or (key_of x) 0 0) e

key_element : (f : Fault) (h : PlacedSegment) (element : ℕ) (code : ElementCode) → f ≡ hl_fault h element code
    → get_or (key_of f) 3 0 ≡ element
key_element f h element code e = ap (λ (x : Fault). get_or (key_of x) 3 0) e

one_fault : (ts : Trees) (body : List Segment) (given : List (Option Place)) (rule : HlRule) (d : Delims) (f g : Fault)
    → IsFaultAmong rule d (hls_of ts body given) f → IsFaultAmong rule d (hls_of ts body given) g → key_of f ≡ key_of g → f ≡ g
one_fault ts body given rule d f g a b k =
    let hls = hls_of ts body given in
    let x = shape rule d (take a.count hls) a.hl (drop (a.count + 1) hls) f a.wrong in
    let y = shape rule d (take b.count hls) b.hl (drop (b.count + 1) hls) g b.wrong in
    let p : a.hl.position ≡ b.hl.position =
    sym (key_position f a.hl x.0 (code_at x.0) x.1) ∙ ap (λ (l : List ℕ). get_or l 0 0) k ∙ key_position g b.hl y.0 (code_at y.0) y.1 in
    let e : x.0 ≡ y.0 =
    sym (key_element f a.hl x.0 (code_at x.0) x.1) ∙ ap (λ (l : List ℕ). get_or l 3 0) k ∙ key_element g b.hl y.0 (code_at y.0) y.1 in
    let h : a.hl ≡ b.hl =
    one_placed ts body given a.hl b.hl (is_placed ts body given a.count a.hl a.there) (is_placed ts body given b.count b.hl b.there) p in
    x.1 ∙ ap (λ (z : PlacedSegment). hl_fault z x.0 (code_at x.0)) h ∙ ap (λ (m : ℕ). hl_fault b.hl m (code_at m)) e ∙ sym y.1

of_rule : (ts : Trees) (body : List Segment) (given : List (Option Place)) (rule : Option HlRule) (d : Delims) (f g : Fault)
    → IsSomeAnd rule (λ r. IsFaultAmong r d (hls_of ts body given) f) → IsSomeAnd rule (λ r. IsFaultAmong r d (hls_of ts body given) g)
    → key_of f ≡ key_of g → f ≡ g
of_rule ts body given None d f g a b k = absurd a
of_rule ts body given (Some rule) d f g a b k = one_fault ts body given rule d f g a b k

pub one_hierarchy_fault : (guide : GuideTree) (d : Delims) (body : List Segment) (given : List (Option Place)) (f g : Fault)
    → IsHierarchyFault guide d body given f → IsHierarchyFault guide d body given g → key_of f ≡ key_of g → f ≡ g
one_hierarchy_fault guide d body given f g a b k = of_rule guide.nodes body given guide.hl d f g a b k

-- what the two walks find over the HLs of a body has one fault for each key
pub keyed : (ts : Trees) (body : List Segment) (given : List (Option Place)) (rule : HlRule) (d : Delims) (faults : List Fault)
    → faults ≡ found_faults rule d (hls_of ts body given) (length (hls_of ts body given)) → IsKeyedBy key_of faults
keyed ts body given rule d faults found f g a b k =
    let hls = hls_of ts body given in
    let is : (x : Fault) → Contains faults x → IsFaultAmong rule d hls x =
    λ x c. (members rule d hls x).0 (subst (λ (l : List Fault). Contains l x) found c) in
    one_fault ts body given rule d f g (is f a) (is g b) k

pub none_rising : AreRising []
unfolding IsStrictlySortedBy
none_rising = tt
