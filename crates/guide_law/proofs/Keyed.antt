-- Structural faults of one key are one: a slot's number names one node, and with it the innermost loop.
use Rattle.std.proofs.Common.{◌≡◌, ℕ, zero, suc, ◌+◌, ◌<◌, ◌≤◌, ◌⊎◌, inl, inr, List, [], ◌∷◌, ◌++◌, Option, Some, None, get_or}
use Rattle.std.proofs.Common.{refl, sym, ap, subst, ◌∙◌, arith}
use Rattle.std.specs.Prelude.{slice_get}
use Rattle.hub_kinds.specs.declared.fault.Fault.{Fault}
use Rattle.hub_kinds.specs.declared.codes.SegmentCode.{SegmentCode}
use Rattle.hub_kinds.specs.declared.codes.SegmentCode.TheVariants as ik304
use Rattle.hub_kinds.specs.Words.{segment_rank, key_of}
use Rattle.guide_tree.specs.Words.{Tree, Trees, segment, loop, no_trees, tree, GuideTree, node_number, count_in, node_count, numbered_in}
use Rattle.guide_tree.specs.Words.{numbered, with_slot_numbers, Segment, segment_id, Place, use_of, node_in, node_nth, node_at, loop_id_at}
use Rattle.guide_tree.specs.Words.{first_id, past_code, stray_code, IsPast, IsShort, IsStray, IsStructureFault, loop_of}
use Rattle.guide_law.specs.Law.{FaultsAreKeyed}
use Rattle.guide_law.proofs.Faulty.{fault_is}

-- a node, and the id of its innermost loop, where the tree stands in the loop with the id outer
abbrev mutual
  pub IsNamedIn : (outer : List ℕ) → Tree → Tree → List ℕ → Type 0
  IsNamedIn outer (segment s) x l = (x ≡ segment s) × (l ≡ outer)
  IsNamedIn outer (loop k ts) x l = ((x ≡ loop k ts) × (l ≡ k.id)) ⊎ IsNamed k.id ts x l

  pub IsNamed : (outer : List ℕ) → Trees → Tree → List ℕ → Type 0
  IsNamed outer no_trees x l = ⊥
  IsNamed outer (tree t ts) x l = IsNamedIn outer t x l ⊎ IsNamed outer ts x l

mutual
  range_in : (n : ℕ) (t : Tree) (o : List ℕ) (x : Tree) (l : List ℕ) → IsNamedIn o (numbered_in n t) x l
      → (n ≤ node_number x) × (node_number x < n + count_in t)
  range_in n (segment s) o x l h = let e : node_number x ≡ n = ap node_number h.0 in ((omega arith), (omega arith))
  range_in n (loop k ts) o x l (inl h) = let e : node_number x ≡ n = ap node_number h.0 in ((omega arith), (omega arith))
  range_in n (loop k ts) o x l (inr h) =
      let r = range (n + 1) ts k.id x l h in let a = r.0 in let b = r.1 in ((omega arith), (omega arith))

  range : (n : ℕ) (ts : Trees) (o : List ℕ) (x : Tree) (l : List ℕ) → IsNamed o (numbered n ts) x l
      → (n ≤ node_number x) × (node_number x < n + node_count ts)
  range n no_trees o x l h = absurd h
  range n (tree t ts) o x l (inl h) =
      let r = range_in n t o x l h in let a = r.0 in let b = r.1 in ((omega arith), (omega arith))
  range n (tree t ts) o x l (inr h) =
      let r = range (n + count_in t) ts o x l h in let a = r.0 in let b = r.1 in ((omega arith), (omega arith))

mutual
  one_in : (n : ℕ) (t : Tree) (o : List ℕ) (x y : Tree) (l m : List ℕ) → IsNamedIn o (numbered_in n t) x l
      → IsNamedIn o (numbered_in n t) y m → node_number x ≡ node_number y → (x ≡ y) × (l ≡ m)
  one_in n (segment s) o x y l m h g e = (h.0 ∙ sym g.0, h.1 ∙ sym g.1)
  one_in n (loop k ts) o x y l m (inl h) (inl g) e = (h.0 ∙ sym g.0, h.1 ∙ sym g.1)
  one_in n (loop k ts) o x y l m (inl h) (inr g) e =
      let a : node_number x ≡ n = ap node_number h.0 in let b = (range (n + 1) ts k.id y m g).0 in absurd (omega arith)
  one_in n (loop k ts) o x y l m (inr h) (inl g) e =
      let a : node_number y ≡ n = ap node_number g.0 in let b = (range (n + 1) ts k.id x l h).0 in absurd (omega arith)
  one_in n (loop k ts) o x y l m (inr h) (inr g) e = one_named (n + 1) ts k.id x y l m h g e

  pub one_named : (n : ℕ) (ts : Trees) (o : List ℕ) (x y : Tree) (l m : List ℕ) → IsNamed o (numbered n ts) x l
      → IsNamed o (numbered n ts) y m → node_number x ≡ node_number y → (x ≡ y) × (l ≡ m)
  one_named n no_trees o x y l m h g e = absurd h
  one_named n (tree t ts) o x y l m (inl h) (inl g) e = one_in n t o x y l m h g e
  one_named n (tree t ts) o x y l m (inl h) (inr g) e =
      let a = (range_in n t o x l h).1 in let b = (range (n + count_in t) ts o y m g).0 in absurd (omega arith)
  one_named n (tree t ts) o x y l m (inr h) (inl g) e =
      let a = (range_in n t o y m g).1 in let b = (range (n + count_in t) ts o x l h).0 in absurd (omega arith)
  one_named n (tree t ts) o x y l m (inr h) (inr g) e = one_named (n + count_in t) ts o x y l m h g e

-- a place's node is named by the loop that the place is in
abbrev own : Option Tree → List ℕ
own None = []
own (Some (segment s)) = []
own (Some (loop l ts)) = l.id

own_here : (o : List ℕ) (t x : Tree) → node_in t [] ≡ Some x → IsNamedIn o t x (loop_of o x)
own_here o (segment s) x h =
    let e : segment s ≡ x = cc in subst (λ (y : Tree). IsNamedIn o (segment s) y (loop_of o y)) e (refl, refl)
own_here o (loop l ts) x h =
    let e : loop l ts ≡ x = cc in subst (λ (y : Tree). IsNamedIn o (loop l ts) y (loop_of o y)) e (inl (refl, refl))

child_named : (o : List ℕ) (ts : Trees) (n : ℕ) (x : Tree) → node_nth ts n [] ≡ Some x → IsNamed o ts x (loop_of o x)
child_named o no_trees n x h = cc
child_named o (tree t ts) zero x h = inl (own_here o t x h)
child_named o (tree t ts) (suc n) x h = inr (child_named o ts n x h)

mutual
  in_named : (o : List ℕ) (t : Tree) (w : Place) (c u : ℕ) (x : Tree) → node_in t (w ++ use_of c u ∷ []) ≡ Some x
      → IsNamedIn o t x (loop_of (own (node_in t w)) x)
  in_named o (segment s) [] c u x h = cc
  in_named o (segment s) (a ∷ w) c u x h = cc
  in_named o (loop l ts) [] c u x h = inr (child_named l.id ts c x h)
  in_named o (loop l ts) (a ∷ w) c u x h = inr (nth_named l.id ts a.child w c u x h)

  nth_named : (o : List ℕ) (ts : Trees) (n : ℕ) (w : Place) (c u : ℕ) (x : Tree)
      → node_nth ts n (w ++ use_of c u ∷ []) ≡ Some x → IsNamed o ts x (loop_of (own (node_nth ts n w)) x)
  nth_named o no_trees n w c u x h = cc
  nth_named o (tree t ts) zero w c u x h = inl (in_named o t w c u x h)
  nth_named o (tree t ts) (suc n) w c u x h = inr (nth_named o ts n w c u x h)

own_is : (ts : Trees) (w : Place) (x : Option Tree) → node_at ts w ≡ x → own x ≡ loop_id_at ts w
own_is ts w None e = rw e refl
own_is ts w (Some (segment s)) e = rw e refl
own_is ts w (Some (loop l us)) e = rw e refl

at_named : (ts : Trees) (w : Place) (c u : ℕ) (x : Tree) → node_at ts (w ++ use_of c u ∷ []) ≡ Some x
    → IsNamed [] ts x (loop_of (loop_id_at ts w) x)
at_named ts [] c u x h = child_named [] ts c x h
at_named ts (a ∷ w) c u x h =
    subst (λ (l : List ℕ). IsNamed [] ts x (loop_of l x)) (own_is ts (a ∷ w) (node_at ts (a ∷ w)) refl)
    (nth_named [] ts a.child w c u x h)

abbrev made : ℕ → SegmentCode → Tree → List ℕ → Fault
made at code t l = record { position = at; id = first_id t; loop_id = l; code = code; slot = node_number t; elem = None }

-- a fault that speaks of a node
record OfNode (ts : Trees) (f : Fault) : Type 0 where
  at : ℕ
  code : SegmentCode
  node : Tree
  named : List ℕ
  there : IsNamed [] ts node named
  is : f ≡ made at code node named

past_node : (ts : Trees) (given : List (Option Place)) (f : Fault) → IsPast ts given f → OfNode ts f
past_node ts given f r = record {
  at = r.index + 2;
  code = past_code r.node;
  node = r.node;
  named = loop_of (loop_id_at ts r.parent) r.node;
  there = at_named ts r.parent r.child r.use_no r.node r.there;
  is = r.is ∙ fault_is ts (r.index + 2) (past_code r.node) r.parent r.node;
}

short_node : (ts : Trees) (given : List (Option Place)) (end : ℕ) (f : Fault) → IsShort ts given end f → OfNode ts f
short_node ts given end f r = record {
  at = r.position;
  code = r.code;
  node = r.node;
  named = loop_of (loop_id_at ts r.parent) r.node;
  there = at_named ts r.parent r.child 0 r.node r.there;
  is = r.is ∙ fault_is ts r.position r.code r.parent r.node;
}

abbrev all_codes : List SegmentCode
all_codes =
    ik304.UnrecognizedSegment ∷ ik304.UnexpectedSegment ∷ ik304.RequiredSegmentMissing ∷ ik304.LoopTooOften ∷ ik304.SegmentTooOften
    ∷ ik304.NotInSet ∷ ik304.OutOfSequence ∷ ik304.ElementErrors ∷ ik304.NotUsedPresent ∷ ik304.DependentMissing
    ∷ ik304.LoopTooSeldom ∷ ik304.SegmentTooSeldom ∷ ik304.DependentNotUsedPresent ∷ []

code_at_rank : (code d : SegmentCode) → get_or all_codes (segment_rank code) d ≡ code
code_at_rank ik304.UnrecognizedSegment d = refl
code_at_rank ik304.UnexpectedSegment d = refl
code_at_rank ik304.RequiredSegmentMissing d = refl
code_at_rank ik304.LoopTooOften d = refl
code_at_rank ik304.SegmentTooOften d = refl
code_at_rank ik304.NotInSet d = refl
code_at_rank ik304.OutOfSequence d = refl
code_at_rank ik304.ElementErrors d = refl
code_at_rank ik304.NotUsedPresent d = refl
code_at_rank ik304.DependentMissing d = refl
code_at_rank ik304.LoopTooSeldom d = refl
code_at_rank ik304.SegmentTooSeldom d = refl
code_at_rank ik304.DependentNotUsedPresent d = refl

same_code : (a b : SegmentCode) → segment_rank a ≡ segment_rank b → a ≡ b
same_code a b h = sym (code_at_rank a a) ∙ ap (λ n. get_or all_codes n a) h ∙ code_at_rank b a

same_made : (at two : ℕ) (c d : SegmentCode) (t u : Tree) (l m : List ℕ) → at ≡ two → c ≡ d → t ≡ u → l ≡ m
    → made at c t l ≡ made two d u m
same_made at two c d t u l m e f g h =
    ap (λ (n : ℕ). made n c t l) e ∙ ap (λ (n : SegmentCode). made two n t l) f ∙ ap (λ (n : Tree). made two d n l) g
    ∙ ap (λ (n : List ℕ). made two d u n) h

same_node : (ts : Trees) (f h : Fault) → OfNode (numbered 1 ts) f → OfNode (numbered 1 ts) h → key_of f ≡ key_of h → f ≡ h
same_node ts f h r s e =
    let k = sym (ap key_of r.is) ∙ e ∙ ap key_of s.is in
    let both = one_named 1 ts [] r.node s.node r.named s.named r.there s.there (ap (λ (l : List ℕ). get_or l 2 0) k) in
    r.is
    ∙ same_made r.at s.at r.code s.code r.node s.node r.named s.named (ap (λ (l : List ℕ). get_or l 0 0) k)
    (same_code r.code s.code (ap (λ (l : List ℕ). get_or l 1 0) k)) both.0 both.1
    ∙ sym s.is

abbrev stray_made : (g : GuideTree) → ℕ → Segment → Fault
stray_made g i s = record { position = i + 2; id = segment_id s; loop_id = []; code = stray_code g s; slot = 0; elem = None }

same_segment : (body : List Segment) (i j : ℕ) (s t : Segment) → slice_get body i ≡ Some s → slice_get body j ≡ Some t → i ≡ j → s ≡ t
same_segment body i j s t e f h = let k : Some s ≡ Some t = sym e ∙ ap (slice_get body) h ∙ f in cc

same_stray : (g : GuideTree) (body : List Segment) (given : List (Option Place)) (f h : Fault) → IsStray g body given f
    → IsStray g body given h → key_of f ≡ key_of h → f ≡ h
same_stray g body given f h r s e =
    let k = sym (ap key_of r.is) ∙ e ∙ ap key_of s.is in
    let p : r.index + 2 ≡ s.index + 2 = ap (λ (l : List ℕ). get_or l 0 0) k in
    let i : r.index ≡ s.index = omega arith in
    r.is ∙ ap (λ (n : ℕ). stray_made g n r.segment) i
    ∙ ap (stray_made g s.index) (same_segment body r.index s.index r.segment s.segment r.there s.there i) ∙ sym s.is

apart : (g : GuideTree) (ts : Trees) (body : List Segment) (given : List (Option Place)) (f h : Fault) → OfNode (numbered 1 ts) f
    → IsStray g body given h → key_of f ≡ key_of h → ⊥
apart g ts body given f h r s e =
    let k = sym (ap key_of r.is) ∙ e ∙ ap key_of s.is in
    let z : node_number r.node ≡ 0 = ap (λ (l : List ℕ). get_or l 2 0) k in
    let n = (range 1 ts [] r.node r.named r.there).0 in omega arith

of_node : (g : GuideTree) (body : List Segment) (given : List (Option Place)) (end : ℕ) (f : Fault)
    → IsStructureFault g body given end f → OfNode g.nodes f ⊎ IsStray g body given f
of_node g body given end f (inl r) = inl (past_node g.nodes given f r)
of_node g body given end f (inr (inl r)) = inl (short_node g.nodes given end f r)
of_node g body given end f (inr (inr r)) = inr r

same_fault : (g : GuideTree) (ts : Trees) (body : List Segment) (given : List (Option Place)) (f h : Fault)
    → OfNode (numbered 1 ts) f ⊎ IsStray g body given f → OfNode (numbered 1 ts) h ⊎ IsStray g body given h
    → key_of f ≡ key_of h → f ≡ h
same_fault g ts body given f h (inl r) (inl s) e = same_node ts f h r s e
same_fault g ts body given f h (inl r) (inr s) e = absurd (apart g ts body given f h r s e)
same_fault g ts body given f h (inr r) (inl s) e = absurd (apart g ts body given h f s r (sym e))
same_fault g ts body given f h (inr r) (inr s) e = same_stray g body given f h r s e

pub keyed : (g : GuideTree) → FaultsAreKeyed (with_slot_numbers g)
keyed g body given end f h r s e =
    let n = with_slot_numbers g in
    same_fault n g.nodes body given f h (of_node n body given end f r) (of_node n body given end h s) e
