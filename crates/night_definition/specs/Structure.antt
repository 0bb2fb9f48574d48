-- 999 guide, IK3: what is wrong with the segments of a body, by their places.
use Rattle.std.specs.Prelude.{ℕ, ◌+◌, ◌==◌, nat_lt, nat_le, max, Bool, false, ◌&&◌, ◌||◌, List, [], ◌∷◌, ◌++◌, map}
use Rattle.std.specs.Prelude.{None, if◌then◌else◌, is_none, fold, filter, filter_map, flat_map, find, bytes_eq, option_map}
use Rattle.std.specs.Option.{option_map_or}
use Rattle.std.specs.List.{list_any, range_with_len}
use Rattle.guide_tree.specs.Tree.{Tree, Trees, segment, loop, no_trees, tree, GuideTree}
use Rattle.hub_kinds.specs.declared.fault.Fault.{Fault}
use Rattle.hub_kinds.specs.declared.codes.SegmentCode.{SegmentCode}
use Rattle.hub_kinds.specs.declared.codes.SegmentCode.TheVariants as ik304
use Rattle.night_definition.specs.Segments.{Elements, element}
use Rattle.night_definition.specs.Guides.{fits, min_of, max_of, number_of_node, slots, is_among}
use Rattle.night_definition.specs.Places.{Place, Placed}

-- a position, and the rest of its place within one repetition of a parent
abbrev pub Standing : Type 0
Standing = ℕ × Place

abbrev pub stands : (ℕ × ℕ → Bool) → Standing → Bool
stands test (n, []) = false
stands test (n, a ∷ p) = test a

abbrev pub is_use : (child repetition : ℕ) → ℕ × ℕ → Bool
is_use k u a = a.0 == k && a.1 == u

abbrev pub is_after_use : (child repetition : ℕ) → ℕ × ℕ → Bool
is_after_use k u a = nat_lt k a.0 || (a.0 == k && nat_lt u a.1)

-- the position of the first segment whose place passes a test
abbrev pub first_at : (ℕ × ℕ → Bool) → List Standing → (otherwise : ℕ) → ℕ
first_at test here otherwise = option_map_or (λ x. x.0) (find (stands test) here) otherwise

-- the number of uses of a child: repetitions count from 0 without gaps
abbrev pub use_in : (child : ℕ) → Standing → ℕ
use_in k (n, []) = 0
use_in k (n, a ∷ p) = if a.0 == k then a.1 + 1 else 0

abbrev pub use_count : (child : ℕ) → List Standing → ℕ
use_count k here = fold (λ n x. max n (use_in k x)) 0 here

-- the segments within one repetition of a child
abbrev pub deeper : Standing → Standing
deeper (n, []) = (n, [])
deeper (n, a ∷ p) = (n, p)

abbrev pub within : (child repetition : ℕ) → List Standing → List Standing
within k u here = map deeper (filter (stands (is_use k u)) here)

-- a loop is reported by its first segment
abbrev pub first_id : Tree → List ℕ
first_id (segment s) = s.id
first_id (loop l (tree (segment s) ts)) = s.id
first_id (loop l ts) = []

abbrev pub loop_id_by : (outer : List ℕ) → Tree → List ℕ
loop_id_by outer (segment s) = outer
loop_id_by outer (loop l ts) = l.id

abbrev pub node_fault : (outer : List ℕ) → Tree → (position : ℕ) → SegmentCode → Fault
node_fault outer t position code = record {
  position = position;
  id = first_id t;
  loop_id = loop_id_by outer t;
  code = code;
  slot = number_of_node t;
  elem = None;
}

abbrev pub past_code : Tree → SegmentCode
past_code (segment s) = if s.max == 0 then ik304.NotUsedPresent else ik304.SegmentTooOften
past_code (loop l ts) = if l.max == 0 then ik304.NotUsedPresent else ik304.LoopTooOften

abbrev pub few_code : Tree → SegmentCode
few_code (segment s) = ik304.SegmentTooSeldom
few_code (loop l ts) = ik304.LoopTooSeldom

-- each use past the maximum
abbrev pub past_faults : (outer : List ℕ) → Tree → (child : ℕ) → List Standing → List Fault
past_faults outer t k here =
    flat_map (λ u. if nat_le (max_of t) u then node_fault outer t (first_at (is_use k u) here 0) (past_code t) ∷ [] else [])
    (range_with_len 0 (use_count k here))

-- no use, or fewer than the minimum: reported at the first segment after the child
abbrev pub few_faults : (outer : List ℕ) → Tree → (child : ℕ) → List Standing → (after : ℕ) → List Fault
few_faults outer t k here after =
    if nat_le (min_of t) (use_count k here) then []
    else node_fault outer t (first_at (λ a. nat_lt k a.0) here after)
    (if use_count k here == 0 then ik304.RequiredSegmentMissing else few_code t) ∷ []

abbrev mutual
  -- in each repetition of a loop; nodes missing at its end are reported at what follows it
  pub faults_under : Tree → (child : ℕ) → List Standing → (after : ℕ) → List Fault
  faults_under (segment s) k here after = []
  faults_under (loop l ts) k here after =
      flat_map (λ u. faults_in l.id ts 0 (within k u here) (first_at (is_after_use k u) here after)) (range_with_len 0 (use_count k here))

  -- in one repetition of a parent, child by child
  pub faults_in : (loop_id : List ℕ) → Trees → (child : ℕ) → List Standing → (after : ℕ) → List Fault
  faults_in outer no_trees k here after = []
  faults_in outer (tree t ts) k here after =
      past_faults outer t k here ++ few_faults outer t k here after ++ faults_under t k here after
      ++ faults_in outer ts (k + 1) here after

abbrev pub stray_code : GuideTree → Elements → SegmentCode
stray_code g s =
    if list_any (λ x. fits x.0 s) (slots [] g.nodes) then ik304.OutOfSequence
    else if list_any (λ x. bytes_eq x.0.id (element 0 s)) (slots [] g.nodes) then ik304.UnexpectedSegment
    else if is_among g.head.dictionary (element 0 s) then ik304.NotInSet
    else ik304.UnrecognizedSegment

abbrev pub stray_faults : GuideTree → List Placed → List Fault
stray_faults g placed =
    map (λ p. record {
      position = p.position;
      id = element 0 p.segment;
      loop_id = [];
      code = stray_code g p.segment;
      slot = 0;
      elem = None;
    })
    (filter (λ p. is_none p.spot) placed)

abbrev pub structure_faults : GuideTree → List Placed → (end : ℕ) → List Fault
structure_faults g placed end =
    stray_faults g placed
    ++ faults_in [] g.nodes 0 (filter_map (λ p. option_map (λ x. (p.position, x.place)) p.spot) placed) end
