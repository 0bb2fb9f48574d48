-- A small ship notice's guide with a loop in a loop, a body with many faults, and what is wrong with it: BSN once; up to two
-- loops HL, in each two REF that are picked by IA and two loops N1, in which N3 isn't used; CTT at most once.
use Rattle.std.proofs.Common.{◌≡◌, ℕ, zero, suc, ◌<◌, sym, ◌∙◌, List, [], ◌∷◌, codes, true, false, Option, Some, None, inl, inr}
use Rattle.std.proofs.Common.{refl, arith}
use Rattle.hub_kinds.specs.declared.codes.SegmentCode.TheVariants as ik304
use Rattle.guide_tree.specs.declared.slot.Slot.{Slot}
use Rattle.guide_tree.specs.Words.{Tree, Trees, segment, loop, no_trees, tree, EachNode, GuideTree, Segment, Place, use_of, MayCome}
use Rattle.guide_tree.specs.Words.{FitsAt, IsPlacing, first_id, innermost, past_code, few_code, stray_code, IsReportedAt}
use Rattle.guide_tree.specs.Words.{IsStructureFault}
use Rattle.guide_law.proofs.Deciding.{use_same}
use Rattle.guide_law.proofs.WorkedPlacing.{FitsNone, none_at, no_place}
use Rattle.guide_law.proofs.WorkedGuide.{slot, repeated, alone, fault_at}
use Rattle.guide_law.proofs.Computing.{has_is, has_not, first_begun, reported_there, reported_once}

abbrev ref : Slot
ref = record {
  number = 4;
  id = codes "REF";
  label = None;
  min = 2;
  max = 2;
  picks = record { position = 1; codes = codes "IA" ∷ [] } ∷ [];
  elements = [];
  conditions = [];
}

abbrev address : Tree
address = segment (slot 7 (codes "N3") 0 0)

abbrev parties : Tree
parties = loop (repeated 5 (codes "N1") 2 2) (tree (segment (slot 6 (codes "N1") 1 1)) (tree address no_trees))

abbrev levels : Tree
levels = loop (repeated 2 (codes "HL") 1 2) (tree (segment (slot 3 (codes "HL") 1 1)) (tree (segment ref) (tree parties no_trees)))

abbrev shipment : Trees
shipment = tree (segment (slot 1 (codes "BSN") 1 1)) (tree levels (tree (segment (slot 8 (codes "CTT") 0 1)) no_trees))

abbrev shipment_guide : GuideTree
shipment_guide = record {
  head = record {
    name = codes "S";
    group = codes "SH";
    set = codes "856";
    version = codes "005010";
    convention = None;
    dictionary = codes "AMT" ∷ [];
    tolerate_segment = [];
    tolerate_element = [];
  };
  hl = None;
  depends = [];
  nodes = shipment;
}

-- the codes (IK304) of nodes that are used too often, or too seldom, and of segments that have no place
past_codes : (past_code (segment (slot 1 (codes "BSN") 1 1)) ≡ ik304.SegmentTooOften) × (past_code address ≡ ik304.NotUsedPresent)
    × (past_code levels ≡ ik304.LoopTooOften) × (past_code (loop (repeated 1 (codes "L") 0 0) no_trees) ≡ ik304.NotUsedPresent)
past_codes = (refl, refl, refl, refl)

few_codes : (few_code (segment ref) ≡ ik304.SegmentTooSeldom) × (few_code parties ≡ ik304.LoopTooSeldom)
few_codes = (refl, refl)

abbrev other_ref : Segment
other_ref = codes "REF" ∷ codes "ZZ" ∷ []

stray_codes : (stray_code shipment_guide (alone (codes "Q9")) ≡ ik304.UnrecognizedSegment)
    × (stray_code shipment_guide (alone (codes "AMT")) ≡ ik304.NotInSet)
    × (stray_code shipment_guide other_ref ≡ ik304.UnexpectedSegment)
    × (stray_code shipment_guide (alone (codes "BSN")) ≡ ik304.OutOfSequence)
stray_codes = (refl, refl, refl, refl)

-- repetitions of the loop HL, and of N1 in the first of them
abbrev level : ℕ → Place
level repetition = use_of 1 repetition ∷ []

abbrev party : Place
party = use_of 1 0 ∷ use_of 2 0 ∷ []

-- the innermost loop (IK303): none, HL, N1 in HL; and a loop's own
innermost_loops : (innermost shipment [] (segment (slot 1 (codes "BSN") 1 1)) ≡ [])
    × (innermost shipment (level 1) (segment ref) ≡ codes "HL")
    × (innermost shipment party address ≡ codes "N1") × (innermost shipment [] levels ≡ codes "HL")
    × (innermost shipment (level 0) parties ≡ codes "N1")
innermost_loops = (refl, refl, refl, refl, refl)

-- the id that a fault shows: a segment's, or that of a loop's first segment
first_ids : (first_id (segment ref) ≡ codes "REF") × (first_id parties ≡ codes "N1") × (first_id levels ≡ codes "HL")
first_ids = (refl, refl, refl)

-- BSN, HL, REF, N1, N3, HL, three REF, four strays, HL
abbrev body : List Segment
body =
    alone (codes "BSN") ∷ alone (codes "HL") ∷ (codes "REF" ∷ codes "IA" ∷ []) ∷ alone (codes "N1") ∷ alone (codes "N3") ∷ alone
    (codes "HL")
    ∷ (codes "REF" ∷ codes "IA" ∷ []) ∷ (codes "REF" ∷ codes "IA" ∷ []) ∷ (codes "REF" ∷ codes "IA" ∷ [])
    ∷ alone (codes "AMT") ∷ other_ref ∷ alone (codes "BSN") ∷ alone (codes "Q9") ∷ alone (codes "HL") ∷ []

abbrev in_level : ℕ → ℕ → ℕ → Option Place
in_level repetition child use_no = Some (use_of 1 repetition ∷ use_of child use_no ∷ [])

abbrev in_party : ℕ → Option Place
in_party child = Some (use_of 1 0 ∷ use_of 2 0 ∷ use_of child 0 ∷ [])

abbrev given : List (Option Place)
given =
    Some (use_of 0 0 ∷ []) ∷ in_level 0 0 0 ∷ in_level 0 1 0 ∷ in_party 0 ∷ in_party 1 ∷ in_level 1 0 0
    ∷ in_level 1 1 0 ∷ in_level 1 1 1 ∷ in_level 1 1 2
    ∷ None ∷ None ∷ None ∷ None ∷ in_level 2 0 0 ∷ []

no_amt : EachNode (FitsNone (alone (codes "AMT"))) shipment
no_amt = (refl, ((tt, (refl, (refl, ((tt, (refl, (refl, tt))), tt)))), (refl, tt)))

no_other_ref : EachNode (FitsNone other_ref) shipment
no_other_ref = (refl, ((tt, (refl, (refl, ((tt, (refl, (refl, tt))), tt)))), (refl, tt)))

no_q9 : EachNode (FitsNone (alone (codes "Q9"))) shipment
no_q9 = (refl, ((tt, (refl, (refl, ((tt, (refl, (refl, tt))), tt)))), (refl, tt)))

-- a BSN fits the first slot alone, after which the second HL is
no_other_bsn : EachNode (FitsNone (alone (codes "BSN"))) (tree levels (tree (segment (slot 8 (codes "CTT") 0 1)) no_trees))
no_other_bsn = ((tt, (refl, (refl, ((tt, (refl, (refl, tt))), tt)))), (refl, tt))

not_first : (n u : ℕ) (q : Place) → (n ≡ 0) → MayCome (Some (use_of 1 1 ∷ use_of 1 2 ∷ [])) (use_of n u ∷ q) → ⊥
not_first n u q e (inl h) = let same = (use_same 1 n 1 u h.0).0 in omega (arith, e, same)
not_first n u q e (inr (inl h, firsts)) = let l : 1 < n = h.0 in omega (arith, e, l)
not_first n u q e (inr (inr h, firsts)) = let l : n ≡ 1 = h.0 in omega (arith, e, l)

bsn_fits : (n u : ℕ) (q : Place) → MayCome (Some (use_of 1 1 ∷ use_of 1 2 ∷ [])) (use_of n u ∷ q)
    → FitsAt shipment (use_of n u ∷ q) (alone (codes "BSN")) → ⊥
bsn_fits zero u q m f = not_first 0 u q refl m
bsn_fits (suc n) u q m f =
    let e = none_at (alone (codes "BSN")) (tree levels (tree (segment (slot 8 (codes "CTT") 0 1)) no_trees)) n q f.0 no_other_bsn f.1 in
    let t : true ≡ false = sym f.2 ∙ e in cc

no_second_bsn : (q : Place) → MayCome (Some (use_of 1 1 ∷ use_of 1 2 ∷ [])) q → FitsAt shipment q (alone (codes "BSN")) → ⊥
no_second_bsn [] m f = absurd m
no_second_bsn (b ∷ q) m f = bsn_fits b.child b.use_no q m f

-- the places are the body's
body_is_placed : IsPlacing shipment None body given
body_is_placed = (
  (refl, tt),
  (slot 1 (codes "BSN") 1 1, refl, refl),
  (
    inr (inl (omega arith, refl), ((refl, refl), tt)),
    (slot 3 (codes "HL") 1 1, refl, refl),
    (
      inl (refl, inr (inl (omega arith, refl), tt)),
      (ref, refl, refl),
      (
        inl (refl, inr (inl (omega arith, refl), ((refl, refl), tt))),
        (slot 6 (codes "N1") 1 1, refl, refl),
        (
          inl (refl, inl (refl, inr (inl (omega arith, refl), tt))),
          (slot 7 (codes "N3") 0 0, refl, refl),
          (
            inr (inr (refl, refl, tt), ((refl, refl), tt)),
            (slot 3 (codes "HL") 1 1, refl, refl),
            (
              inl (refl, inr (inl (omega arith, refl), tt)),
              (ref, refl, refl),
              (
                inl (refl, inr (inr (refl, refl, omega arith), tt)),
                (ref, refl, refl),
                (
                  inl (refl, inr (inr (refl, refl, omega arith), tt)),
                  (ref, refl, refl),
                  (
                    (λ q m f. no_place (alone (codes "AMT")) shipment q no_amt f),
                    (
                      (λ q m f. no_place other_ref shipment q no_other_ref f),
                      (
                        no_second_bsn,
                        (
                          (λ q m f. no_place (alone (codes "Q9")) shipment q no_q9 f),
                          (
                            inr (inr (refl, refl, tt), ((refl, refl), tt)),
                            (slot 3 (codes "HL") 1 1, refl, refl),
                            tt,
                          ),
                        ),
                      ),
                    ),
                  ),
                ),
              ),
            ),
          ),
        ),
      ),
    ),
  ),
)

-- Where what is missing is reported, and nowhere else: REF of the first HL at N1; N1 of it after its own places, at the next HL; N1 of
-- the second HL after the strays, at the third; and what the third lacks at the end.
abbrev IsAt : (parent : Place) → (child position : ℕ) → Type 0
IsAt parent child position = IsReportedAt given 16 parent child position
    × ((other : ℕ) → IsReportedAt given 16 parent child other → other ≡ position)

ref_of_the_first : IsAt (level 0) 1 5
ref_of_the_first = (reported_there given 16 (level 0) 1, reported_once given 16 (level 0) 1)

parties_of_the_first : IsAt (level 0) 2 7
parties_of_the_first = (reported_there given 16 (level 0) 2, reported_once given 16 (level 0) 2)

address_of_the_first : IsAt party 1 7
address_of_the_first = (reported_there given 16 party 1, reported_once given 16 party 1)

parties_of_the_second : IsAt (level 1) 2 15
parties_of_the_second = (reported_there given 16 (level 1) 2, reported_once given 16 (level 1) 2)

ref_of_the_third : IsAt (level 2) 1 16
ref_of_the_third = (reported_there given 16 (level 2) 1, reported_once given 16 (level 2) 1)

-- one REF in the first HL, where two are needed
one_ref_too_few : IsStructureFault shipment_guide body given 16 (fault_at 5 (codes "REF") (codes "HL") ik304.SegmentTooSeldom 4)
one_ref_too_few = inr (inl (record {
  parent = level 0;
  child = 1;
  node = segment ref;
  position = 5;
  code = ik304.SegmentTooSeldom;
  repetition = has_is given (level 0) refl;
  there = refl;
  needed = omega arith;
  cases = inr (has_is given (use_of 1 0 ∷ use_of 1 0 ∷ []) refl, has_not given (use_of 1 0 ∷ use_of 1 1 ∷ []) refl, refl);
  reported = ref_of_the_first.0;
  is = refl;
}))

one_party_too_few : IsStructureFault shipment_guide body given 16 (fault_at 7 (codes "N1") (codes "N1") ik304.LoopTooSeldom 5)
one_party_too_few = inr (inl (record {
  parent = level 0;
  child = 2;
  node = parties;
  position = 7;
  code = ik304.LoopTooSeldom;
  repetition = has_is given (level 0) refl;
  there = refl;
  needed = omega arith;
  cases = inr (has_is given (use_of 1 0 ∷ use_of 2 0 ∷ []) refl, has_not given (use_of 1 0 ∷ use_of 2 1 ∷ []) refl, refl);
  reported = parties_of_the_first.0;
  is = refl;
}))

no_ref_in_the_third : IsStructureFault shipment_guide body given 16 (fault_at 16 (codes "REF") (codes "HL") ik304.RequiredSegmentMissing 4)
no_ref_in_the_third = inr (inl (record {
  parent = level 2;
  child = 1;
  node = segment ref;
  position = 16;
  code = ik304.RequiredSegmentMissing;
  repetition = has_is given (level 2) refl;
  there = refl;
  needed = omega arith;
  cases = inl (has_not given (use_of 1 2 ∷ use_of 1 0 ∷ []) refl, refl);
  reported = ref_of_the_third.0;
  is = refl;
}))

address_not_used : IsStructureFault shipment_guide body given 16 (fault_at 6 (codes "N3") (codes "N1") ik304.NotUsedPresent 7)
address_not_used = inl (record {
  parent = party;
  child = 1;
  use_no = 0;
  node = address;
  index = 4;
  there = refl;
  past = omega arith;
  first = first_begun (use_of 1 0 ∷ use_of 2 0 ∷ use_of 1 0 ∷ []) given 4 refl;
  is = refl;
})

third_ref_too_often : IsStructureFault shipment_guide body given 16 (fault_at 10 (codes "REF") (codes "HL") ik304.SegmentTooOften 4)
third_ref_too_often = inl (record {
  parent = level 1;
  child = 1;
  use_no = 2;
  node = segment ref;
  index = 8;
  there = refl;
  past = omega arith;
  first = first_begun (use_of 1 1 ∷ use_of 1 2 ∷ []) given 8 refl;
  is = refl;
})

third_level_too_often : IsStructureFault shipment_guide body given 16 (fault_at 15 (codes "HL") (codes "HL") ik304.LoopTooOften 2)
third_level_too_often = inl (record {
  parent = [];
  child = 1;
  use_no = 2;
  node = levels;
  index = 13;
  there = refl;
  past = omega arith;
  first = first_begun (level 2) given 13 refl;
  is = refl;
})

not_in_set : IsStructureFault shipment_guide body given 16 (fault_at 11 (codes "AMT") [] ik304.NotInSet 0)
not_in_set = inr (inr (record { index = 9; segment = alone (codes "AMT"); there = refl; unplaced = refl; is = refl }))

unexpected : IsStructureFault shipment_guide body given 16 (fault_at 12 (codes "REF") [] ik304.UnexpectedSegment 0)
unexpected = inr (inr (record { index = 10; segment = other_ref; there = refl; unplaced = refl; is = refl }))

out_of_sequence : IsStructureFault shipment_guide body given 16 (fault_at 13 (codes "BSN") [] ik304.OutOfSequence 0)
out_of_sequence = inr (inr (record { index = 11; segment = alone (codes "BSN"); there = refl; unplaced = refl; is = refl }))

unrecognized : IsStructureFault shipment_guide body given 16 (fault_at 14 (codes "Q9") [] ik304.UnrecognizedSegment 0)
unrecognized = inr (inr (record { index = 12; segment = alone (codes "Q9"); there = refl; unplaced = refl; is = refl }))
