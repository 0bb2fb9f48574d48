-- An interchange has no more groups, and a group no more sets, than the text has bytes: each has a segment of its own.
use Rattle.std.proofs.Common.{◌≡◌, ℕ, ◌+◌, ◌-◌, ◌≤◌, Bool, true, false, cond, List, [], ◌∷◌, length, map, suc, sym}
use Rattle.std.proofs.Common.{ap, subst, arith}
use Rattle.std.specs.List.{All, flat_map}
use Rattle.std.proofs.lemmas.List.{length-append, length-map}
use Rattle.std.proofs.lemmas.List.Elements.{All-cons}
use Rattle.hub_kinds.specs.declared.limits.TheConstants.{LONGEST_TEXT}
use Rattle.x12_bytes.specs.Header.{header_at, header_delims}
use Rattle.x12_bytes.specs.HeaderTest.{is_head}
use Rattle.x12_bytes.specs.declared.layout.TheConstants.{HEADER_LEN}
use Rattle.x12_segs.specs.Words.{Seg, segs_from, rest_from, SegValue, view_of, kind_of}
use Rattle.x12_segs.proofs.ForAbove.{StandInOrder, segs_in_order}
use Rattle.env_index.specs.Envelope.{InGroup, ASet, OutOfGroup, InBody, ATa1, AGroup, OutOfBody}
use Rattle.env_index.specs.Envelope.{option_items, set_items, in_group_items, group_items, in_body_items}
use Rattle.env_index.specs.Extents.{Reach, behind, onto_reach, ends_interchange, reach_of, reach_at}
use Rattle.env_index.specs.Index.{IsReadIn}
use Rattle.env_index.specs.Interchange.{InterchangeEntry}
use Rattle.env_index.specs.Placed.{AreFew}
use Rattle.env_index.specs.Summary.{GroupEntry, group_entry, sets_in, groups_in}

few_in_order : (from : ℕ) (segs : List Seg) (rest : Seg) (len : ℕ) → StandInOrder from segs rest len → length segs ≤ len - from
few_in_order from [] rest len order = omega arith
few_in_order from (seg ∷ segs) rest len order =
    let more = few_in_order (seg.start + length seg.bytes + 1) segs rest len order.1 in
    let inside = ends_inside (seg.start + length seg.bytes + 1) segs rest len order.1 in
    omega (arith, order.0, more, inside)
  where
    ends_inside : (from : ℕ) (segs : List Seg) (rest : Seg) (len : ℕ) → StandInOrder from segs rest len → from ≤ len
    ends_inside from [] rest len order = omega (arith, order.0, order.1)
    ends_inside from (seg ∷ segs) rest len order =
        omega (arith, order.0, ends_inside (seg.start + length seg.bytes + 1) segs rest len order.1)

few_reached : (text : List ℕ) (segs : List SegValue) (rest : Seg) → length (reach_of text segs rest).segs ≤ length segs
few_reached text [] rest = omega arith
few_reached text (seg ∷ segs) rest = by_tests (is_head text seg.start) (ends_interchange (kind_of seg)) (few_reached text segs rest)
  where
    by_tests : (a b : Bool) → length (reach_of text segs rest).segs ≤ length segs
        → length (cond a (let r : Reach = record { segs = []; end = seg.start } in r)
        (cond b (record { segs = seg ∷ []; end = behind seg }) (onto_reach seg (reach_of text segs rest)))).segs ≤ suc (length segs)
    by_tests true b more = omega arith
    by_tests false true more = omega arith
    by_tests false false more = omega (arith, more)

few_sets : (ms : List (InGroup SegValue)) → length (sets_in ms) ≤ length (flat_map in_group_items ms)
few_sets [] = omega arith
few_sets (ASet s ∷ ms) = omega (arith, length-append (set_items s) (flat_map in_group_items ms), few_sets ms)
few_sets (OutOfGroup x ∷ ms) = omega (arith, few_sets ms)

few_groups : (ms : List (InBody SegValue)) → length (groups_in ms) ≤ length (flat_map in_body_items ms)
few_groups [] = omega arith
few_groups (ATa1 x ∷ ms) = omega (arith, few_groups ms)
few_groups (AGroup g ∷ ms) = omega (arith, length-append (group_items g) (flat_map in_body_items ms), few_groups ms)
few_groups (OutOfBody x ∷ ms) = omega (arith, few_groups ms)

few_in_groups : (most : ℕ) (ms : List (InBody SegValue)) → length (flat_map in_body_items ms) ≤ most
    → All (λ group. length group.sets ≤ most) (groups_in ms)
few_in_groups most [] few = λ k d lt. absurd (omega (arith, lt))
few_in_groups most (ATa1 x ∷ ms) few = few_in_groups most ms (omega (arith, few))
few_in_groups most (AGroup g ∷ ms) few =
    let all = length-append (group_items g) (flat_map in_body_items ms) in
    let own = length-append (flat_map in_group_items g.members) (option_items g.trailer) in
    All-cons (λ (group : GroupEntry). length group.sets ≤ most) (group_entry g) (groups_in ms)
    (omega (arith, few, all, own, few_sets g.members)) (few_in_groups most ms (omega (arith, few, all)))
few_in_groups most (OutOfBody x ∷ ms) few = few_in_groups most ms (omega (arith, few))

few_segs : (text : List ℕ) (start : ℕ) → start + HEADER_LEN ≤ length text → length (reach_at text start).segs ≤ length text
few_segs text start inside =
    let from : ℕ = start + HEADER_LEN in
    let delims = header_delims (header_at text start) in
    let segs : List Seg = segs_from text delims.terminator from in
    let rest : Seg = rest_from text delims.terminator from in
    omega (
      arith,
      few_reached text (map (view_of delims) segs) rest,
      length-map segs (view_of delims),
      few_in_order from segs rest (length text) (segs_in_order text delims.terminator from inside),
    )

pub are_few : (text : List ℕ) (x : InterchangeEntry) → IsReadIn text x → is_head text x.start ≡ true → length text ≤ LONGEST_TEXT → AreFew x
are_few text x read head limit =
    let inside : x.start + HEADER_LEN ≤ length text = grind (arith, head) in
    let items = ap (λ (l : List SegValue). length l) read.derived.0 in
    let all = length-append (flat_map in_body_items read.tree.members) (option_items read.tree.trailer) in
    let few : length (flat_map in_body_items read.tree.members) ≤ LONGEST_TEXT
    = omega (arith, items, all, few_segs text x.start inside, limit) in
    subst AreFew (sym read.read) (record {
      groups = omega (arith, few_groups read.tree.members, few);
      sets = few_in_groups LONGEST_TEXT read.tree.members few;
    })
