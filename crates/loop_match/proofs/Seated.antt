-- The segments of a body that have places, as they are given: from the front, one after another; strays are passed over.
use Rattle.std.proofs.Common.{◌≡◌, ℕ, zero, suc, List, [], ◌∷◌, ◌++◌, length, map, Option, Some, None}
use Rattle.std.proofs.Common.{refl, sym, ap, ◌∙◌}
use Rattle.std.specs.Prelude.{option_map, slice_index_or}
use Rattle.std.proofs.lemmas.List.{map-append, append-nil, append_assoc}
use Rattle.guide_tree.specs.declared.slot.Slot.{Slot}
use Rattle.guide_tree.specs.Words.{Trees, Segment, Given, Place, slot_at}
use Rattle.loop_match.specs.LoopIds.{loop_id_of}
use Rattle.loop_match.specs.PlacedSegments.{PlacedSegment, placed_by, with_placed, placed_among_first, placed_segments, as_given}
use Rattle.loop_match.proofs.Standing.{stood}

abbrev pub with_slot : Segment → Option Slot → List Given
with_slot s None = []
with_slot s (Some slot) = (s, slot) ∷ []

-- a segment with the slot to which its place leads
abbrev pub seated_at : Trees → Segment → Option Place → List Given
seated_at ts s None = []
seated_at ts s (Some q) = with_slot s (slot_at ts q)

abbrev pub seated : Trees → List Segment → List (Option Place) → List Given
seated ts [] given = []
seated ts (s ∷ body) [] = []
seated ts (s ∷ body) (o ∷ given) = seated_at ts s o ++ seated ts body given

added_slot : (before : List PlacedSegment) (n : ℕ) (s : Segment) (loop_id : List ℕ) (o : Option Slot)
    → map as_given (with_placed before (option_map (stood n s loop_id) o)) ≡ map as_given before ++ with_slot s o
added_slot before n s loop_id None = sym (append-nil (map as_given before))
added_slot before n s loop_id (Some slot) = map-append as_given before (stood n s loop_id slot ∷ [])

added : (ts : Trees) (before : List PlacedSegment) (n : ℕ) (s : Segment) (o : Option Place)
    → map as_given (with_placed before (placed_by ts n s o)) ≡ map as_given before ++ seated_at ts s o
added ts before n s None = sym (append-nil (map as_given before))
added ts before n s (Some q) = added_slot before n s (loop_id_of ts q) (slot_at ts q)

-- those of a body are that of its first segment and those of the others
first_apart : (ts : Trees) (s : Segment) (body : List Segment) (o : Option Place) (given : List (Option Place)) (n : ℕ)
    → map as_given (placed_among_first ts (s ∷ body) (o ∷ given) (suc n))
    ≡ seated_at ts s o ++ map as_given (placed_among_first ts body given n)
first_apart ts s body o given zero = added ts [] 0 s o ∙ sym (append-nil (seated_at ts s o))
first_apart ts s body o given (suc n) =
    let one : List Given = seated_at ts (slice_index_or body n []) (slice_index_or given n None) in
    let behind : List PlacedSegment = placed_among_first ts body given n in
    added ts (placed_among_first ts (s ∷ body) (o ∷ given) (suc n)) (suc n) (slice_index_or body n []) (slice_index_or given n None)
    ∙ ap (λ (l : List Given). l ++ one) (first_apart ts s body o given n)
    ∙ append_assoc (seated_at ts s o) (map as_given behind) one
    ∙ ap (λ (l : List Given). seated_at ts s o ++ l)
    (sym (added ts behind n (slice_index_or body n []) (slice_index_or given n None)))

none_placed : (ts : Trees) (body : List Segment) (n : ℕ) → placed_among_first ts body [] n ≡ []
none_placed ts body zero = refl
none_placed ts body (suc n) =
    ap (λ (l : List PlacedSegment). with_placed l (placed_by ts n (slice_index_or body n []) None)) (none_placed ts body n)

pub placed_seated : (ts : Trees) (body : List Segment) (given : List (Option Place))
    → map as_given (placed_segments ts body given) ≡ seated ts body given
placed_seated ts [] given = refl
placed_seated ts (s ∷ body) [] = ap (map as_given) (none_placed ts (s ∷ body) (length (s ∷ body)))
placed_seated ts (s ∷ body) (o ∷ given) =
    first_apart ts s body o given (length body) ∙ ap (λ (l : List Given). seated_at ts s o ++ l) (placed_seated ts body given)
