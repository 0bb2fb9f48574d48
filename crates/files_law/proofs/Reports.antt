-- 999 guide (005010X231): a 999, as a whole set.
use Rattle.std.proofs.Common.{◌≡◌, ℕ, ◌≤◌, ◌+◌, Bool, true, false, List, [], ◌∷◌, ◌++◌, length, map, refl, ap, subst, ◌∙◌, arith}
use Rattle.std.specs.Prelude.{◌&&◌, codes, if◌then◌else◌}
use Rattle.std.specs.List.{All, flat_map, list_all}
use Rattle.std.proofs.lemmas.Bool.{and_from}
use Rattle.std.proofs.lemmas.List.{map-append}
use Rattle.std.proofs.lemmas.List.Elements.{All-append, All-cons, All-head, All-nil, All-tail, All-weaker}
use Rattle.x12_bytes.specs.declared.delims.Delims.{Delims}
use Rattle.hub_kinds.specs.Words.{is_word}
use Rattle.hub_kinds.specs.declared.answers.GroupAnswer.{GroupAnswer}
use Rattle.hub_kinds.specs.declared.answers.SetAnswer.{SetAnswer}
use Rattle.x12_segs.specs.Words.{may_stand_in_set, kind_by_id, part_or_empty}
use Rattle.x12_write.specs.Number.{set_number}
use Rattle.x12_write.specs.Segment.{WrittenSegment, segment}
use Rattle.x12_write.specs.Undivided.{CanDivide}
use Rattle.ack_999.specs.Faults.{ElementNote, Note, SegmentNote, fault_segments, note_segment, notes}
use Rattle.ack_999.specs.Group.{totals_of}
use Rattle.ack_999.specs.ReadBack.{IsQuotable, written_parts}
use Rattle.ack_999.specs.Report.{group_response, head_segments, segments_999, set_loops, set_response, set_trailer, shows_sets, text_999}
use Rattle.ack_999.specs.Report as report
use Rattle.ack_999.proofs.ForAbove.{readable-999}
use Rattle.night_law.proofs.ForAbove.{trimmed_at}
use Rattle.files_law.specs.Whole.{Elements, IsWholeSet, WholeSet, kind_by, is_st, set_segments}
use Rattle.files_law.proofs.Digits.{padded_word}
use Rattle.files_law.proofs.Rows.{IsOther, IsRow, list_row}

-- a segment that may stand between ST and SE
pub record IsInner (s : WrittenSegment) : Type 0 where
  pub other : IsOther s
  pub inner : may_stand_in_set (kind_by_id s.id) ≡ true

note_inner : (d : Delims) (note : Note) → IsInner (note_segment d note)
note_inner d (SegmentNote f) = record { other = record { long = omega arith; other = refl }; inner = refl }
note_inner d (ElementNote e) = record { other = record { long = omega arith; other = refl }; inner = refl }

notes_inner : (d : Delims) (list : List Note) → All IsInner (map (note_segment d) list)
notes_inner d [] = All-nil IsInner
notes_inner d (note ∷ list) = All-cons IsInner (note_segment d note) (map (note_segment d) list) (note_inner d note) (notes_inner d list)

set_inner : (d : Delims) (s : SetAnswer) → All IsInner (report.set_segments d s)
set_inner d s =
    let last : List WrittenSegment = set_response s ∷ [] in
    let faults : List WrittenSegment = fault_segments d s.faults in
    let ak2 : WrittenSegment = segment (codes "AK2") (s.identifier ∷ s.control ∷ report.convention_text s.convention ∷ []) in
    All-cons IsInner ak2 (faults ++ last) (record { other = record { long = omega arith; other = refl }; inner = refl })
    (All-append IsInner faults last (notes_inner d (notes s.faults))
    (All-cons IsInner (set_response s) [] (record { other = record { long = omega arith; other = refl }; inner = refl }) (All-nil IsInner)))

sets_inner : (d : Delims) (sets : List SetAnswer) → All IsInner (flat_map (report.set_segments d) sets)
sets_inner d [] = All-nil IsInner
sets_inner d (s ∷ sets) =
    All-append IsInner (report.set_segments d s) (flat_map (report.set_segments d) sets) (set_inner d s) (sets_inner d sets)

loops_inner : (d : Delims) (sets : List SetAnswer) (b : Bool) → All IsInner (if b then flat_map (report.set_segments d) sets else [])
loops_inner d sets true = sets_inner d sets
loops_inner d sets false = All-nil IsInner

kinds_inner : (segs : List WrittenSegment) → All IsInner segs → list_all (λ x. may_stand_in_set (kind_by x)) (map written_parts segs) ≡ true
kinds_inner [] all = refl
kinds_inner (s ∷ segs) all =
    and_from (may_stand_in_set (kind_by_id s.id)) (list_all (λ x. may_stand_in_set (kind_by x)) (map written_parts segs))
    (All-head IsInner s segs all).inner
    (kinds_inner segs (All-tail IsInner s segs all))

module _ (d : Delims) (g : GroupAnswer) (sets : List SetAnswer) (n : ℕ) where
  abbrev st_elements : List (List ℕ)
  st_elements = codes "999" ∷ set_number n ∷ codes "005010X231" ∷ []

  abbrev st : WrittenSegment
  st = segment (codes "ST") st_elements

  abbrev ak1 : WrittenSegment
  ak1 = segment (codes "AK1") (g.functional_id ∷ g.control ∷ g.version ∷ [])

  abbrev middle : List WrittenSegment
  middle = ak1 ∷ (set_loops d g sets ++ group_response g (totals_of sets) ∷ [])

  abbrev se : WrittenSegment
  se = set_trailer (length (head_segments g n ++ set_loops d g sets ++ group_response g (totals_of sets) ∷ []) + 1) n

  middle_inner : All IsInner middle
  middle_inner =
      let response : WrittenSegment = group_response g (totals_of sets) in
      All-cons IsInner ak1 (set_loops d g sets ++ response ∷ [])
      (record { other = record { long = omega arith; other = refl }; inner = refl })
      (All-append IsInner (set_loops d g sets) (response ∷ []) (loops_inner d sets (shows_sets g.codes))
      (All-cons IsInner response [] (record { other = record { long = omega arith; other = refl }; inner = refl }) (All-nil IsInner)))

  abbrev pub report_set : WholeSet
  report_set = record { header = written_parts st; inner = map written_parts middle; trailer = written_parts se }

  others : All IsOther (segments_999 d g sets n)
  others =
      All-cons IsOther st (middle ++ se ∷ []) (record { long = omega arith; other = refl })
      (All-append IsOther middle (se ∷ []) (All-weaker IsInner IsOther (λ s is. is.other) middle middle_inner)
      (All-cons IsOther se [] (record { long = omega arith; other = refl }) (All-nil IsOther)))

  pub report_row : CanDivide d → IsQuotable d g sets → IsRow d (text_999 d g sets n) (set_segments report_set)
  report_row can quotable =
      subst (IsRow d (text_999 d g sets n)) (ap (λ (es : List Elements). written_parts st ∷ es) (map-append written_parts middle (se ∷ [])))
      (list_row d (segments_999 d g sets n) can (readable-999 d g sets n can quotable) others)

  st_is : n ≤ 999999999 → is_st (written_parts st) ≡ true
  st_is small =
      let f : List ℕ → List ℕ → Bool = λ a b. is_word 3 3 a && is_word 1 9 b in
      let two : List ℕ = part_or_empty (written_parts st) 2 in
      ap (λ (a : List ℕ). f a two) (trimmed_at st_elements 0)
      ∙ ap (λ (b : List ℕ). f (codes "999") b) (trimmed_at st_elements 1)
      ∙ and_from (is_word 3 3 (codes "999")) (is_word 1 9 (set_number n)) refl (padded_word n small)

  pub report_whole : n ≤ 999999999 → IsWholeSet report_set
  report_whole small = record { kind = refl; header = st_is small; inner = kinds_inner middle middle_inner; trailer = refl }
