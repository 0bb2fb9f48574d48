-- A 999 has no TA1, and a TA1 that is written is read again.
use Rattle.std.proofs.Common.{◌≡◌, ℕ, Bool, true, false, List, [], ◌∷◌, ◌++◌, map, refl, ap, ◌∙◌}
use Rattle.std.specs.Prelude.{Some, slice_index_or, if◌then◌else◌}
use Rattle.std.specs.List.{flat_map}
use Rattle.std.proofs.lemmas.List.{map-append}
use Rattle.std.proofs.lemmas.List.Concat.{flat_map-append}
use Rattle.x12_bytes.specs.Header.{field_of}
use Rattle.x12_bytes.specs.declared.delims.Delims.{Delims}
use Rattle.x12_write.specs.Segment.{WrittenSegment, trimmed}
use Rattle.hub_kinds.specs.Words.{acknowledgment_code}
use Rattle.hub_kinds.specs.declared.answers.GroupAnswer.{GroupAnswer}
use Rattle.hub_kinds.specs.declared.answers.SetAnswer.{SetAnswer}
use Rattle.ack_999.specs.Faults.{ElementNote, Note, SegmentNote, fault_segments, note_segment, notes}
use Rattle.ack_999.specs.Group.{totals_of}
use Rattle.ack_999.specs.ReadBack.{written_parts}
use Rattle.ack_999.specs.Report.{group_response, head_segments, segments_999, set_loops, set_response, set_segments, shows_sets}
use Rattle.night_law.specs.Ta1sRead.{Ta1, ta1s_among, ta1s_by, ta1s_of}
use Rattle.night_law.proofs.Enveloping.{ta1, ta1_elements}
use Rattle.night_law.proofs.Reading.{trimmed_at}

-- these segments have no TA1
abbrev IsSilent : List WrittenSegment → Type 0
IsSilent segs = ta1s_among (map written_parts segs) ≡ []

both_silent : (xs ys : List WrittenSegment) → IsSilent xs → IsSilent ys → IsSilent (xs ++ ys)
both_silent xs ys front back =
    ap ta1s_among (map-append written_parts xs ys)
    ∙ flat_map-append ta1s_of (map written_parts xs) (map written_parts ys)
    ∙ ap (λ (ts : List Ta1). ts ++ ta1s_among (map written_parts ys)) front
    ∙ back

note_silent : (d : Delims) (note : Note) → ta1s_of (written_parts (note_segment d note)) ≡ []
note_silent d (SegmentNote f) = refl
note_silent d (ElementNote e) = refl

notes_silent : (d : Delims) (list : List Note) → IsSilent (map (note_segment d) list)
notes_silent d [] = refl
notes_silent d (note ∷ list) =
    ap (λ (ts : List Ta1). ts ++ ta1s_among (map written_parts (map (note_segment d) list))) (note_silent d note)
    ∙ notes_silent d list

set_silent : (d : Delims) (s : SetAnswer) → IsSilent (set_segments d s)
set_silent d s = both_silent (fault_segments d s.faults) (set_response s ∷ []) (notes_silent d (notes s.faults)) refl

sets_silent : (d : Delims) (sets : List SetAnswer) → IsSilent (flat_map (set_segments d) sets)
sets_silent d [] = refl
sets_silent d (s ∷ sets) = both_silent (set_segments d s) (flat_map (set_segments d) sets) (set_silent d s) (sets_silent d sets)

loops_silent : (shown : Bool) (d : Delims) (sets : List SetAnswer) → IsSilent (if shown then flat_map (set_segments d) sets else [])
loops_silent true d sets = sets_silent d sets
loops_silent false d sets = refl

pub report_silent : (d : Delims) (g : GroupAnswer) (sets : List SetAnswer) (n : ℕ) → IsSilent (segments_999 d g sets n)
report_silent d g sets n =
    let loops : List WrittenSegment = set_loops d g sets in
    let response : List WrittenSegment = group_response g (totals_of sets) ∷ [] in
    both_silent (head_segments g n ++ loops ++ response) _
    (both_silent (head_segments g n ++ loops) response
    (both_silent (head_segments g n) loops refl (loops_silent (shows_sets g.codes) d sets)) refl) refl

abbrev made : (control date time code note : List ℕ) → List Ta1
made control date time code note = record { control = control; date = date; time = time; code = code; note = note } ∷ []

-- what is left off at the end of a TA1 is read as if it stood there
pub ta1_said : (header note : List ℕ) → ta1s_of (written_parts (ta1 header note)) ≡ ta1s_by header (Some note)
ta1_said header note =
    let elements : List (List ℕ) = ta1_elements header note in
    let read : ℕ → List ℕ = λ n. slice_index_or (trimmed elements) n [] in
    let control : List ℕ = field_of header 13 in
    let date : List ℕ = field_of header 9 in
    let time : List ℕ = field_of header 10 in
    ap (λ (x : List ℕ). made x (read 1) (read 2) (read 3) (read 4)) (trimmed_at elements 0)
    ∙ ap (λ (x : List ℕ). made control x (read 2) (read 3) (read 4)) (trimmed_at elements 1)
    ∙ ap (λ (x : List ℕ). made control date x (read 3) (read 4)) (trimmed_at elements 2)
    ∙ ap (λ (x : List ℕ). made control date time x (read 4)) (trimmed_at elements 3)
    ∙ ap (λ (x : List ℕ). made control date time (acknowledgment_code note) x) (trimmed_at elements 4)
