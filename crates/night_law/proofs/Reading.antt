-- The responses that are read in the segments of an acknowledgment.
use Rattle.std.proofs.Common.{◌≡◌, ℕ, zero, suc, ◌+◌, Bool, true, false, List, [], ◌∷◌, ◌++◌, map, length, refl, ap, ◌∙◌}
use Rattle.std.proofs.Common.{append_assoc}
use Rattle.std.specs.Prelude.{codes, slice_index_or, if◌then◌else◌}
use Rattle.std.specs.List.{flat_map}
use Rattle.std.proofs.lemmas.List.{map-append}
use Rattle.x12_bytes.specs.declared.delims.Delims.{Delims}
use Rattle.x12_write.specs.Segment.{WrittenSegment, before_rest, segment, trimmed}
use Rattle.hub_kinds.specs.Words.{set_code_text, verdict_text}
use Rattle.hub_kinds.specs.declared.answers.GroupAnswer.{GroupAnswer}
use Rattle.hub_kinds.specs.declared.answers.SetAnswer.{SetAnswer}
use Rattle.ack_999.specs.Faults.{ElementNote, Note, SegmentNote, fault_segments, note_segment, notes}
use Rattle.ack_999.specs.Group.{totals_of}
use Rattle.ack_999.specs.ReadBack.{written_parts}
use Rattle.ack_999.specs.Report.{convention_text, group_response, head_segments, segments_999, set_loops, set_response, set_segments}
use Rattle.ack_999.specs.Report.{set_trailer, shows_sets}
use Rattle.night_law.specs.Responses.{Response, responses_behind}

-- trailing empty elements are read as if they stood there
front_at : (x : List ℕ) (rest : List (List ℕ)) (n : ℕ) → slice_index_or (before_rest x rest) n [] ≡ slice_index_or (x ∷ rest) n []
front_at [] [] zero = refl
front_at [] [] (suc n) = refl
front_at [] (y ∷ ys) n = refl
front_at (b ∷ bs) rest n = refl

pub trimmed_at : (xs : List (List ℕ)) (n : ℕ) → slice_index_or (trimmed xs) n [] ≡ slice_index_or xs n []
trimmed_at [] n = refl
trimmed_at (x ∷ xs) zero = front_at x (trimmed xs) zero
trimmed_at (x ∷ xs) (suc n) = front_at x (trimmed xs) (suc n) ∙ trimmed_at xs n

-- what is read of a set
abbrev pub response_of : SetAnswer → Response
response_of s = record { identifier = s.identifier; control = s.control; code = verdict_text s.verdict }

-- the later segments give these, whatever stood before
abbrev pub Gives : List (List (List ℕ)) → List Response → Type 0
Gives ss rs = (i c : List ℕ) → responses_behind i c ss ≡ rs

-- an IK3 or IK4 is passed over
past_note : (d : Delims) (note : Note) (i c : List ℕ) (ss : List (List (List ℕ)))
    → responses_behind i c (written_parts (note_segment d note) ∷ ss) ≡ responses_behind i c ss
past_note d (SegmentNote f) i c ss = refl
past_note d (ElementNote e) i c ss = refl

past_notes : (d : Delims) (list : List Note) (i c : List ℕ) (ss : List (List (List ℕ)))
    → responses_behind i c (map written_parts (map (note_segment d) list) ++ ss) ≡ responses_behind i c ss
past_notes d [] i c ss = refl
past_notes d (note ∷ list) i c ss =
    past_note d note i c (map written_parts (map (note_segment d) list) ++ ss) ∙ past_notes d list i c ss

one_read : (d : Delims) (s : SetAnswer) (ss : List (List (List ℕ))) (rs : List Response) → Gives ss rs
    → Gives (map written_parts (set_segments d s) ++ ss) (response_of s ∷ rs)
one_read d s ss rs gives i c =
    let ak2 : List (List ℕ) = s.identifier ∷ s.control ∷ convention_text s.convention ∷ [] in
    let ik5 : List (List ℕ) = verdict_text s.verdict ∷ map set_code_text s.codes in
    let first : WrittenSegment = segment (codes "AK2") ak2 in
    let faults : List (List (List ℕ)) = map written_parts (fault_segments d s.faults) in
    let last : List (List ℕ) = written_parts (set_response s) in
    let one : List ℕ = slice_index_or (trimmed ak2) 0 [] in
    let two : List ℕ = slice_index_or (trimmed ak2) 1 [] in
    let split : map written_parts (set_segments d s) ++ ss ≡ written_parts first ∷ (faults ++ (last ∷ ss)) =
    ap (λ (xs : List (List (List ℕ))). xs ++ ss) (map-append written_parts (first ∷ fault_segments d s.faults) (set_response s ∷ []))
    ∙ append_assoc (written_parts first ∷ faults) (last ∷ []) ss in
    let made : List Response → (i c v : List ℕ) → List Response = λ rest i c v.
    (let r : Response = record { identifier = i; control = c; code = v } in r) ∷ rest in
    ap (responses_behind i c) split
    ∙ past_notes d (notes s.faults) one two (last ∷ ss)
    ∙ ap (λ (rest : List Response). made rest one two (slice_index_or (trimmed ik5) 0 [])) (gives one two)
    ∙ ap (λ (x : List ℕ). made rs x two (slice_index_or (trimmed ik5) 0 [])) (trimmed_at ak2 0)
    ∙ ap (λ (x : List ℕ). made rs s.identifier x (slice_index_or (trimmed ik5) 0 [])) (trimmed_at ak2 1)
    ∙ ap (λ (x : List ℕ). made rs s.identifier s.control x) (trimmed_at ik5 0)

all_read : (d : Delims) (sets : List SetAnswer) (ss : List (List (List ℕ))) (rs : List Response) → Gives ss rs
    → Gives (map written_parts (flat_map (set_segments d) sets) ++ ss) (map response_of sets ++ rs)
all_read d [] ss rs gives = gives
all_read d (s ∷ sets) ss rs gives = λ i c.
    ap (λ (xs : List (List (List ℕ))). responses_behind i c (xs ++ ss))
    (map-append written_parts (set_segments d s) (flat_map (set_segments d) sets))
    ∙ ap (responses_behind i c)
    (append_assoc (map written_parts (set_segments d s)) (map written_parts (flat_map (set_segments d) sets)) ss)
    ∙ one_read d s (map written_parts (flat_map (set_segments d) sets) ++ ss) (map response_of sets ++ rs)
    (all_read d sets ss rs gives) i c

-- the responses to sets, where they are shown
abbrev pub shown_responses : Bool → List SetAnswer → List Response
shown_responses shown sets = if shown then map response_of sets else []

loops_read : (shown : Bool) (d : Delims) (sets : List SetAnswer) (ss : List (List (List ℕ))) (rs : List Response) → Gives ss rs
    → Gives (map written_parts (if shown then flat_map (set_segments d) sets else []) ++ ss) (shown_responses shown sets ++ rs)
loops_read true d sets ss rs gives = all_read d sets ss rs gives
loops_read false d sets ss rs gives = gives

-- the segments of a 999 give the responses to its sets
pub report_read : (d : Delims) (g : GroupAnswer) (sets : List SetAnswer) (n : ℕ) (ss : List (List (List ℕ))) (rs : List Response)
    → Gives ss rs
    → Gives (map written_parts (segments_999 d g sets n) ++ ss) (shown_responses (shows_sets g.codes) sets ++ rs)
report_read d g sets n ss rs gives = λ i c.
    let loops : List WrittenSegment = set_loops d g sets in
    let response : WrittenSegment = group_response g (totals_of sets) in
    let inner : List WrittenSegment = head_segments g n ++ loops ++ response ∷ [] in
    let trailer : WrittenSegment = set_trailer (length inner + 1) n in
    let w : List WrittenSegment → List (List (List ℕ)) = map written_parts in
    let split : w (segments_999 d g sets n) ++ ss
    ≡ w (head_segments g n) ++ (w loops ++ (written_parts response ∷ (written_parts trailer ∷ ss))) =
    ap (λ (xs : List (List (List ℕ))). xs ++ ss) (map-append written_parts inner (trailer ∷ [])
    ∙ ap (λ (xs : List (List (List ℕ))). xs ++ w (trailer ∷ [])) (map-append written_parts (head_segments g n ++ loops) (response ∷ [])
    ∙ ap (λ (xs : List (List (List ℕ))). xs ++ w (response ∷ [])) (map-append written_parts (head_segments g n) loops)))
    ∙ append_assoc ((w (head_segments g n) ++ w loops) ++ w (response ∷ [])) (w (trailer ∷ [])) ss
    ∙ append_assoc (w (head_segments g n) ++ w loops) (w (response ∷ [])) (written_parts trailer ∷ ss)
    ∙ append_assoc (w (head_segments g n)) (w loops) (written_parts response ∷ (written_parts trailer ∷ ss)) in
    ap (responses_behind i c) split
    ∙ loops_read (shows_sets g.codes) d sets (written_parts response ∷ (written_parts trailer ∷ ss)) rs (λ a b. gives a b) i c
