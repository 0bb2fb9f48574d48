-- An acknowledgment's parts, put together.
use Rattle.std.proofs.Common.{◌≡◌, ℕ, ◌+◌, ◌*◌, Bool, true, false, List, [], ◌∷◌, ◌++◌, length, refl, sym, ap, ◌∙◌, arith, append_assoc}
use Rattle.std.proofs.Common.{length-append}
use Rattle.std.specs.Prelude.{codes, if◌then◌else◌}
use Rattle.std.specs.List.{flat_map, sum_by}
use Rattle.std.proofs.lemmas.List.{length-map}
use Rattle.std.proofs.lemmas.List.Concat.{flat_map-append}
use Rattle.std.proofs.lemmas.List.Sums.{sum_by-cons}
use Rattle.x12_bytes.specs.declared.delims.Delims.{Delims}
use Rattle.hub_kinds.specs.declared.answers.GroupAnswer.{GroupAnswer}
use Rattle.hub_kinds.specs.declared.answers.SetAnswer.{SetAnswer}
use Rattle.ack_999.specs.declared.totals.Totals.{Totals}
use Rattle.x12_write.specs.Segment.{WrittenSegment, segment, segment_text, segments_text}
use Rattle.ack_999.specs.Faults.{notes, note_segment, fault_segments}
use Rattle.ack_999.specs.Group.{totals_of, set_segment_count}
use Rattle.ack_999.specs.Report.{head_segments, convention_text, set_response, set_segments, set_loops, shows_sets, group_response}
use Rattle.ack_999.specs.Report.{set_trailer, segment_count, text_999, head_text, set_text, sets_text, tail_text}
use Rattle.ack_999.proofs.Verdicts.{received_sets-totals_of}

framed : {A : Type 0} (first last : A) (inner : List A) → length (first ∷ inner ++ last ∷ []) ≡ 2 + length inner
framed first last inner = let long = length-append inner (last ∷ []) in omega arith

-- a set has two segments, and those of its faults
length-set_segments-one : (d : Delims) (s : SetAnswer) → length (set_segments d s) ≡ 2 + length (notes s.faults)
length-set_segments-one d s =
    let first : WrittenSegment = segment (codes "AK2") (s.identifier ∷ s.control ∷ convention_text s.convention ∷ []) in
    framed first (set_response s) (fault_segments d s.faults)
    ∙ ap (λ (n : ℕ). 2 + n) (length-map (notes s.faults) (note_segment d))

length-set_segments : (d : Delims) (sets : List SetAnswer)
    → length (flat_map (set_segments d) sets) ≡ 2 * length sets + sum_by (λ s. length (notes s.faults)) sets
length-set_segments d [] = refl
length-set_segments d (s ∷ sets) =
    let rest = length-set_segments d sets in
    let one = length-set_segments-one d s in
    let both = length-append (set_segments d s) (flat_map (set_segments d) sets) in
    let sum = sum_by-cons (λ (s : SetAnswer). length (notes s.faults)) s sets in
    omega arith

-- the sets' segments are the sets' texts
segments_text-sets : (d : Delims) (sets : List SetAnswer)
    → segments_text d (flat_map (set_segments d) sets) ≡ flat_map (set_text d) sets
segments_text-sets d [] = refl
segments_text-sets d (s ∷ sets) =
    flat_map-append (λ t. segment_text d t.id t.elements) (set_segments d s) (flat_map (set_segments d) sets)
    ∙ ap (λ (rest : List ℕ). set_text d s ++ rest) (segments_text-sets d sets)

shown-text : (d : Delims) (sets : List SetAnswer) (b : Bool)
    → segments_text d (if b then flat_map (set_segments d) sets else []) ≡ (if b then flat_map (set_text d) sets else [])
shown-text d sets true = segments_text-sets d sets
shown-text d sets false = refl

shown-count : (d : Delims) (sets : List SetAnswer) (b : Bool)
    → length (if b then flat_map (set_segments d) sets else []) + 4 ≡ (if b then set_segment_count (totals_of sets) + 4 else 4)
shown-count d sets true =
    let long = length-set_segments d sets in let all = received_sets-totals_of sets in omega arith
shown-count d sets false = refl

-- texts in a row
joined : (f : WrittenSegment → List ℕ) (head loops : List WrittenSegment) (response trailer : WrittenSegment)
    → flat_map f head ++ flat_map f loops ++ flat_map f (response ∷ trailer ∷ [])
    ≡ flat_map f (head ++ loops ++ response ∷ [] ++ trailer ∷ [])
joined f head loops response trailer = simp (flat_map-append, append_assoc)

four : (first second last : WrittenSegment) (loops : List WrittenSegment)
    → length loops + 4 ≡ length ((first ∷ second ∷ []) ++ loops ++ last ∷ []) + 1
four first second last loops = let long = length-append loops (last ∷ []) in omega arith

-- SE01 is the number of the segments
pub counted : (d : Delims) (g : GroupAnswer) (sets : List SetAnswer) (n : ℕ)
    → segment_count g (totals_of sets) ≡ length (head_segments g n ++ set_loops d g sets ++ group_response g (totals_of sets) ∷ []) + 1
counted d g sets n =
    let last : WrittenSegment = group_response g (totals_of sets) in
    sym (shown-count d sets (shows_sets g.codes)) ∙ four last last last (set_loops d g sets)

-- head, sets and tail are the acknowledgment
pub text_999-parts : (d : Delims) (g : GroupAnswer) (sets : List SetAnswer) (n : ℕ)
    → head_text d g n ++ sets_text d g sets ++ tail_text d g (totals_of sets) n ≡ text_999 d g sets n
text_999-parts d g sets n =
    let t : Totals = totals_of sets in
    let inner : List WrittenSegment = head_segments g n ++ set_loops d g sets ++ group_response g t ∷ [] in
    ap (λ (s : List ℕ). head_text d g n ++ s ++ tail_text d g t n) (sym (shown-text d sets (shows_sets g.codes)))
    ∙ joined (λ s. segment_text d s.id s.elements) (head_segments g n) (set_loops d g sets) (group_response g t)
    (set_trailer (segment_count g t) n)
    ∙ ap (λ (k : ℕ). segments_text d (inner ++ set_trailer k n ∷ [])) (counted d g sets n)

-- after head and sets, the trailers complete the acknowledgment
pub text_999-completed : (d : Delims) (g : GroupAnswer) (sets : List SetAnswer) (n count : ℕ) (t : Totals)
    (before old answered new : List ℕ)
    → t ≡ totals_of sets → old ≡ before ++ head_text d g n ++ sets_text d g sets
    → answered ≡ old ++ segments_text d (group_response g t ∷ [])
    → count ≡ segment_count g t → new ≡ answered ++ segments_text d (set_trailer count n ∷ [])
    → new ≡ before ++ text_999 d g sets n
text_999-completed d g sets n count t before old answered new same is_old is_answered is_count is_new =
    let tail : tail_text d g t n ≡ segments_text d (group_response g t ∷ []) ++ segments_text d (set_trailer (segment_count g t) n ∷ []) =
    flat_map-append (λ s. segment_text d s.id s.elements) (group_response g t ∷ []) (set_trailer (segment_count g t) n ∷ []) in
    let end : new ≡ old ++ tail_text d g t n =
    is_new ∙ ap (λ (k : ℕ). answered ++ segments_text d (set_trailer k n ∷ [])) is_count
    ∙ ap (λ (s : List ℕ). s ++ segments_text d (set_trailer (segment_count g t) n ∷ [])) is_answered
    ∙ append_assoc old (segments_text d (group_response g t ∷ [])) (segments_text d (set_trailer (segment_count g t) n ∷ []))
    ∙ ap (λ (s : List ℕ). old ++ s) (sym tail) in
    end ∙ ap (λ (t : Totals). old ++ tail_text d g t n) same
    ∙ ap (λ (s : List ℕ). s ++ tail_text d g (totals_of sets) n) is_old
    ∙ regrouped before (head_text d g n) (sets_text d g sets) (tail_text d g (totals_of sets) n)
    ∙ ap (λ (s : List ℕ). before ++ s) (text_999-parts d g sets n)
  where
    regrouped : (a b c d : List ℕ) → a ++ b ++ c ++ d ≡ a ++ (b ++ c ++ d)
    regrouped a b c d = simp append_assoc
