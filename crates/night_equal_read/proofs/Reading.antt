-- Texts that are segments, and the responses and TA1s that the definition reads in them.
use Rattle.std.proofs.Common.{◌≡◌, ◌≢◌, List, [], ◌∷◌, ◌++◌, ℕ, ◌+◌, map, drop, length, Bool, true, false, refl, sym, ap, ◌∙◌}
use Rattle.std.proofs.Common.{append_assoc, append-nil}
use Rattle.std.specs.Prelude.{All, bytes_eq, codes, filter, if◌then◌else◌, slice_index_or}
use Rattle.std.specs.List.{flat_map}
use Rattle.std.proofs.lemmas.List.{map-append}
use Rattle.std.proofs.lemmas.List.Concat.{flat_map-append}
use Rattle.std.proofs.lemmas.List.Elements.{All-append, All-cons, All-nil, filter-append}
use Rattle.x12_bytes.specs.declared.delims.Delims.{Delims}
use Rattle.x12_segs.specs.Words.{elements_of, views}
use Rattle.x12_write.specs.Segment.{WrittenSegment, segment, segment_text, segments_text, trimmed}
use Rattle.x12_write.specs.Undivided.{CanDivide}
use Rattle.hub_kinds.specs.Words.{set_code_text, verdict_text}
use Rattle.hub_kinds.specs.declared.answers.GroupAnswer.{GroupAnswer}
use Rattle.hub_kinds.specs.declared.answers.SetAnswer.{SetAnswer}
use Rattle.ack_999.specs.Faults.{ElementNote, Note, SegmentNote, fault_segments, note_segment, notes}
use Rattle.ack_999.specs.Group.{totals_of}
use Rattle.ack_999.specs.ReadBack.{IsQuotable, written_parts}
use Rattle.ack_999.specs.Report.{convention_text, group_response, head_segments, segments_999, set_loops, set_response, set_segments}
use Rattle.ack_999.specs.Report.{set_trailer, shows_sets, text_999}
use Rattle.ack_999.proofs.ForAbove.{IsReadable, readable-999, segments_text-reads_back}
use Rattle.night_law.proofs.ForAbove.{trimmed_at}
use Rattle.night_definition.specs.Segments.{Elements, element}
use Rattle.night_definition.specs.ReadBack.{Response, responses_after, segments_in}
use Rattle.night_equal.proofs.ForAbove.{segments_are}

-- the later segments give these responses, whatever AK2 was before
abbrev pub Gives : List Elements → List Response → Type 0
Gives ss rs = (ak2 : Elements) → responses_after ak2 ss ≡ rs

abbrev is_ta1 : Elements → Bool
is_ta1 s = bytes_eq (element 0 s) (codes "TA1")

abbrev pub ta1s_in : List Elements → List Elements
ta1s_in ss = map (drop 1) (filter is_ta1 ss)

ta1s_append : (xs ys : List Elements) → ta1s_in (xs ++ ys) ≡ ta1s_in xs ++ ta1s_in ys
ta1s_append xs ys = ap (map (drop 1)) (filter-append is_ta1 xs ys) ∙ map-append (drop 1) (filter is_ta1 xs) (filter is_ta1 ys)

-- a text is made of segments that are read again, with these responses and TA1s
pub record IsAck (d : Delims) (text : List ℕ) (rs : List Response) (ts : List Elements) : Type 0 where
  pub segs : List WrittenSegment
  pub is : text ≡ segments_text d segs
  pub readable : All (IsReadable d) segs
  pub gives : (ss : List Elements) (more : List Response) → Gives ss more → Gives (map written_parts segs ++ ss) (rs ++ more)
  pub ta1s : ta1s_in (map written_parts segs) ≡ ts

pub nothing : (d : Delims) → IsAck d [] [] []
nothing d = record { segs = []; is = refl; readable = All-nil (IsReadable d); gives = λ ss more gives. gives; ta1s = refl }

pub both : (d : Delims) (a b : List ℕ) (rs us : List Response) (ts vs : List Elements) → IsAck d a rs ts → IsAck d b us vs
    → IsAck d (a ++ b) (rs ++ us) (ts ++ vs)
both d a b rs us ts vs front back = record {
  segs = front.segs ++ back.segs;
  is = ap (λ (t : List ℕ). t ++ b) front.is ∙ ap (λ (t : List ℕ). segments_text d front.segs ++ t) back.is
      ∙ sym (flat_map-append (λ (s : WrittenSegment). segment_text d s.id s.elements) front.segs back.segs);
  readable = All-append (IsReadable d) front.segs back.segs front.readable back.readable;
  gives = λ ss more gives ak2.
      ap (λ (xs : List Elements). responses_after ak2 (xs ++ ss)) (map-append written_parts front.segs back.segs)
      ∙ ap (responses_after ak2) (append_assoc (map written_parts front.segs) (map written_parts back.segs) ss)
      ∙ front.gives (map written_parts back.segs ++ ss) (us ++ more) (back.gives ss more gives) ak2
      ∙ sym (append_assoc rs us more);
  ta1s = ap ta1s_in (map-append written_parts front.segs back.segs)
      ∙ ta1s_append (map written_parts front.segs) (map written_parts back.segs)
      ∙ ap (λ (xs : List Elements). xs ++ ta1s_in (map written_parts back.segs)) front.ta1s
      ∙ ap (λ (xs : List Elements). ts ++ xs) back.ta1s;
}

-- a segment that is neither AK2 nor IK5
pub other : (d : Delims) (s : WrittenSegment) (ts : List Elements) → IsReadable d s
    → ((ak2 : Elements) (ss : List Elements) → responses_after ak2 (written_parts s ∷ ss) ≡ responses_after ak2 ss)
    → ta1s_in (written_parts s ∷ []) ≡ ts → IsAck d (segment_text d s.id s.elements) [] ts
other d s ts readable past same = record {
  segs = s ∷ [];
  is = sym (append-nil (segment_text d s.id s.elements));
  readable = All-cons (IsReadable d) s [] readable (All-nil (IsReadable d));
  gives = λ ss more gives ak2. past ak2 ss ∙ gives ak2;
  ta1s = same;
}

-- read again, it has these responses, and these TA1s
module _ (d : Delims) (text : List ℕ) (rs : List Response) (ts : List Elements) (apart : d.element ≢ d.terminator)
    (ack : IsAck d text rs ts) where
  segments : segments_in d text ≡ map written_parts ack.segs
  segments =
      segments_are d text ∙ ap (λ (t : List ℕ). map elements_of (views t d)) ack.is
      ∙ segments_text-reads_back d ack.segs apart ack.readable

  pub responses_read : responses_after [] (segments_in d text) ≡ rs
  responses_read =
      let w : List Elements = map written_parts ack.segs in
      ap (responses_after []) (segments ∙ sym (append-nil w)) ∙ ack.gives [] [] (λ ak2. refl) [] ∙ append-nil rs

  pub ta1s_read : ta1s_in (segments_in d text) ≡ ts
  ta1s_read = ap ta1s_in segments ∙ ack.ta1s

-- what is read of a set
abbrev pub response_of : SetAnswer → Response
response_of s = (s.identifier, s.control, verdict_text s.verdict)

-- an IK3 or IK4 is passed over
past_note : (d : Delims) (note : Note) (ak2 : Elements) (ss : List Elements)
    → responses_after ak2 (written_parts (note_segment d note) ∷ ss) ≡ responses_after ak2 ss
past_note d (SegmentNote f) ak2 ss = refl
past_note d (ElementNote e) ak2 ss = refl

past_notes : (d : Delims) (list : List Note) (ak2 : Elements) (ss : List Elements)
    → responses_after ak2 (map written_parts (map (note_segment d) list) ++ ss) ≡ responses_after ak2 ss
past_notes d [] ak2 ss = refl
past_notes d (note ∷ list) ak2 ss =
    past_note d note ak2 (map written_parts (map (note_segment d) list) ++ ss) ∙ past_notes d list ak2 ss

one_read : (d : Delims) (s : SetAnswer) (ss : List Elements) (rs : List Response) → Gives ss rs
    → Gives (map written_parts (set_segments d s) ++ ss) (response_of s ∷ rs)
one_read d s ss rs gives ak2 =
    let opening : List (List ℕ) = s.identifier ∷ s.control ∷ convention_text s.convention ∷ [] in
    let closing : List (List ℕ) = verdict_text s.verdict ∷ map set_code_text s.codes in
    let first : WrittenSegment = segment (codes "AK2") opening in
    let faults : List Elements = map written_parts (fault_segments d s.faults) in
    let last : Elements = written_parts (set_response s) in
    let read : List (List ℕ) → ℕ → List ℕ = λ xs n. slice_index_or (trimmed xs) n [] in
    let split : map written_parts (set_segments d s) ++ ss ≡ written_parts first ∷ (faults ++ (last ∷ ss)) =
    ap (λ (xs : List Elements). xs ++ ss) (map-append written_parts (first ∷ fault_segments d s.faults) (set_response s ∷ []))
    ∙ append_assoc (written_parts first ∷ faults) (last ∷ []) ss in
    let made : List Response → (i c v : List ℕ) → List Response = λ rest i c v. (let r : Response = (i, c, v) in r) ∷ rest in
    ap (responses_after ak2) split
    ∙ past_notes d (notes s.faults) (written_parts first) (last ∷ ss)
    ∙ ap (λ (rest : List Response). made rest (read opening 0) (read opening 1) (read closing 0)) (gives (written_parts first))
    ∙ ap (λ (x : List ℕ). made rs x (read opening 1) (read closing 0)) (trimmed_at opening 0)
    ∙ ap (λ (x : List ℕ). made rs s.identifier x (read closing 0)) (trimmed_at opening 1)
    ∙ ap (λ (x : List ℕ). made rs s.identifier s.control x) (trimmed_at closing 0)

all_read : (d : Delims) (sets : List SetAnswer) (ss : List Elements) (rs : List Response) → Gives ss rs
    → Gives (map written_parts (flat_map (set_segments d) sets) ++ ss) (map response_of sets ++ rs)
all_read d [] ss rs gives = gives
all_read d (s ∷ sets) ss rs gives = λ ak2.
    ap (λ (xs : List Elements). responses_after ak2 (xs ++ ss))
    (map-append written_parts (set_segments d s) (flat_map (set_segments d) sets))
    ∙ ap (responses_after ak2)
    (append_assoc (map written_parts (set_segments d s)) (map written_parts (flat_map (set_segments d) sets)) ss)
    ∙ one_read d s (map written_parts (flat_map (set_segments d) sets) ++ ss) (map response_of sets ++ rs)
    (all_read d sets ss rs gives) ak2

-- the responses to sets, where they are shown
abbrev pub shown : Bool → List SetAnswer → List Response
shown b sets = if b then map response_of sets else []

loops_read : (b : Bool) (d : Delims) (sets : List SetAnswer) (ss : List Elements) (rs : List Response) → Gives ss rs
    → Gives (map written_parts (if b then flat_map (set_segments d) sets else []) ++ ss) (shown b sets ++ rs)
loops_read true d sets ss rs gives = all_read d sets ss rs gives
loops_read false d sets ss rs gives = gives

-- the segments of a 999 give the responses to its sets
report_gives : (d : Delims) (g : GroupAnswer) (sets : List SetAnswer) (n : ℕ) (ss : List Elements) (rs : List Response) → Gives ss rs
    → Gives (map written_parts (segments_999 d g sets n) ++ ss) (shown (shows_sets g.codes) sets ++ rs)
report_gives d g sets n ss rs gives = λ ak2.
    let loops : List WrittenSegment = set_loops d g sets in
    let response : WrittenSegment = group_response g (totals_of sets) in
    let inner : List WrittenSegment = head_segments g n ++ loops ++ response ∷ [] in
    let trailer : WrittenSegment = set_trailer (length inner + 1) n in
    let w : List WrittenSegment → List Elements = map written_parts in
    let split : w (segments_999 d g sets n) ++ ss
    ≡ w (head_segments g n) ++ (w loops ++ (written_parts response ∷ (written_parts trailer ∷ ss))) =
    ap (λ (xs : List Elements). xs ++ ss) (map-append written_parts inner (trailer ∷ [])
    ∙ ap (λ (xs : List Elements). xs ++ w (trailer ∷ [])) (map-append written_parts (head_segments g n ++ loops) (response ∷ [])
    ∙ ap (λ (xs : List Elements). xs ++ w (response ∷ [])) (map-append written_parts (head_segments g n) loops)))
    ∙ append_assoc ((w (head_segments g n) ++ w loops) ++ w (response ∷ [])) (w (trailer ∷ [])) ss
    ∙ append_assoc (w (head_segments g n) ++ w loops) (w (response ∷ [])) (written_parts trailer ∷ ss)
    ∙ append_assoc (w (head_segments g n)) (w loops) (written_parts response ∷ (written_parts trailer ∷ ss)) in
    ap (responses_after ak2) split
    ∙ loops_read (shows_sets g.codes) d sets (written_parts response ∷ (written_parts trailer ∷ ss)) rs (λ a. gives a) ak2

-- these segments have no TA1
abbrev IsSilent : List WrittenSegment → Type 0
IsSilent segs = ta1s_in (map written_parts segs) ≡ []

both_silent : (xs ys : List WrittenSegment) → IsSilent xs → IsSilent ys → IsSilent (xs ++ ys)
both_silent xs ys front back =
    ap ta1s_in (map-append written_parts xs ys) ∙ ta1s_append (map written_parts xs) (map written_parts ys)
    ∙ ap (λ (ts : List Elements). ts ++ ta1s_in (map written_parts ys)) front ∙ back

note_silent : (d : Delims) (note : Note) → IsSilent (note_segment d note ∷ [])
note_silent d (SegmentNote f) = refl
note_silent d (ElementNote e) = refl

notes_silent : (d : Delims) (list : List Note) → IsSilent (map (note_segment d) list)
notes_silent d [] = refl
notes_silent d (note ∷ list) =
    both_silent (note_segment d note ∷ []) (map (note_segment d) list) (note_silent d note) (notes_silent d list)

set_silent : (d : Delims) (s : SetAnswer) → IsSilent (set_segments d s)
set_silent d s = both_silent (fault_segments d s.faults) (set_response s ∷ []) (notes_silent d (notes s.faults)) refl

sets_silent : (b : Bool) (d : Delims) (sets : List SetAnswer) → IsSilent (if b then flat_map (set_segments d) sets else [])
sets_silent false d sets = refl
sets_silent true d [] = refl
sets_silent true d (s ∷ sets) =
    both_silent (set_segments d s) (flat_map (set_segments d) sets) (set_silent d s) (sets_silent true d sets)

report_silent : (d : Delims) (g : GroupAnswer) (sets : List SetAnswer) (n : ℕ) → IsSilent (segments_999 d g sets n)
report_silent d g sets n =
    let loops : List WrittenSegment = set_loops d g sets in
    let response : List WrittenSegment = group_response g (totals_of sets) ∷ [] in
    both_silent (head_segments g n ++ loops ++ response) _
    (both_silent (head_segments g n ++ loops) response
    (both_silent (head_segments g n) loops refl (sets_silent (shows_sets g.codes) d sets)) refl) refl

-- a 999
pub report : (d : Delims) (g : GroupAnswer) (sets : List SetAnswer) (n : ℕ) → CanDivide d → IsQuotable d g sets
    → IsAck d (text_999 d g sets n) (shown (shows_sets g.codes) sets) []
report d g sets n can quotable = record {
  segs = segments_999 d g sets n;
  is = refl;
  readable = readable-999 d g sets n can quotable;
  gives = λ ss more gives. report_gives d g sets n ss more gives;
  ta1s = report_silent d g sets n;
}
