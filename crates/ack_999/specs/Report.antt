-- 999 guide (005010X231), implementation acknowledgment: its segments and its text.
use Rattle.std.specs.Prelude.{ℕ, ◌≡◌, ◌+◌, Bool, true, false, not, unwrap_or, if◌then◌else◌}
use Rattle.std.specs.Prelude.{List, [], ◌∷◌, ◌++◌, length, map, codes, decimal}
use Rattle.std.specs.List.{flat_map, list_any}
use Rattle.x12_bytes.specs.declared.delims.Delims.{Delims}
use Rattle.hub_kinds.specs.declared.answers.GroupAnswer.{GroupAnswer}
use Rattle.hub_kinds.specs.declared.answers.SetAnswer.{SetAnswer}
use Rattle.hub_kinds.specs.declared.limits.TheConstants.{MOST_COUNT_DIGITS}
use Rattle.hub_kinds.specs.declared.set_codes.GroupCode.{GroupCode}
use Rattle.hub_kinds.specs.declared.set_codes.GroupCode.TheVariants as code
use Rattle.hub_kinds.specs.Words.{set_code_text, group_code_text, verdict_text, group_verdict_text, number_of, is_word}
use Rattle.ack_999.specs.declared.totals.Totals.{Totals}
use Rattle.x12_write.specs.Segment.{WrittenSegment, segment, segments_text}
use Rattle.x12_write.specs.Number.{set_number}
use Rattle.ack_999.specs.Faults.{fault_segments}
use Rattle.ack_999.specs.Group.{totals_of, received_sets, set_segment_count}

-- ST and AK1
abbrev pub head_segments : GroupAnswer → ℕ → List WrittenSegment
head_segments g n =
    segment (codes "ST") (codes "999" ∷ set_number n ∷ codes "005010X231" ∷ [])
    ∷ segment (codes "AK1") (g.functional_id ∷ g.control ∷ g.version ∷ [])
    ∷ []

-- AK203: ST03 where it is 1 to 35 letters or digits
abbrev pub convention_text : List ℕ → List ℕ
convention_text convention = if is_word 1 35 convention then convention else []

abbrev pub set_response : SetAnswer → WrittenSegment
set_response s = segment (codes "IK5") (verdict_text s.verdict ∷ map set_code_text s.codes)

-- AK2, the set's faults, IK5
abbrev pub set_segments : Delims → SetAnswer → List WrittenSegment
set_segments d s =
    segment (codes "AK2") (s.identifier ∷ s.control ∷ convention_text s.convention ∷ [])
    ∷ fault_segments d s.faults
    ++ set_response s ∷ []

-- a group that isn't supported, or not in its version, shows no set
abbrev pub hides_sets : GroupCode → Bool
hides_sets code.NotSupported = true
hides_sets code.VersionNotSupported = true
hides_sets code.TrailerMissing = false
hides_sets code.ControlNumbersDiffer = false
hides_sets code.SetCountWrong = false
hides_sets code.ControlNumberNotUnique = false

abbrev pub shows_sets : List GroupCode → Bool
shows_sets group_codes = not (list_any hides_sets group_codes)

abbrev pub set_loops : Delims → GroupAnswer → List SetAnswer → List WrittenSegment
set_loops d g sets = if shows_sets g.codes then flat_map (set_segments d) sets else []

-- AK902: GE01 as a number where it is 1 to 6 digits, otherwise the number of sets
abbrev pub listed_sets : List ℕ → Totals → ℕ
listed_sets listed t = unwrap_or (number_of MOST_COUNT_DIGITS listed) (received_sets t)

-- AK904: the number of sets that are accepted, with or without errors; none of a group with a code
abbrev pub accepted_sets : List GroupCode → Totals → ℕ
accepted_sets [] t = t.accepted + t.accepted_with_errors
accepted_sets (_ ∷ _) t = 0

abbrev pub group_response : GroupAnswer → Totals → WrittenSegment
group_response g t =
    segment (codes "AK9")
    (group_verdict_text g.verdict
    ∷ decimal (listed_sets g.listed t) ∷ decimal (received_sets t) ∷ decimal (accepted_sets g.codes t)
    ∷ map group_code_text g.codes)

abbrev pub set_trailer : ℕ → ℕ → WrittenSegment
set_trailer count n = segment (codes "SE") (decimal count ∷ set_number n ∷ [])

-- the segments of the acknowledgment of a group; SE01 is how many they are, from ST to SE
abbrev pub segments_999 : Delims → GroupAnswer → List SetAnswer → ℕ → List WrittenSegment
segments_999 d g sets n =
    let inner = head_segments g n ++ set_loops d g sets ++ group_response g (totals_of sets) ∷ [] in
    inner ++ set_trailer (length inner + 1) n ∷ []

-- the acknowledgment of a group
abbrev pub text_999 : Delims → GroupAnswer → List SetAnswer → ℕ → List ℕ
text_999 d g sets n = segments_text d (segments_999 d g sets n)

-- its parts, as they are written one after the other
abbrev pub head_text : Delims → GroupAnswer → ℕ → List ℕ
head_text d g n = segments_text d (head_segments g n)

abbrev pub set_text : Delims → SetAnswer → List ℕ
set_text d s = segments_text d (set_segments d s)

-- ST, AK1, AK9, SE, and those of the sets that are shown
abbrev pub segment_count : GroupAnswer → Totals → ℕ
segment_count g t = if shows_sets g.codes then set_segment_count t + 4 else 4

abbrev pub tail_text : Delims → GroupAnswer → Totals → ℕ → List ℕ
tail_text d g t n = segments_text d (group_response g t ∷ set_trailer (segment_count g t) n ∷ [])

abbrev pub sets_text : Delims → GroupAnswer → List SetAnswer → List ℕ
sets_text d g sets = if shows_sets g.codes then flat_map (set_text d) sets else []

-- after the head and the sets of an acknowledgment, what is appended completes it
abbrev pub Completes : Delims → GroupAnswer → Totals → ℕ → List ℕ → List ℕ → Type 0
Completes d g totals n old new =
    (before : List ℕ) (sets : List SetAnswer) → totals ≡ totals_of sets
    → old ≡ before ++ head_text d g n ++ sets_text d g sets
    → new ≡ before ++ text_999 d g sets n
