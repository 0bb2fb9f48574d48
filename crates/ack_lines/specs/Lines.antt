-- Own: the lines that say in words what an acknowledgment reports (X12.5, TA1; 999 guide, AK1 to AK9): one for each TA1, for each group and
-- set that isn't accepted one a fault, and a last one of totals. The sentences are those of `src/sentences.rt`.
use Rattle.std.specs.Prelude.{ℕ, Bool, true, false, not, ◌==◌, ◌&&◌, List, [], ◌∷◌, ◌++◌, codes, decimal, if◌then◌else◌}
use Rattle.std.specs.List.{count_by, flat_map}
use Rattle.std.specs.Str.{bytes_eq}
use Rattle.ack_read.specs.declared.told.ElementTold.{ElementTold}
use Rattle.ack_read.specs.declared.told.GroupTold.{GroupTold}
use Rattle.ack_read.specs.declared.told.NoteTold.{NoteTold}
use Rattle.ack_read.specs.declared.told.NoteTold.TheVariants as note
use Rattle.ack_read.specs.declared.told.SegmentTold.{SegmentTold}
use Rattle.ack_read.specs.declared.told.SetTold.{SetTold}
use Rattle.ack_read.specs.declared.told.Ta1Told.{Ta1Told}
use Rattle.ack_read.specs.declared.told.Told.{Told}
use Rattle.ack_read.specs.declared.told.Told.TheVariants as told
use Rattle.guide_names.specs.Names.{Words, element_name, no_words, segment_name}
use Rattle.ack_lines.specs.Reported.{is_rejected, reported_of}
use Rattle.ack_lines.specs.Shown.{filled, filled_if, name_said}
use Rattle.ack_lines.specs.Worded.{element_said, group_said, group_verdict_said, interchange_said, note_said, segment_said}
use Rattle.ack_lines.specs.Worded.{set_said, set_verdict_said}
use Rattle.ack_lines.specs.declared.reported.Reported.{Reported}
use Rattle.ack_lines.specs.declared.reported.Reported.TheVariants as reported
use Rattle.ack_lines.specs.declared.sentences.TheConstants as say

-- a TA1: the number of the interchange that it answers, TA104 and TA105
abbrev pub ta1_line : Ta1Told → List ℕ
ta1_line t =
    filled say.TA1_VERDICT.now (decimal t.interchange ∷ t.control ∷ interchange_said t.code ∷ [])
    ++ filled say.TA1_WHY.now (t.code ∷ note_said t.note ∷ t.note ∷ [])

-- which group: AK101 and AK102; and the interchange of the sender, where a TA1 says which that is
abbrev pub group_place : ℕ → (sender functional_id control : List ℕ) → List ℕ
group_place n sender functional_id control =
    filled say.IN_INTERCHANGE.now (decimal n ∷ [])
    ++ (filled_if say.OF_SENDER.now sender ++ filled say.IN_GROUP.now (functional_id ∷ control ∷ []))

abbrev pub group_head : (sender : List ℕ) → GroupTold → List ℕ
group_head sender g = group_place g.interchange sender g.functional_id g.control

-- and which set: AK201 and AK202
abbrev pub set_head : (sender : List ℕ) → SetTold → List ℕ
set_head sender s =
    group_place s.interchange sender s.functional_id s.group_control ++ filled say.IN_SET.now (s.identifier ∷ s.control ∷ [])

-- a segment in error, and its innermost loop
abbrev pub segment_place : Words → SegmentTold → List ℕ
segment_place words s =
    filled say.SEGMENT.now (s.position ∷ s.id ∷ [])
    ++ (name_said say.SEGMENT_NAME.now (segment_name words s.id) ++ filled_if say.IN_LOOP.now s.loop_id)

-- a segment that is missing before the one that is at its position
abbrev pub gap_place : Words → SegmentTold → List ℕ
gap_place words s =
    filled say.GAP.now (s.position ∷ [])
    ++ (filled_if say.IN_LOOP.now s.loop_id
    ++ (filled say.GAP_ID.now (s.id ∷ []) ++ name_said say.SEGMENT_NAME.now (segment_name words s.id)))

-- the number of an element, if there is one, and its name
abbrev pub reference_said : Words → (reference : List ℕ) → List ℕ
reference_said words [] = []
reference_said words (b ∷ bs) =
    filled say.REFERENCE.now ((b ∷ bs) ∷ []) ++ (name_said say.ELEMENT_NAME.now (element_name words (b ∷ bs)) ++ codes ")")

-- an element in error
abbrev pub element_place : Words → ElementTold → List ℕ
element_place words e =
    filled say.ELEMENT.now (e.element ∷ [])
    ++ (filled_if say.COMPONENT.now e.component
    ++ (filled_if say.REPETITION.now e.repetition ++ reference_said words e.reference))

-- IK304 3, I6, I7 and I8: the segment is missing before the one that is at its position
abbrev pub is_of_missing : (code : List ℕ) → Bool
is_of_missing code =
    if bytes_eq code (codes "3") then true
    else if bytes_eq code (codes "I6") then true
    else if bytes_eq code (codes "I7") then true
    else bytes_eq code (codes "I8")

-- an IK3: of which segment, and the words of IK304
abbrev pub segment_line : Words → SegmentTold → List ℕ
segment_line words s =
    if is_of_missing s.code
    then gap_place words s ++ filled say.GAP_CODE.now (segment_said s.code ∷ s.code ∷ [])
    else segment_place words s ++ filled say.SEGMENT_CODE.now (segment_said s.code ∷ s.code ∷ [])

-- IK403 4 to 9 and I6: the words are said of the value, which the copy shows
abbrev pub is_of_value : (code : List ℕ) → Bool
is_of_value code =
    if bytes_eq code (codes "4") then true
    else if bytes_eq code (codes "5") then true
    else if bytes_eq code (codes "6") then true
    else if bytes_eq code (codes "7") then true
    else if bytes_eq code (codes "8") then true
    else if bytes_eq code (codes "9") then true
    else bytes_eq code (codes "I6")

abbrev pub value_is : (code : List ℕ) → List ℕ
value_is code = if bytes_eq code (codes "6") then say.HAS.now else say.IS.now

-- what is wrong with an element, and its copy where one is written
abbrev pub element_fault : ElementTold → List ℕ
element_fault e =
    if is_of_value e.code
    then filled_if (value_is e.code) e.copy ++ filled say.ELEMENT_CODE.now (element_said e.code ∷ e.code ∷ [])
    else filled say.ELEMENT_CODE.now (element_said e.code ∷ e.code ∷ []) ++ filled_if say.COPY.now e.copy

abbrev pub element_line : Words → SegmentTold → ElementTold → List ℕ
element_line words s e =
    segment_place words s ++ (element_place words e ++ (codes ": " ++ (element_fault e ++ codes "\n")))

abbrev pub note_line : Words → (head : List ℕ) → NoteTold → List ℕ
note_line words head (note.OfSegment s) = head ++ segment_line words s
note_line words head (note.OfElement s e) = head ++ element_line words s e

-- an IK3 with an IK4 after it is reported by that
abbrev pub is_of_element : List NoteTold → Bool
is_of_element [] = false
is_of_element (note.OfSegment s ∷ notes) = false
is_of_element (note.OfElement s e ∷ notes) = true

abbrev pub is_of_segment : NoteTold → Bool
is_of_segment (note.OfSegment s) = true
is_of_segment (note.OfElement s e) = false

abbrev pub is_told_by_next : NoteTold → (behind : List NoteTold) → Bool
is_told_by_next n behind = is_of_segment n && is_of_element behind

abbrev pub note_lines : Words → (head : List ℕ) → List NoteTold → List ℕ
note_lines words head [] = []
note_lines words head (n ∷ notes) =
    (if is_told_by_next n notes then [] else note_line words head n) ++ note_lines words head notes

-- a verdict of a set or a group: accepted without errors
abbrev pub is_accepted : (code : List ℕ) → Bool
is_accepted code = bytes_eq code (codes "A")

-- IK502 5 and I5, a segment or an element in error, say no more than the notes do
abbrev pub repeats_notes : (code : List ℕ) → Bool
repeats_notes code = if bytes_eq code (codes "5") then true else bytes_eq code (codes "I5")

abbrev pub set_code_line : (head verdict : List ℕ) → (noted : Bool) → (code : List ℕ) → List ℕ
set_code_line head verdict noted code =
    if noted && repeats_notes code then []
    else head ++ filled say.SET_CODE.now (verdict ∷ set_said code ∷ code ∷ [])

-- a line for each code; where there is none, one that says the verdict alone
abbrev pub all_code_lines : (head verdict code : List ℕ) → List (List ℕ) → List ℕ
all_code_lines head verdict code [] = head ++ filled say.SET_VERDICT.now (verdict ∷ code ∷ [])
all_code_lines head verdict code (c ∷ cs) = flat_map (set_code_line head verdict false) (c ∷ cs)

-- a set's codes: all of them, or after its notes those that say more
abbrev pub set_code_lines : (head verdict : List ℕ) → SetTold → List NoteTold → List ℕ
set_code_lines head verdict s [] = all_code_lines head verdict s.code s.codes
set_code_lines head verdict s (n ∷ notes) = flat_map (set_code_line head verdict true) s.codes

-- a set with these words of its verdict: its notes, then its codes
abbrev pub faulty_set_lines : Words → (sender verdict : List ℕ) → SetTold → List ℕ
faulty_set_lines words sender verdict s =
    note_lines words (set_head sender s ++ filled say.NOTED.now (verdict ∷ [])) s.notes
    ++ set_code_lines (set_head sender s) verdict s s.notes

-- the verdict on a set whose group is rejected
abbrev pub fallen_verdict : (code : List ℕ) → List ℕ
fallen_verdict code = if is_rejected code then set_verdict_said code else say.FALLEN.now

-- a set that isn't accepted, by itself or since its group is rejected
abbrev pub set_lines : Words → (sender : List ℕ) → SetTold → (falls : Bool) → List ℕ
set_lines words sender s true = faulty_set_lines words sender (fallen_verdict s.code) s
set_lines words sender s false = if is_accepted s.code then [] else faulty_set_lines words sender (set_verdict_said s.code) s

abbrev pub group_code_line : (head verdict code : List ℕ) → List ℕ
group_code_line head verdict code = head ++ filled say.GROUP_CODE.now (verdict ∷ group_said code ∷ code ∷ [])

abbrev pub faulty_group_lines : (sender : List ℕ) → GroupTold → (codes : List (List ℕ)) → List ℕ
faulty_group_lines sender g [] =
    group_head sender g ++ filled say.GROUP_VERDICT.now (group_verdict_said g.code ∷ g.code ∷ [])
faulty_group_lines sender g (c ∷ cs) =
    flat_map (group_code_line (group_head sender g) (group_verdict_said g.code)) (c ∷ cs)

abbrev pub reported_lines : Words → (sender : List ℕ) → Reported → List ℕ
reported_lines words sender (reported.OfInterchange t) = ta1_line t
reported_lines words sender (reported.OfGroup g) = if is_accepted g.code then [] else faulty_group_lines sender g g.codes
reported_lines words sender (reported.OfSet s falls) = set_lines words sender s falls

-- the last TA1 so far: in which interchange it is, and which one of the sender it answers
pub record Asked : Type 0 where
  pub interchange : ℕ
  pub control : List ℕ

abbrev pub none_asked : Asked
none_asked = record { interchange = 0; control = [] }

abbrev pub asked_behind : Asked → Reported → Asked
asked_behind at (reported.OfInterchange t) = record { interchange = t.interchange; control = t.control }
asked_behind at (reported.OfGroup g) = at
asked_behind at (reported.OfSet s falls) = at

abbrev pub interchange_of : Reported → ℕ
interchange_of (reported.OfInterchange t) = t.interchange
interchange_of (reported.OfGroup g) = g.interchange
interchange_of (reported.OfSet s falls) = s.interchange

-- what is said in an interchange is said of the one of the sender that its TA1 names
abbrev pub sender_of : Asked → (interchange : ℕ) → List ℕ
sender_of at n = if at.interchange == n then at.control else []

abbrev pub lines_behind : Words → Asked → List Reported → List ℕ
lines_behind words at [] = []
lines_behind words at (r ∷ rs) =
    reported_lines words (sender_of at (interchange_of r)) r ++ lines_behind words (asked_behind at r) rs

-- the totals: TA1s, groups, sets, and sets that are accepted, with or without errors (AK904)
abbrev pub is_ta1 : Reported → Bool
is_ta1 (reported.OfInterchange t) = true
is_ta1 (reported.OfGroup g) = false
is_ta1 (reported.OfSet s falls) = false

abbrev pub is_group : Reported → Bool
is_group (reported.OfInterchange t) = false
is_group (reported.OfGroup g) = true
is_group (reported.OfSet s falls) = false

abbrev pub is_set : Reported → Bool
is_set (reported.OfInterchange t) = false
is_set (reported.OfGroup g) = false
is_set (reported.OfSet s falls) = true

abbrev pub is_accepted_set : Reported → Bool
is_accepted_set (reported.OfInterchange t) = false
is_accepted_set (reported.OfGroup g) = false
is_accepted_set (reported.OfSet s falls) = not falls && (if is_accepted s.code then true else bytes_eq s.code (codes "E"))

abbrev pub total_line : List Reported → List ℕ
total_line all =
    filled say.TOTALS.now (decimal (count_by is_ta1 all) ∷ decimal (count_by is_group all) ∷ [])
    ++ filled say.TOTAL_SETS.now (decimal (count_by is_set all) ∷ decimal (count_by is_accepted_set all) ∷ [])

-- all of it
abbrev pub all_lines : Words → List Reported → List ℕ
all_lines words all = lines_behind words none_asked all ++ total_line all

abbrev pub named_explanation : Words → List Told → List ℕ
named_explanation words found = all_lines words (reported_of found)

-- without names
abbrev pub explanation : List Told → List ℕ
explanation found = named_explanation no_words found

-- the notes on a set, each in a line
abbrev pub faults_said : Words → Told → List ℕ
faults_said words (told.OfInterchange t) = []
faults_said words (told.OfSet s) = note_lines words [] s.notes
faults_said words (told.OfGroup g) = []

-- the notes on all sets that are reported
abbrev pub fault_lines : Words → List Told → List ℕ
fault_lines words found = flat_map (faults_said words) found
