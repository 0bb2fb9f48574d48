-- 999 guide (005010X231) and X12.5, TA1: the answers that a partner gets to its interchanges.
use Rattle.std.specs.Prelude.{ℕ, ◌+◌, ◌-◌, ◌==◌, ◌%◌, nat_le, Bool, true, false, not, ◌&&◌, ◌||◌, List, [], ◌∷◌, ◌++◌, map, length, take}
use Rattle.std.specs.Prelude.{drop}
use Rattle.std.specs.Prelude.{Option, Some, None, if◌then◌else◌, codes, decimal, bytes_eq, filter, flat_map, is_some, unwrap_or}
use Rattle.std.specs.Option.{option_map_or}
use Rattle.std.specs.List.{list_all, list_any}
use Rattle.std.specs.Char.{is_ascii_digit, is_ascii_uppercase}
use Rattle.x12_bytes.specs.declared.delims.Delims.{Delims}
use Rattle.hub_kinds.specs.declared.fault.Fault.{Fault}
use Rattle.hub_kinds.specs.declared.fault.ElemFault.{ElemFault}
use Rattle.hub_kinds.specs.declared.interchange.InterchangeFault.{InterchangeFault}
use Rattle.hub_kinds.specs.declared.set_codes.GroupCode.{GroupCode}
use Rattle.hub_kinds.specs.declared.set_codes.GroupCode.TheVariants as ak905
use Rattle.partner_setup.specs.declared.partner.Partner.{Partner}
use Rattle.night_definition.specs.Header.{field, number_of, is_word}
use Rattle.night_definition.specs.Segments.{Elements, element}
use Rattle.night_definition.specs.Values.{is_digits}
use Rattle.night_definition.specs.Elements.{is_this, numbered}
use Rattle.night_definition.specs.Codes.{ik304_of, ik403_of, set_code_text, group_code_text, verdict_text, group_verdict_text}
use Rattle.night_definition.specs.Codes.{fault_texts}
use Rattle.night_definition.specs.Setup.{Setup, Judged}
use Rattle.night_definition.specs.Answers.{Answer, AnsweredGroup, Answered, accepted_sets}
use Rattle.night_definition.specs.Written.{trimmed, segment_text, isa_text, iea_text, group_text, set_number}

-- a segment as it is written: its id, then its elements
abbrev pub written : Delims → Elements → List ℕ
written d s = segment_text d (element 0 s) (drop 1 s)

abbrev pub is_delimiter : Delims → ℕ → Bool
is_delimiter d b = b == d.element || b == d.component || b == d.terminator || is_this d.repetition b

-- IK404: the first 99 bytes, if all bytes are 0x20 to 0x7E and none is a delimiter of the acknowledgment
abbrev pub copy_text : Delims → List ℕ → List ℕ
copy_text d text = if list_all (λ b. nat_le 32 b && nat_le b 126 && not (is_delimiter d b)) text then take 99 text else []

-- own: an id that isn't 2 or 3 upper-case letters or digits is written ZZZ
abbrev pub is_id : List ℕ → Bool
is_id id = nat_le 2 (length id) && nat_le (length id) 3 && list_all (λ b. is_ascii_uppercase b || is_ascii_digit b) id

abbrev pub id_text : List ℕ → List ℕ
id_text id = if is_id id then id else codes "ZZZ"

abbrev pub shown : ℕ → List ℕ
shown n = if n == 0 then [] else decimal n

abbrev pub ik3 : Fault → Elements
ik3 f = codes "IK3" ∷ id_text f.id ∷ decimal f.position ∷ f.loop_id ∷ (ik304_of f.code).0 ∷ []

-- IK401 has the position, then the component and the repetition that are shown
abbrev pub ik4 : Delims → ElemFault → Elements
ik4 d e =
    codes "IK4"
    ∷ (decimal e.element ++ flat_map (λ n. d.component ∷ n) (trimmed (shown e.component ∷ shown e.repetition ∷ [])))
    ∷ e.reference ∷ (ik403_of e.code).0 ∷ copy_text d e.copy ∷ []

-- one IK3 leads the element faults of a segment; `noted` is the position of the IK3 that leads now
abbrev pub fault_segments_by : Delims → (noted : Option ℕ) → Fault → Option ElemFault → (rest : Option ℕ → List Elements) → List Elements
fault_segments_by d noted f None rest = ik3 f ∷ rest None
fault_segments_by d noted f (Some e) rest =
    (if is_this noted f.position then [] else ik3 f ∷ []) ++ ik4 d e ∷ rest (Some f.position)

abbrev pub fault_segments : Delims → (noted : Option ℕ) → List Fault → List Elements
fault_segments d noted [] = []
fault_segments d noted (f ∷ faults) = fault_segments_by d noted f f.elem (λ n. fault_segments d n faults)

abbrev pub set_segments : Delims → Answer → List Elements
set_segments d a =
    let st = a.set.header.elements in
    (codes "AK2" ∷ element 1 st ∷ element 2 st ∷ (if is_word 1 35 (element 3 st) then element 3 st else []) ∷ [])
    ∷ fault_segments d None a.faults
    ++ (codes "IK5" ∷ verdict_text a.verdict ∷ map set_code_text a.codes) ∷ []

-- a group with AK905 1 or 2 lists no set
abbrev pub hides_sets : GroupCode → Bool
hides_sets ak905.NotSupported = true
hides_sets ak905.VersionNotSupported = true
hides_sets code = false

abbrev pub report_segments : Delims → (n : ℕ) → AnsweredGroup → List Elements
report_segments d n g =
    let gs = g.group.header.elements in
    let sets = length g.answers in
    (codes "ST" ∷ codes "999" ∷ set_number n ∷ codes "005010X231" ∷ [])
    ∷ (codes "AK1" ∷ element 1 gs ∷ element 6 gs ∷ element 8 gs ∷ [])
    ∷ (if list_any hides_sets g.codes then [] else flat_map (set_segments d) g.answers)
    ++ (codes "AK9" ∷ group_verdict_text g.verdict
    ∷ decimal (unwrap_or (option_map_or (λ ge. number_of 6 (element 1 ge.elements)) g.group.trailer None) sets)
    ∷ decimal sets ∷ decimal (accepted_sets g) ∷ map group_code_text g.codes) ∷ []

-- a 999
abbrev pub report_text : Delims → (n : ℕ) → AnsweredGroup → List ℕ
report_text d n g =
    let segments = report_segments d n g in
    flat_map (written d) segments ++ written d (codes "SE" ∷ decimal (length segments + 1) ∷ set_number n ∷ [])

-- A partner gets a TA1 if its header can be quoted: for a refused interchange whose fault has a note, and for any other if ISA14 asks
-- for it and there is a group (own).
abbrev pub ta1_note : Judged → Option (List ℕ)
ta1_note j =
    let isa = j.interchange.header in
    if is_some j.sender && is_digits (field 13 isa) && is_digits (field 9 isa) && is_digits (field 10 isa) then by j.fault else None
  where
    by : Option InterchangeFault → Option (List ℕ)
    by (Some fault) = (fault_texts fault).1
    by None =
        if bytes_eq (field 14 j.interchange.header) (codes "1") && nat_le 1 (length j.interchange.content.groups)
        then Some (codes "000") else None

-- TA104
abbrev pub ta1_code : (note : List ℕ) → List ℕ
ta1_code note = if bytes_eq note (codes "000") then codes "A" else codes "R"

abbrev pub ta1_text : Delims → (header note : List ℕ) → List ℕ
ta1_text d isa note = segment_text d (codes "TA1") (field 13 isa ∷ field 9 isa ∷ field 10 isa ∷ ta1_code note ∷ note ∷ [])

abbrev pub reported : Answered → List AnsweredGroup
reported x = filter (λ g. not g.is_fa) x.groups

-- the number of groups of 999s: 1 if there is a 999 to write
abbrev pub group_total : Answered → ℕ
group_total x = if nat_le 1 (length (reported x)) then 1 else 0

abbrev pub is_acknowledged_to : (partner : ℕ) → Answered → Bool
is_acknowledged_to partner x = is_this x.judged.sender partner && (is_some (ta1_note x.judged) || nat_le 1 (length (reported x)))

abbrev pub acknowledged_to : (partner : ℕ) → List Answered → List Answered
acknowledged_to partner xs = filter (is_acknowledged_to partner) xs

abbrev pub acknowledgment_text : Setup → Partner → (at : List ℕ) → (number control : ℕ) → Answered → List ℕ
acknowledgment_text setup p at number control x =
    isa_text setup.hub p at number
    ++ option_map_or (ta1_text p.delims x.judged.interchange.header) (ta1_note x.judged) []
    ++ (if nat_le 1 (length (reported x))
    then group_text p.delims at (codes "FA") setup.hub.code p.code control (codes "005010X231")
    (map (λ g. report_text p.delims g.0 g.1) (numbered 1 (reported x)))
    else [])
    ++ iea_text p.delims (group_total x) number

-- own: after 999,999,999 numbers begin again at 1
abbrev pub num : (start k : ℕ) → ℕ
num start k = 1 + (start - 1 + k) % 999999999

-- a partner's acknowledgments, in order
abbrev pub acknowledgments_after : Setup → Partner → (at : List ℕ) → (k groups : ℕ) → List Answered → List ℕ
acknowledgments_after setup p at k groups [] = []
acknowledgments_after setup p at k groups (x ∷ xs) =
    acknowledgment_text setup p at (num p.counters.interchange k) (num p.counters.group groups) x
    ++ acknowledgments_after setup p at (k + 1) (groups + group_total x) xs
