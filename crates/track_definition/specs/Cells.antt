-- own: the fields of a row: of an interchange (X12.5), of a group and a set (X12.6), of the answers to them (999 guide), and of the outcome
-- for a receiver.
use Rattle.std.specs.Prelude.{ℕ, ◌+◌, ◌-◌, ◌/◌, List, [], ◌∷◌, ◌++◌, Option, Some, None, if◌then◌else◌, codes, decimal, bytes_eq, find, map}
use Rattle.std.specs.Prelude.{length, take, sum_by}
use Rattle.std.specs.Option.{option_map_or}
use Rattle.partner_setup.specs.declared.partner.Partner.{Partner}
use Rattle.set_documents.specs.Documents.{DocumentValue, document_for}
use Rattle.night_definition.specs.Header.{field}
use Rattle.night_definition.specs.Segments.{Segment, element}
use Rattle.night_definition.specs.Envelopes.{Set}
use Rattle.night_definition.specs.Elements.{numbered}
use Rattle.night_definition.specs.Codes.{fault_texts, group_code_text, group_verdict_text, set_code_text, verdict_text}
use Rattle.night_definition.specs.Setup.{Setup, Judged}
use Rattle.night_definition.specs.Answers.{Answer, AnsweredGroup, Answered}
use Rattle.night_definition.specs.Written.{padded_number, set_number}
use Rattle.night_definition.specs.Acknowledgments.{num, ta1_note, acknowledged_to}
use Rattle.night_definition.specs.Deliveries.{Sent, groups_of, interchanges_of}
use Rattle.night_definition.specs.Report.{name_of}
use Rattle.night_definition.specs.Night.{groups_in}
use Rattle.track_definition.specs.Columns.{plain_end, spaced_words}
use Rattle.track_definition.specs.Hindrance.{Hindrance}

-- interchange n of the text, from 1: where it begins, its sender's name, ISA13, its fault, the note of its TA1
abbrev pub interchange_cells : Setup → (n : ℕ) → Judged → List (List ℕ)
interchange_cells setup n j =
    decimal n ∷ decimal j.interchange.start ∷ name_of setup j.sender ∷ field 13 j.interchange.header
    ∷ option_map_or (λ fault. (fault_texts fault).0) j.fault [] ∷ option_map_or (λ note. note) (ta1_note j) [] ∷ []

-- GS01, GS06, and up to 99 bytes of GS02 and GS03; AK901 and AK905, which a group of acknowledgments doesn't get
abbrev pub group_cells : AnsweredGroup → List (List ℕ)
group_cells g =
    let gs = g.group.header.elements in
    element 1 gs ∷ element 6 gs ∷ take 99 (element 2 gs) ∷ take 99 (element 3 gs)
    ∷ (if g.is_fa then [] ∷ [] ∷ [] else group_verdict_text g.verdict ∷ spaced_words (map group_code_text g.codes) ∷ [])

-- the segments of a set after its ST
abbrev pub segments_after : Set → List Segment
segments_after s = s.inner ++ option_map_or (λ se. se ∷ []) s.trailer []

abbrev pub number_in : DocumentValue → List Segment → List ℕ
number_in d [] = []
number_in d (s ∷ ss) = if bytes_eq (element 0 s.elements) d.segment then element d.element s.elements else number_in d ss

-- the number of its document: of the first segment with the id that is shown for its ST01, an element
abbrev pub document_number : List DocumentValue → Set → List ℕ
document_number documents s =
    option_map_or (λ d. number_in d (segments_after s)) (document_for documents (element 1 s.header.elements)) []

-- ST01, ST02 and the number of the document; IK501, IK502 and the number of faults, which a group of acknowledgments doesn't get
abbrev pub set_cells : List DocumentValue → AnsweredGroup → Answer → List (List ℕ)
set_cells documents g a =
    element 1 a.set.header.elements ∷ element 2 a.set.header.elements ∷ document_number documents a.set
    ∷ (if g.is_fa then [] ∷ [] ∷ [] ∷ []
    else verdict_text a.verdict ∷ spaced_words (map set_code_text a.codes) ∷ decimal (length a.faults) ∷ [])

-- held for a receiver's delimiter: the byte, and the number of its segment
abbrev pub held_cells : (name : List ℕ) → Option Hindrance → List (List ℕ)
held_cells name hindrance =
    codes "held delimiter"
    ∷ (option_map_or (λ (h : Hindrance). (h.0 ∷ []) ∷ decimal h.1 ∷ []) hindrance ([] ∷ [] ∷ []) ++ name ∷ [] ∷ [] ∷ [] ∷ [])

-- how many groups these sets are in a mailbox
abbrev pub group_count : (cap : ℕ) → List Sent → ℕ
group_count cap sets = sum_by (λ (xs : List (ℕ × Sent)). length (groups_of xs)) (interchanges_of cap (numbered 0 sets))

-- delivered to a receiver that gets these sets before it, in a night: ISA13, GS06 and ST02 of its mailbox
abbrev pub delivered_cells : List Answered → (place : ℕ) → Partner → (before : List Sent) → Sent → List (List ℕ)
delivered_cells night place p before s =
    let acks = acknowledged_to place night in
    codes "delivered" ∷ [] ∷ [] ∷ p.name
    ∷ padded_number 9 (num p.counters.interchange (length acks + length before / p.cap))
    ∷ decimal (num p.counters.group (groups_in acks + (group_count p.cap (before ++ s ∷ []) - 1)))
    ∷ set_number (num p.counters.set (length before)) ∷ []
