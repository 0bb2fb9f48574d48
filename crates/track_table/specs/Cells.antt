-- The fields of a row (own): of an interchange (X12.5), of a group and of a set (X12.6), and of what became of it.
use Rattle.std.specs.Prelude.{ℕ, ◌+◌, List, [], ◌∷◌, ◌++◌, Option, Some, None, take, drop, slice_index_or, codes, decimal, map}
use Rattle.std.specs.Prelude.{if◌then◌else◌}
use Rattle.x12_bytes.specs.Header.{field_of}
use Rattle.x12_segs.specs.Words.{element_of}
use Rattle.x12_write.specs.Number.{padded_number, set_number}
use Rattle.hub_kinds.specs.Words.{fault_text, group_code_text, group_verdict_text, set_code_text, verdict_text}
use Rattle.hub_kinds.specs.declared.interchange.InterchangeFault.{InterchangeFault}
use Rattle.hub_kinds.specs.declared.set_codes.GroupCode.{GroupCode}
use Rattle.hub_kinds.specs.declared.set_codes.GroupVerdict.{GroupVerdict}
use Rattle.env_index.specs.Words.{GroupEntry}
use Rattle.partner_setup.specs.Setup.{SetupValue}
use Rattle.answered_sets.specs.Answered.{ta1_note}
use Rattle.answered_sets.specs.Judged.{JudgedValue, PlacedValue, is_fa, segments_in, verdict_by_standing}
use Rattle.track_table.specs.declared.notes.GroupNotes.{GroupNotes}
use Rattle.track_table.specs.declared.notes.SetNotes.{SetNotes}
use Rattle.set_documents.specs.Documents.{DocumentValue, document_number}
pub use Rattle.night_report.specs.Report.{name_by, sender_name}
pub use Rattle.csv_fields.specs.Columns.{column_names}
pub use Rattle.track_definition.specs.Columns.{no_set_cells, plain_end, spaced_words}
use Rattle.track_table.specs.declared.hindrance.Hindrance.{Hindrance}
use Rattle.track_table.specs.declared.mailed.Mailed.{Mailed}
use Rattle.track_table.specs.declared.limits.TheConstants.{MOST_SHOWN}

abbrev pub fault_cell : Option InterchangeFault → List ℕ
fault_cell None = []
fault_cell (Some fault) = fault_text fault

abbrev pub note_cell : (note : Option (List ℕ)) → List ℕ
note_cell None = []
note_cell (Some note) = note

-- interchange n of the text, counted from 1: where it begins, its sender's name, ISA13, its fault, the note of its TA1
abbrev pub interchange_cells : SetupValue → (n : ℕ) → JudgedValue → List (List ℕ)
interchange_cells setup n x =
    decimal n ∷ decimal x.interchange.start ∷ sender_name setup x.sender ∷ field_of x.interchange.header 13 ∷ fault_cell x.fault
    ∷ note_cell (ta1_note x.sender x.fault x.interchange) ∷ []

-- as much of an application code as is shown
abbrev pub shown : List ℕ → List ℕ
shown text = take MOST_SHOWN text

-- AK901 and AK905 of a group that is answered
abbrev pub standing_cells : GroupEntry → GroupVerdict → List GroupCode → List (List ℕ)
standing_cells group verdict group_codes =
    if is_fa group then [] ∷ [] ∷ []
    else group_verdict_text verdict ∷ spaced_words (map group_code_text group_codes) ∷ []

-- GS01, GS06, GS02 and GS03 of a group, and what is answered to it
abbrev pub group_cells : GroupEntry → GroupVerdict → List GroupCode → List (List ℕ)
group_cells group verdict group_codes =
    element_of group.header 1 ∷ element_of group.header 6 ∷ shown (element_of group.header 2) ∷ shown (element_of group.header 3)
    ∷ standing_cells group verdict group_codes

abbrev pub no_set_notes : SetNotes
no_set_notes = record { codes = []; faults = 0 }

-- IK501, IK502 and the number of faults of a set that is answered
abbrev pub answer_cells : PlacedValue → SetNotes → List (List ℕ)
answer_cells p notes =
    if is_fa p.group then [] ∷ [] ∷ [] ∷ []
    else verdict_text (verdict_by_standing p) ∷ spaced_words (map set_code_text notes.codes) ∷ decimal notes.faults ∷ []

-- ST01, ST02 and the number of its document, and what is answered to it
abbrev pub set_cells : List DocumentValue → PlacedValue → SetNotes → List (List ℕ)
set_cells documents p notes =
    element_of p.set.header 1 ∷ element_of p.set.header 2 ∷ document_number documents (element_of p.set.header 1) (drop 1 (segments_in p))
    ∷ answer_cells p notes

-- the fields of a set's rows before its outcome
abbrev pub head_cells : SetupValue → List DocumentValue → (n : ℕ) → PlacedValue → GroupNotes → List (List ℕ)
head_cells setup documents n p notes =
    (interchange_cells setup n p.interchange ++ group_cells p.group p.standing.verdict notes.codes)
    ++ set_cells documents p (slice_index_or notes.sets p.index no_set_notes)

abbrev pub hindrance_cells : Option Hindrance → List (List ℕ)
hindrance_cells None = [] ∷ [] ∷ []
hindrance_cells (Some h) = (h.byte ∷ []) ∷ decimal (h.before + 1) ∷ []

-- held for a delimiter of this receiver: the byte and its segment
abbrev pub held_end : (name : List ℕ) → Option Hindrance → List (List ℕ)
held_end name h = codes "held delimiter" ∷ (hindrance_cells h ++ name ∷ [] ∷ [] ∷ [] ∷ [])

-- delivered to this receiver: ISA13, GS06 and ST02 as its mailbox has them
abbrev pub delivered_end : (name : List ℕ) → Mailed → List (List ℕ)
delivered_end name m =
    codes "delivered" ∷ [] ∷ [] ∷ name ∷ padded_number 9 m.interchange ∷ decimal m.group ∷ set_number m.set ∷ []
