-- The faults of an interchange (own numbers): their order, their texts, and the notes by which a TA1 reports them (X12.5).
use Rattle.std.specs.Prelude.{ℕ, List, codes, Option, Some, None, if◌then◌else◌}
use Rattle.std.specs.Str.{bytes_eq}
use Rattle.hub_kinds.specs.declared.interchange.InterchangeFault.{InterchangeFault}
use Rattle.hub_kinds.specs.declared.interchange.InterchangeFault.TheVariants as fault

-- the number of a fault
abbrev pub fault_text : InterchangeFault → List ℕ
fault_text fault.TrailerMissing = codes "1"
fault_text fault.ControlNumberInvalid = codes "2"
fault_text fault.ControlNumbersDiffer = codes "3"
fault_text fault.GroupCountWrong = codes "4"
fault_text fault.SegmentMisplaced = codes "5"
fault_text fault.GroupHeaderInvalid = codes "6"
fault_text fault.SetHeaderInvalid = codes "7"
fault_text fault.SenderUnknown = codes "8"
fault_text fault.Duplicate = codes "9"

-- the order of the faults: by number, the least reported
abbrev pub fault_rank : InterchangeFault → ℕ
fault_rank fault.TrailerMissing = 1
fault_rank fault.ControlNumberInvalid = 2
fault_rank fault.ControlNumbersDiffer = 3
fault_rank fault.GroupCountWrong = 4
fault_rank fault.SegmentMisplaced = 5
fault_rank fault.GroupHeaderInvalid = 6
fault_rank fault.SetHeaderInvalid = 7
fault_rank fault.SenderUnknown = 8
fault_rank fault.Duplicate = 9

-- X12.5, interchange note code (TA105) of an interchange with this fault, or with none. Two faults have no note, since an interchange
-- without a number of nine digits, or of an unknown sender, is never answered (own).
abbrev pub note_text : Option InterchangeFault → Option (List ℕ)
note_text None = Some (codes "000")
note_text (Some fault.TrailerMissing) = Some (codes "023")
note_text (Some fault.ControlNumberInvalid) = None
note_text (Some fault.ControlNumbersDiffer) = Some (codes "001")
note_text (Some fault.GroupCountWrong) = Some (codes "021")
note_text (Some fault.SegmentMisplaced) = Some (codes "022")
note_text (Some fault.GroupHeaderInvalid) = Some (codes "024")
note_text (Some fault.SetHeaderInvalid) = Some (codes "024")
note_text (Some fault.SenderUnknown) = None
note_text (Some fault.Duplicate) = Some (codes "025")

-- X12.5, interchange acknowledgment code (TA104) beside a note: A where the note is that of no error, else R
abbrev pub acknowledgment_code : (note : List ℕ) → List ℕ
acknowledgment_code note = if bytes_eq note (codes "000") then codes "A" else codes "R"
