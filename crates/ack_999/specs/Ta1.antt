-- X12.5, interchange acknowledgment segment (TA1): what is reported to a partner of an interchange that it sent.
use Rattle.std.specs.Prelude.{ℕ, List, [], ◌∷◌, codes}
use Rattle.x12_bytes.specs.declared.delims.Delims.{Delims}
use Rattle.x12_bytes.specs.Header.{field_of}
use Rattle.hub_kinds.specs.Words.{acknowledgment_code}
use Rattle.x12_write.specs.Segment.{segment_text}

-- ISA13, ISA09 and ISA10 of the interchange with this header, A or R, and the note
abbrev pub ta1_text : Delims → (header : List ℕ) → (note : List ℕ) → List ℕ
ta1_text d header note =
    segment_text d (codes "TA1") (field_of header 13 ∷ field_of header 9 ∷ field_of header 10 ∷ acknowledgment_code note ∷ note ∷ [])
