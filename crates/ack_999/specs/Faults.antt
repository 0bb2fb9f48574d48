-- 999 guide (005010X231), error identification (IK3) and implementation data element note (IK4): the faults of a set.
use Rattle.std.specs.Prelude.{ℕ, ◌==◌, Option, Some, None, if◌then◌else◌}
use Rattle.std.specs.Prelude.{List, [], ◌∷◌, ◌++◌, map, codes, decimal}
use Rattle.std.specs.List.{flat_map}
use Rattle.x12_bytes.specs.declared.delims.Delims.{Delims}
use Rattle.hub_kinds.specs.declared.codes.SegmentCode.{SegmentCode}
use Rattle.hub_kinds.specs.declared.codes.SegmentCode.TheVariants as segment_code
use Rattle.hub_kinds.specs.declared.fault.Fault.{Fault}
use Rattle.hub_kinds.specs.declared.fault.ElemFault.{ElemFault}
use Rattle.hub_kinds.specs.declared.fault.TheConstants.{NO_NUMBER}
use Rattle.hub_kinds.specs.Codes as code
use Rattle.hub_kinds.specs.Words.{is_segment_id}
use Rattle.ack_999.specs.Copy.{copy_text}
use Rattle.x12_write.specs.Delimiters.{is_this}
use Rattle.x12_write.specs.Segment.{WrittenSegment, segment, segment_text, elements_text, trimmed}

-- IK301: an id of 2 or 3 upper-case letters or digits is unchanged, any other is written ZZZ (own)
abbrev pub id_text : List ℕ → List ℕ
id_text id = if is_segment_id id then id else codes "ZZZ"

-- IK304: the segment's code; where an element is at fault, that of element errors
abbrev pub code_shown : Fault → SegmentCode
code_shown f = shown f.elem
  where
    shown : Option ElemFault → SegmentCode
    shown None = f.code
    shown (Some _) = segment_code.ElementErrors

-- a component or a repetition is counted from 1
abbrev pub number_text : ℕ → List ℕ
number_text n = if n == NO_NUMBER then [] else decimal n

-- IK401: the numbers of the element, the component and the repetition, without those that are none at the end
abbrev pub position_text : ℕ → ElemFault → List ℕ
position_text separator e =
    decimal e.element ++ elements_text separator (trimmed (number_text e.component ∷ number_text e.repetition ∷ []))

-- what is reported of faults: IK3, of a segment; IK4, of an element
pub data Note : Type 0 where
  SegmentNote : (fault : Fault) → Note
  ElementNote : (elem : ElemFault) → Note

abbrev pub note_segment : Delims → Note → WrittenSegment
note_segment d (SegmentNote f) =
    segment (codes "IK3") (id_text f.id ∷ decimal f.position ∷ f.loop_id ∷ code.segment_code_text (code_shown f) ∷ [])
note_segment d (ElementNote e) =
    segment (codes "IK4") (position_text d.component e ∷ e.reference ∷ code.element_code_text e.code ∷ copy_text d e.copy ∷ [])

-- the position of the segment of an element fault
abbrev pub element_position : Fault → Option ℕ
element_position f = at f.elem
  where
    at : Option ElemFault → Option ℕ
    at None = None
    at (Some _) = Some f.position

-- the notes on a fault: an IK3; where an element is at fault an IK4, after an IK3 unless the fault before is an element fault of
-- the same position
abbrev pub notes_for : Option ℕ → Fault → Option ElemFault → List Note
notes_for before f None = SegmentNote f ∷ []
notes_for before f (Some e) = (if is_this before f.position then [] else SegmentNote f ∷ []) ++ ElementNote e ∷ []

abbrev pub notes_on : Option ℕ → Fault → List Note
notes_on before f = notes_for before f f.elem

-- the notes on faults, one fault after the other
abbrev pub notes_behind : Option ℕ → List Fault → List Note
notes_behind before [] = []
notes_behind before (f ∷ faults) = notes_on before f ++ notes_behind (element_position f) faults

abbrev pub notes : List Fault → List Note
notes faults = notes_behind None faults

-- the segments between AK2 and IK5
abbrev pub fault_segments : Delims → List Fault → List WrittenSegment
fault_segments d faults = map (note_segment d) (notes faults)

-- notes as they are written
abbrev pub written_note : Delims → Note → List ℕ
written_note d note = segment_text d (note_segment d note).id (note_segment d note).elements

abbrev pub notes_text : Delims → List Note → List ℕ
notes_text d list = flat_map (written_note d) list
