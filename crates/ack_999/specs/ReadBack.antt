-- X12.6, segment: an acknowledgment, read again by the same delimiters.
use Rattle.std.specs.Prelude.{ℕ, ◌≡◌, List, [], ◌∷◌, map, All, IfSome}
use Rattle.x12_bytes.specs.declared.delims.Delims.{Delims}
use Rattle.x12_segs.specs.Words.{views, elements_of}
use Rattle.hub_kinds.specs.declared.answers.GroupAnswer.{GroupAnswer}
use Rattle.hub_kinds.specs.declared.answers.SetAnswer.{SetAnswer}
use Rattle.hub_kinds.specs.declared.fault.Fault.{Fault}
use Rattle.hub_kinds.specs.declared.fault.ElemFault.{ElemFault}
use Rattle.x12_write.specs.Segment.{WrittenSegment, trimmed}
use Rattle.x12_write.specs.Undivided.{CanDivide, IsUndivided}
use Rattle.ack_999.specs.Report.{segments_999}

-- no element separator and no terminator is in what is repeated of an element fault; where its position is written, the component
-- separator is neither
pub record IsQuotableElement (d : Delims) (e : ElemFault) : Type 0 where
  pub reference : IsUndivided d e.reference
  pub separator : IsUndivided d (d.component ∷ [])

-- nor in what is repeated of a fault; its id is written only where it is letters and digits, its copy without delimiters
pub record IsQuotableFault (d : Delims) (f : Fault) : Type 0 where
  pub loop_id : IsUndivided d f.loop_id
  pub elem : IfSome f.elem (IsQuotableElement d)

-- nor in what is repeated from a group and its sets
pub record IsQuotable (d : Delims) (g : GroupAnswer) (sets : List SetAnswer) : Type 0 where
  pub functional_id : IsUndivided d g.functional_id
  pub control : IsUndivided d g.control
  pub version : IsUndivided d g.version
  pub identifiers : All (λ s. IsUndivided d s.identifier) sets
  pub controls : All (λ s. IsUndivided d s.control) sets
  pub faults : All (λ s. All (IsQuotableFault d) s.faults) sets

-- what is between the separators of a segment that is written
abbrev pub written_parts : WrittenSegment → List (List ℕ)
written_parts s = s.id ∷ trimmed s.elements

-- a text whose segments, read again, are those of the acknowledgment
abbrev pub ReadsBack : Delims → GroupAnswer → List SetAnswer → ℕ → List ℕ → Type 0
ReadsBack d g sets n text =
    CanDivide d → IsQuotable d g sets → map elements_of (views text d) ≡ map written_parts (segments_999 d g sets n)
