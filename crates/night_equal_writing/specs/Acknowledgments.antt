-- The 999s and the TA1 of an interchange, and a partner's acknowledgments, are written alike by the definition and by the layers.
use Rattle.std.specs.Prelude.{◌≡◌, ℕ, List, [], ◌∷◌, map, All, Option, Some, None, if◌then◌else◌}
use Rattle.std.specs.Option.{option_map_or}
use Rattle.x12_bytes.specs.declared.delims.Delims.{Delims}
use Rattle.hub_kinds.specs.declared.answers.GroupAnswer.{GroupAnswer}
use Rattle.hub_kinds.specs.declared.answers.SetAnswer.{SetAnswer}
use Rattle.hub_kinds.specs.declared.fault.Fault.{Fault}
use Rattle.partner_setup.specs.declared.partner.Partner.{Partner}
use Rattle.partner_setup.specs.Envelopes.{envelope_between}
use Rattle.partner_setup.specs.Setup.{SetupValue}
use Rattle.x12_write.specs.Segment.{WrittenSegment}
use Rattle.ack_999.specs.Copy as old_copy
use Rattle.ack_999.specs.Faults as old_faults
use Rattle.ack_999.specs.Report as old_report
use Rattle.ack_999.specs.Ta1 as old_ta1
use Rattle.set_answers.specs.declared.answered.AnsweredGroup as layer
use Rattle.set_answers.specs.Acknowledgments as old
use Rattle.set_answers.specs.CheckedText.{CheckedInterchange, acknowledgment_of, acknowledgments_from}
use Rattle.night_definition.specs.Segments.{Elements, element, Segment}
use Rattle.night_definition.specs.Setup.{Setup}
use Rattle.night_definition.specs.Answers.{Answer, AnsweredGroup, Answered}
use Rattle.night_definition.specs.Acknowledgments as room

-- a segment that is to be written, as the definition has it: its id and its elements
abbrev pub seen : WrittenSegment → Elements
seen s = s.id ∷ s.elements

-- an element fault has the code of element errors
abbrev pub HasItsCode : Fault → Type 0
HasItsCode f = old_faults.code_shown f ≡ f.code

-- the definition's answers, as the layers have them
abbrev pub set_answer : Answer → SetAnswer
set_answer a = record {
  identifier = element 1 a.set.header.elements;
  control = element 2 a.set.header.elements;
  convention = element 3 a.set.header.elements;
  faults = a.faults;
  codes = a.codes;
  verdict = a.verdict;
}

abbrev pub group_answer : AnsweredGroup → GroupAnswer
group_answer g = record {
  functional_id = element 1 g.group.header.elements;
  control = element 6 g.group.header.elements;
  version = element 8 g.group.header.elements;
  listed = option_map_or (λ (ge : Segment). element 1 ge.elements) g.group.trailer [];
  codes = g.codes;
  verdict = g.verdict;
}

abbrev pub answered_group : AnsweredGroup → Option layer.AnsweredGroup
answered_group g = if g.is_fa then None else Some (record { answer = group_answer g; sets = map set_answer g.answers })

abbrev pub acknowledgment : Answered → old.Acknowledgment
acknowledgment x = record {
  header = x.judged.interchange.header;
  note = room.ta1_note x.judged;
  groups = map answered_group x.groups;
}

abbrev pub HaveTheirCodes : AnsweredGroup → Type 0
HaveTheirCodes g = All (λ (a : Answer). All HasItsCode a.faults) g.answers

pub record AcknowledgmentsAreOne : Type 0 where
  -- what is copied of an element
  pub copy : (d : Delims) (text : List ℕ) → room.copy_text d text ≡ old_copy.copy_text d text
  -- IK3 and IK4 of a set's faults; AK2 to IK5 of a set
  pub faults : (d : Delims) (faults : List Fault) → All HasItsCode faults
      → room.fault_segments d None faults ≡ map seen (old_faults.fault_segments d faults)
  pub set : (d : Delims) (a : Answer) → All HasItsCode a.faults
      → room.set_segments d a ≡ map seen (old_report.set_segments d (set_answer a))
  -- a 999
  pub report : (d : Delims) (n : ℕ) (g : AnsweredGroup) → HaveTheirCodes g
      → room.report_text d n g ≡ old_report.text_999 d (group_answer g) (map set_answer g.answers) n
  -- a TA1
  pub ta1 : (d : Delims) (header note : List ℕ) → room.ta1_text d header note ≡ old_ta1.ta1_text d header note
