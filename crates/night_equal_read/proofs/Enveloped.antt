-- The responses and TA1s that are read in the acknowledgments of a partner.
use Rattle.std.proofs.Common.{◌≡◌, ℕ, ◌+◌, ◌<◌, Bool, true, false, List, [], ◌∷◌, ◌++◌, length, Option, Some, None, refl, sym, ap}
use Rattle.std.proofs.Common.{subst, ◌∙◌, arith, append-nil}
use Rattle.std.specs.Prelude.{All, IfSome, if◌then◌else◌, option_map}
use Rattle.std.specs.List.{flat_map}
use Rattle.std.proofs.lemmas.List.Elements.{All-head, All-tail}
use Rattle.x12_bytes.specs.Header.{field_of}
use Rattle.x12_bytes.specs.declared.delims.Delims.{Delims}
use Rattle.x12_write.specs.Group.{texts_in_row}
use Rattle.x12_write.specs.Header.{header_text}
use Rattle.x12_write.specs.Segment.{WrittenSegment, segment_text}
use Rattle.x12_write.specs.declared.envelope.Envelope.{Envelope}
use Rattle.x12_write.proofs.ForAbove.{trimmed-push_full}
use Rattle.moment.specs.Moment.{IsMoment}
use Rattle.hub_kinds.specs.Words.{acknowledgment_code, note_text}
use Rattle.hub_kinds.specs.declared.interchange.InterchangeFault.{InterchangeFault}
use Rattle.hub_kinds.specs.declared.interchange.InterchangeFault.TheVariants as fault
use Rattle.count_numbers.specs.Num.{num}
use Rattle.env_index.specs.Words.{InterchangeEntry}
use Rattle.partner_setup.specs.declared.partner.Partner.{Partner}
use Rattle.partner_setup.specs.Envelopes.{envelope_to}
use Rattle.partner_setup.specs.Setup.{SetupValue}
use Rattle.partner_setup.specs.SetupFaults.{are_ids}
use Rattle.partner_setup.specs.Sound.{IsSoundPartner}
use Rattle.ack_999.specs.Interchange.{group_count, group_part, interchange_text, ta1_part}
use Rattle.ack_999.specs.ReadBack.{IsQuotable, written_parts}
use Rattle.ack_999.specs.Report.{shows_sets, text_999}
use Rattle.ack_999.specs.Ta1.{ta1_text}
use Rattle.ack_999.proofs.ForAbove.{IsReadable}
use Rattle.answered_sets.specs.Answered.{is_answered, ta1_note}
use Rattle.set_answers.specs.declared.answered.AnsweredGroup.{AnsweredGroup}
use Rattle.set_answers.specs.Acknowledgments.{Acknowledgment, acknowledgment_group_count, acknowledgment_text, present}
use Rattle.set_answers.specs.Acknowledgments.{reports_from, ta1_of}
use Rattle.set_answers.specs.CheckedText.{CheckedInterchange, acknowledgment_of, acknowledgments_from}
use Rattle.night_law.proofs.ForAbove.{ge, gs, iea, isa, isa_text, readable_ge, readable_gs, readable_iea, readable_isa}
use Rattle.night_law.proofs.ForAbove.{readable_ta1, repeated, ta1}
use Rattle.night_definition.specs.Segments.{Elements}
use Rattle.night_definition.specs.ReadBack.{Response, responses_after}
use Rattle.night_equal_read.proofs.Reading.{IsAck, both, nothing, other, report, shown, ta1s_in}

-- the responses to the sets of groups that are answered
abbrev pub group_responses : AnsweredGroup → List Response
group_responses a = shown (shows_sets a.answer.codes) a.sets

abbrev pub responses_to : Acknowledgment → List Response
responses_to a = flat_map group_responses (present a.groups)

-- TA101 to TA105
abbrev pub ta1s_with : (header : List ℕ) → (note : Option (List ℕ)) → List Elements
ta1s_with header None = []
ta1s_with header (Some note) =
    (field_of header 13 ∷ field_of header 9 ∷ field_of header 10 ∷ acknowledgment_code note ∷ note ∷ []) ∷ []

abbrev pub ta1s_to : Acknowledgment → List Elements
ta1s_to a = ta1s_with a.header a.note

-- what a group's 999 repeats holds no delimiter
abbrev pub IsQuoted : Delims → AnsweredGroup → Type 0
IsQuoted d a = IsQuotable d a.answer a.sets

-- no note is empty
note_some : (f : Option InterchangeFault) → IfSome (note_text f) (λ n. 0 < length n)
note_some None = let some : 0 < 3 = omega arith in some
note_some (Some fault.TrailerMissing) = let some : 0 < 3 = omega arith in some
note_some (Some fault.ControlNumberInvalid) = tt
note_some (Some fault.ControlNumbersDiffer) = let some : 0 < 3 = omega arith in some
note_some (Some fault.GroupCountWrong) = let some : 0 < 3 = omega arith in some
note_some (Some fault.SegmentMisplaced) = let some : 0 < 3 = omega arith in some
note_some (Some fault.GroupHeaderInvalid) = let some : 0 < 3 = omega arith in some
note_some (Some fault.SetHeaderInvalid) = let some : 0 < 3 = omega arith in some
note_some (Some fault.SenderUnknown) = tt
note_some (Some fault.Duplicate) = let some : 0 < 3 = omega arith in some

taken : (b : Bool) (o : Option (List ℕ)) (note : List ℕ) → (if b then o else None) ≡ Some note → o ≡ Some note
taken true o note is = is
taken false o note is = cc

note_is_some : (sender : Option ℕ) (f : Option InterchangeFault) (x : InterchangeEntry) (note : List ℕ) → ta1_note sender f x ≡ Some note
    → 0 < length note
note_is_some sender f x note is =
    subst (λ (o : Option (List ℕ)). IfSome o (λ n. 0 < length n)) (taken (is_answered sender f x) (note_text f) note is) (note_some f)

-- nothing is left off at the end of a TA1
ta1_is : (header note : List ℕ) → 0 < length note → ta1s_in (written_parts (ta1 header note) ∷ []) ≡ ta1s_with header (Some note)
ta1_is header note some =
    ap (λ (xs : Elements). xs ∷ [])
    (trimmed-push_full (field_of header 13 ∷ field_of header 9 ∷ field_of header 10 ∷ acknowledgment_code note ∷ []) note some)

module _ (setup : SetupValue) (at : List ℕ) (moment : IsMoment at) (p : Partner) (count : ℕ)
    (hub_ids : are_ids setup.hub.qualifier setup.hub.id setup.hub.code ≡ true) (sound : IsSoundPartner count p) where
  abbrev d : Delims
  d = p.delims

  abbrev e : Envelope
  e = envelope_to setup p

  -- a segment around acknowledgments has no response
  silent : (s : WrittenSegment) (ts : List Elements) → IsReadable d s
      → ((ak2 : Elements) (ss : List Elements) → responses_after ak2 (written_parts s ∷ ss) ≡ responses_after ak2 ss)
      → ta1s_in (written_parts s ∷ []) ≡ ts → IsAck d (segment_text d s.id s.elements) [] ts
  silent s ts readable past same = other d s ts readable past same

  isa_read : (number : ℕ) → IsAck d (header_text e at number) [] []
  isa_read number =
      subst (λ (t : List ℕ). IsAck d t [] []) (sym (isa_text e at number))
      (silent (isa e at number) [] (readable_isa setup p count hub_ids sound at moment number) (λ ak2 ss. refl) refl)

  gs_read : (control : ℕ) → IsAck d (segment_text d (gs e at control).id (gs e at control).elements) [] []
  gs_read control = silent (gs e at control) [] (readable_gs setup p count hub_ids sound at moment control) (λ ak2 ss. refl) refl

  ge_read : (reports control : ℕ) → IsAck d (segment_text d (ge reports control).id (ge reports control).elements) [] []
  ge_read reports control =
      silent (ge reports control) [] (readable_ge setup p count hub_ids sound at moment reports control) (λ ak2 ss. refl) refl

  iea_read : (groups number : ℕ) → IsAck d (segment_text d (iea groups number).id (iea groups number).elements) [] []
  iea_read groups number =
      silent (iea groups number) [] (readable_iea setup p count hub_ids sound at moment groups number) (λ ak2 ss. refl) refl

  ta1_read : (sender : Option ℕ) (f : Option InterchangeFault) (x : InterchangeEntry) (note : Option (List ℕ)) → ta1_note sender f x ≡ note
      → IsAck d (ta1_part (option_map (ta1_text d x.header) note)) [] (ta1s_with x.header note)
  ta1_read sender f x None is = nothing d
  ta1_read sender f x (Some note) is =
      let noted = repeated sender f x note is in
      silent (ta1 x.header note) (ta1s_with x.header (Some note))
      (readable_ta1 setup p count hub_ids sound at moment x.header note noted.control noted.day noted.time noted.said)
      (λ ak2 ss. refl) (ta1_is x.header note (note_is_some sender f x note is))

  reports_read : (n : ℕ) (groups : List AnsweredGroup) → All (IsQuoted d) groups
      → IsAck d (texts_in_row (reports_from d n groups)) (flat_map group_responses groups) []
  reports_read n [] quoted = nothing d
  reports_read n (a ∷ more) quoted =
      both d (text_999 d a.answer a.sets n) (texts_in_row (reports_from d (n + 1) more)) (group_responses a) (flat_map group_responses more)
      [] [] (report d a.answer a.sets n sound.divides (All-head (IsQuoted d) a more quoted))
      (reports_read (n + 1) more (All-tail (IsQuoted d) a more quoted))

  -- the group has the responses of its reports
  grouped : (control : ℕ) (reports : List (List ℕ)) (rs : List Response) → IsAck d (texts_in_row reports) rs []
      → IsAck d (group_part e at control reports) rs []
  grouped control [] rs inner = inner
  grouped control (report ∷ reports) rs inner =
      let first : List ℕ = segment_text d (gs e at control).id (gs e at control).elements in
      let rows : List ℕ = texts_in_row (report ∷ reports) in
      let n : ℕ = length (report ∷ reports) in
      let last : List ℕ = segment_text d (ge n control).id (ge n control).elements in
      subst (λ (xs : List Response). IsAck d (group_part e at control (report ∷ reports)) xs []) (append-nil rs)
      (both d (first ++ rows) last rs [] [] [] (both d first rows [] rs [] [] (gs_read control) inner) (ge_read n control))

  -- an interchange has the responses of its reports, and its TA1
  around : (number control : ℕ) (part : Option (List ℕ)) (ts : List Elements) (reports : List (List ℕ)) (rs : List Response)
      → IsAck d (ta1_part part) [] ts → IsAck d (texts_in_row reports) rs []
      → IsAck d (interchange_text e at number control part reports) rs ts
  around number control part ts reports rs answer inner =
      let head : List ℕ = header_text e at number in
      let group : List ℕ = group_part e at control reports in
      let end : List ℕ = segment_text d (iea (group_count reports) number).id (iea (group_count reports) number).elements in
      let front = both d head (ta1_part part) [] [] [] ts (isa_read number) answer in
      let all = both d ((head ++ ta1_part part) ++ group) end rs [] (ts ++ []) []
      (both d (head ++ ta1_part part) group [] rs ts [] front (grouped control reports rs inner)) (iea_read (group_count reports) number) in
      subst (λ (xs : List Response). IsAck d (interchange_text e at number control part reports) xs ts) (append-nil rs)
      (subst (λ (us : List Elements). IsAck d (interchange_text e at number control part reports) (rs ++ []) us)
      (append-nil (ts ++ []) ∙ append-nil ts) all)

  one_read : (number control : ℕ) (c : CheckedInterchange) → All (IsQuoted d) (present c.groups)
      → IsAck d (acknowledgment_text e at number control (acknowledgment_of c)) (responses_to (acknowledgment_of c))
      (ta1s_to (acknowledgment_of c))
  one_read number control c quoted =
      around number control (ta1_of d (acknowledgment_of c)) (ta1s_to (acknowledgment_of c)) (reports_from d 1 (present c.groups))
      (responses_to (acknowledgment_of c))
      (ta1_read c.sender c.entry.fault c.entry.interchange (acknowledgment_of c).note refl)
      (reports_read 1 (present c.groups) quoted)

  -- the acknowledgments of interchanges, before which there are k others and g groups
  pub acknowledgments_read : (k g : ℕ) (cs : List CheckedInterchange)
      → All (λ (c : CheckedInterchange). All (IsQuoted d) (present c.groups)) cs
      → IsAck d (acknowledgments_from setup p at k g cs) (flat_map (λ c. responses_to (acknowledgment_of c)) cs)
      (flat_map (λ c. ta1s_to (acknowledgment_of c)) cs)
  acknowledgments_read k g [] quoted = nothing d
  acknowledgments_read k g (c ∷ cs) quoted =
      let Q : CheckedInterchange → Type 0 = λ x. All (IsQuoted d) (present x.groups) in
      let a : Acknowledgment = acknowledgment_of c in
      both d (acknowledgment_text e at (num p.counters.interchange k) (num p.counters.group g) a)
      (acknowledgments_from setup p at (k + 1) (g + acknowledgment_group_count a) cs)
      (responses_to a) (flat_map (λ x. responses_to (acknowledgment_of x)) cs) (ta1s_to a)
      (flat_map (λ x. ta1s_to (acknowledgment_of x)) cs)
      (one_read (num p.counters.interchange k) (num p.counters.group g) c (All-head Q c cs quoted))
      (acknowledgments_read (k + 1) (g + acknowledgment_group_count a) cs (All-tail Q c cs quoted))
