-- The 999s and the TA1 of an interchange.
use Rattle.std.proofs.Common.{◌≡◌, ℕ, zero, suc, ◌+◌, List, [], ◌∷◌, ◌++◌, map, Bool, true, false, ◌&&◌, ◌||◌, not, Option, Some, None}
use Rattle.std.proofs.Common.{length, refl, sym, ap, ◌∙◌, arith}
use Rattle.std.proofs.Math.Path.{fun_ext}
use Rattle.std.proofs.lemmas.Bool.{eqb-true, eq-eqb}
use Rattle.std.proofs.lemmas.List.{map-append, length-map, append-nil}
use Rattle.std.proofs.lemmas.List.Elements.{All-head, All-tail}
use Rattle.std.proofs.lemmas.List.Folds.{flat_map-map}
use Rattle.std.proofs.lemmas.List.Sums.{sum_by-cons}
use Rattle.std.proofs.lemmas.Grind.{flat_map-append}
use Rattle.std.specs.Prelude.{◌==◌, nat_le, if◌then◌else◌, codes, decimal, take, flat_map, count_by, unwrap_or, All}
use Rattle.std.specs.List.{list_all, list_any}
use Rattle.std.specs.Option.{option_map_or}
use Rattle.x12_bytes.specs.declared.delims.Delims.{Delims}
use Rattle.hub_kinds.specs.Words as words
use Rattle.hub_kinds.specs.declared.fault.Fault.{Fault}
use Rattle.hub_kinds.specs.declared.fault.ElemFault.{ElemFault}
use Rattle.hub_kinds.specs.declared.answers.SetAnswer.{SetAnswer}
use Rattle.hub_kinds.specs.declared.set_codes.SetCode.{SetCode}
use Rattle.hub_kinds.specs.declared.set_codes.GroupCode.{GroupCode}
use Rattle.hub_kinds.specs.declared.set_codes.GroupCode.TheVariants as ak905
use Rattle.hub_kinds.specs.declared.set_codes.Verdict.{Verdict}
use Rattle.hub_kinds.specs.declared.set_codes.Verdict.TheVariants as ik501
use Rattle.x12_write.specs.Delimiters as old_delims
use Rattle.x12_write.specs.Segment.{WrittenSegment, segment_text, segments_text}
use Rattle.x12_write.specs.Segment as old_segment
use Rattle.ack_999.specs.Copy as old_copy
use Rattle.ack_999.specs.Faults as old_faults
use Rattle.ack_999.specs.Group as old_group
use Rattle.ack_999.specs.Report as old
use Rattle.ack_999.specs.Ta1 as old_ta1
use Rattle.night_definition.specs.Header as room_header
use Rattle.night_definition.specs.Elements as room_elements
use Rattle.night_definition.specs.Segments.{Elements, Segment, element}
use Rattle.night_definition.specs.Written as room_written
use Rattle.night_definition.specs.Codes as room_codes
use Rattle.night_definition.specs.Answers.{Answer, AnsweredGroup, accepted_sets}
use Rattle.night_definition.specs.Answers as room_answers
use Rattle.night_definition.specs.Acknowledgments as room
use Rattle.night_equal_writing.specs.Acknowledgments.{AcknowledgmentsAreOne, HasItsCode, HaveTheirCodes, seen, set_answer, group_answer}
use Rattle.night_equal_writing.proofs.Codes as codes_are
use Rattle.night_equal_writing.proofs.Texts.{trimmed_is, segment_is}

-- a test of a byte that is the same either way round
pub same_either : (a b : ℕ) → (a == b) ≡ (b == a)
same_either a b = by (a == b) (b == a) refl refl
  where
    by : (p q : Bool) → (a == b) ≡ p → (b == a) ≡ q → p ≡ q
    by true true e f = refl
    by false false e f = refl
    by true false e f = sym (eq-eqb b a (sym (eqb-true a b e))) ∙ f
    by false true e f = sym e ∙ eq-eqb a b (sym (eqb-true b a f))

pub this_is : (s : Option ℕ) (b : ℕ) → room_elements.is_this s b ≡ old_delims.is_this s b
this_is None b = refl
this_is (Some a) b = same_either b a

pub delimiter_is : (d : Delims) (b : ℕ) → room.is_delimiter d b ≡ old_delims.is_delimiter d b
delimiter_is d b = ap (λ t. b == d.element || b == d.component || b == d.terminator || t) (this_is d.repetition b)

pub copy_is : (d : Delims) (text : List ℕ) → room.copy_text d text ≡ old_copy.copy_text d text
copy_is d text =
    ap (λ (p : ℕ → Bool). if list_all p text then take 99 text else [])
    (fun_ext (λ b. ap (λ t. nat_le 32 b && nat_le b 126 && not t) (delimiter_is d b)))

ik3_is : (d : Delims) (f : Fault) → HasItsCode f → room.ik3 f ≡ seen (old_faults.note_segment d (old_faults.SegmentNote f))
ik3_is d f has =
    ap (λ t. codes "IK3" ∷ room.id_text f.id ∷ decimal f.position ∷ f.loop_id ∷ t ∷ [])
    (ap (λ (x : List ℕ × ℕ). x.0) (codes_are.segment f.code) ∙ sym (ap words.segment_code_text has))

ik4_is : (d : Delims) (e : ElemFault) → room.ik4 d e ≡ seen (old_faults.note_segment d (old_faults.ElementNote e))
ik4_is d e =
    ap (λ (ns : List (List ℕ)). codes "IK4" ∷ (decimal e.element ++ flat_map (λ n. d.component ∷ n) ns) ∷ e.reference
    ∷ (room_codes.ik403_of e.code).0 ∷ room.copy_text d e.copy ∷ [])
    (trimmed_is (room.shown e.component ∷ room.shown e.repetition ∷ []))
    ∙ ap (λ t. codes "IK4" ∷ old_faults.position_text d.component e ∷ e.reference ∷ t ∷ room.copy_text d e.copy ∷ [])
    (ap (λ (x : List ℕ × ℕ). x.0) (codes_are.element e.code))
    ∙ ap (λ t. codes "IK4" ∷ old_faults.position_text d.component e ∷ e.reference ∷ words.element_code_text e.code ∷ t ∷ [])
    (copy_is d e.copy)

-- a note before others
noted : (d : Delims) (b : Bool) (f : Fault) (e : ElemFault) (rest : List Elements) (more : List old_faults.Note)
    → HasItsCode f → rest ≡ map seen (map (old_faults.note_segment d) more)
    → ((if b then [] else room.ik3 f ∷ []) ++ room.ik4 d e ∷ rest)
    ≡ map seen (map (old_faults.note_segment d) (((if b then [] else old_faults.SegmentNote f ∷ []) ++ old_faults.ElementNote e ∷ [])
    ++ more))
noted d true f e rest more has is = ap (λ s. s ∷ rest) (ik4_is d e) ∙ ap
    (λ r. seen (old_faults.note_segment d (old_faults.ElementNote e)) ∷ r) is
noted d false f e rest more has is =
    ap (λ s. s ∷ room.ik4 d e ∷ rest) (ik3_is d f has)
    ∙ ap (λ r. seen (old_faults.note_segment d (old_faults.SegmentNote f)) ∷ r)
    (ap (λ s. s ∷ rest) (ik4_is d e) ∙ ap (λ r. seen (old_faults.note_segment d (old_faults.ElementNote e)) ∷ r) is)

pub notes_are : (d : Delims) (before : Option ℕ) (faults : List Fault) → All HasItsCode faults
    → room.fault_segments d before faults ≡ map seen (map (old_faults.note_segment d) (old_faults.notes_behind before faults))
notes_are d before [] all = refl
notes_are d before (f ∷ faults) all =
    by f.elem (All-head HasItsCode f faults all) (λ n. notes_are d n faults (All-tail HasItsCode f faults all))
  where
    by : (o : Option ElemFault) → HasItsCode (record f { elem = o })
        → ((n : Option ℕ) → room.fault_segments d n faults ≡ map seen
        (map (old_faults.note_segment d) (old_faults.notes_behind n faults)))
        → room.fault_segments d before (record f { elem = o } ∷ faults)
        ≡ map seen (map (old_faults.note_segment d) (old_faults.notes_behind before (record f { elem = o } ∷ faults)))
    by None has more =
        ap (λ s. s ∷ room.fault_segments d None faults) (ik3_is d (record f { elem = None }) has)
        ∙ ap (λ r. seen (old_faults.note_segment d (old_faults.SegmentNote (record f { elem = None }))) ∷ r)
        (more None)
    by (Some e) has more =
        let g : Fault = record f { elem = Some e } in
        noted d (room_elements.is_this before f.position) g e (room.fault_segments d (Some f.position) faults)
        (old_faults.notes_behind (Some f.position) faults) has (more (Some f.position))
        ∙ ap (λ (b : Bool). map seen (map (old_faults.note_segment d)
        (((if b then [] else old_faults.SegmentNote g ∷ []) ++ old_faults.ElementNote e ∷ [])
        ++ old_faults.notes_behind (Some f.position) faults))) (this_is before f.position)

pub set_is : (d : Delims) (a : Answer) → All HasItsCode a.faults
    → room.set_segments d a ≡ map seen (old.set_segments d (set_answer a))
set_is d a all =
    let st : Elements = a.set.header.elements in
    let ak2 : Elements = codes "AK2" ∷ element 1 st ∷ element 2 st ∷ old.convention_text (element 3 st) ∷ [] in
    ap (λ fs. ak2 ∷ fs ++ (codes "IK5" ∷ room_codes.verdict_text a.verdict ∷ map room_codes.set_code_text a.codes) ∷ [])
    (notes_are d None a.faults all)
    ∙ ap (λ v. ak2 ∷ map seen (old_faults.fault_segments d a.faults) ++ (codes "IK5" ∷ v ∷ map room_codes.set_code_text a.codes) ∷ [])
    (codes_are.verdict a.verdict)
    ∙ ap (λ (h : SetCode → List ℕ). ak2 ∷ map seen (old_faults.fault_segments d a.faults)
    ++ (codes "IK5" ∷ words.verdict_text a.verdict ∷ map h a.codes) ∷ []) (fun_ext codes_are.set)
    ∙ sym (ap (λ r. ak2 ∷ r) (map-append seen (old_faults.fault_segments d a.faults) (old.set_response (set_answer a) ∷ [])))

pub sets_are : (d : Delims) (answers : List Answer) → All (λ (a : Answer). All HasItsCode a.faults) answers
    → flat_map (room.set_segments d) answers ≡ map seen (flat_map (old.set_segments d) (map set_answer answers))
sets_are d [] all = refl
sets_are d (a ∷ answers) all =
    let P : Answer → Type 0 = λ (a : Answer). All HasItsCode a.faults in
    ap (λ s. s ++ flat_map (room.set_segments d) answers) (set_is d a (All-head P a answers all))
    ∙ ap (λ r. map seen (old.set_segments d (set_answer a)) ++ r) (sets_are d answers (All-tail P a answers all))
    ∙ sym (map-append seen (old.set_segments d (set_answer a)) (flat_map (old.set_segments d) (map set_answer answers)))

hides_is : (c : GroupCode) → room.hides_sets c ≡ old.hides_sets c
hides_is ak905.NotSupported = refl
hides_is ak905.VersionNotSupported = refl
hides_is ak905.TrailerMissing = refl
hides_is ak905.ControlNumbersDiffer = refl
hides_is ak905.SetCountWrong = refl
hides_is ak905.ControlNumberNotUnique = refl

shown_sets : (b : Bool) (ss : List WrittenSegment) → (if b then [] else map seen ss) ≡ map seen (if not b then ss else [])
shown_sets true ss = refl
shown_sets false ss = refl

-- how many sets have a verdict
counted : (p : Verdict → Bool) (answers : List Answer) → count_by (λ (a : Answer). p a.verdict) answers
    ≡ count_by p (old_group.verdicts_of (map set_answer answers))
counted p [] = refl
counted p (a ∷ answers) =
    sum_by-cons (λ (a : Answer). if p a.verdict then 1 else 0) a answers
    ∙ ap (λ n. (if p a.verdict then 1 else 0) + n) (counted p answers)
    ∙ sym (sum_by-cons (λ v. if p v then 1 else 0) a.verdict (old_group.verdicts_of (map set_answer answers)))

abbrev one : (Verdict → Bool) → Verdict → ℕ
one p v = if p v then 1 else 0

step : (p : Verdict → Bool) (v : Verdict) (vs : List Verdict) → count_by p (v ∷ vs) ≡ one p v + count_by p vs
step p v vs = sum_by-cons (one p) v vs

one_of_three : (v : Verdict) → one old_group.is_accepted v + one old_group.is_accepted_with_errors v + one old_group.is_rejected v ≡ 1
one_of_three ik501.Accepted = refl
one_of_three ik501.AcceptedWithErrors = refl
one_of_three ik501.Rejected = refl

one_of_two : (v : Verdict) → one (λ v. not (room_answers.is_rejected v)) v
    ≡ one old_group.is_accepted v + one old_group.is_accepted_with_errors v
one_of_two ik501.Accepted = refl
one_of_two ik501.AcceptedWithErrors = refl
one_of_two ik501.Rejected = refl

received : (vs : List Verdict)
    → count_by old_group.is_accepted vs + count_by old_group.is_accepted_with_errors vs + count_by old_group.is_rejected vs ≡ length vs
received [] = refl
received (v ∷ vs) =
    omega (
      arith,
      step old_group.is_accepted v vs,
      step old_group.is_accepted_with_errors v vs,
      step old_group.is_rejected v vs,
      one_of_three v,
      received vs,
    )

accepted : (vs : List Verdict)
    → count_by (λ v. not (room_answers.is_rejected v)) vs
    ≡ count_by old_group.is_accepted vs + count_by old_group.is_accepted_with_errors vs
accepted [] = refl
accepted (v ∷ vs) =
    omega (
      arith,
      step (λ v. not (room_answers.is_rejected v)) v vs,
      step old_group.is_accepted v vs,
      step old_group.is_accepted_with_errors v vs,
      one_of_two v,
      accepted vs,
    )

pub received_is : (answers : List Answer) → old_group.received_sets (old_group.totals_of (map set_answer answers)) ≡ length answers
received_is answers =
    received (old_group.verdicts_of (map set_answer answers))
    ∙ length-map (map set_answer answers) (λ (s : SetAnswer). s.verdict) ∙ length-map answers set_answer

pub accepted_is : (g : AnsweredGroup) → accepted_sets g ≡ old.accepted_sets g.codes (old_group.totals_of (map set_answer g.answers))
accepted_is g = by g.codes
  where
    by : (cs : List GroupCode) → accepted_sets (record g { codes = cs })
        ≡ old.accepted_sets cs (old_group.totals_of (map set_answer g.answers))
    by [] = counted (λ v. not (room_answers.is_rejected v)) g.answers ∙ accepted (old_group.verdicts_of (map set_answer g.answers))
    by (c ∷ cs) = refl

listed_is : (trailer : Option Segment) (n : ℕ)
    → unwrap_or (option_map_or (λ (ge : Segment). room_header.number_of 6 (element 1 ge.elements)) trailer None) n
    ≡ unwrap_or (words.number_of 6 (option_map_or (λ (ge : Segment). element 1 ge.elements) trailer [])) n
listed_is None n = refl
listed_is (Some ge) n = refl

pub written_is : (d : Delims) (ss : List WrittenSegment) → flat_map (room.written d) (map seen ss) ≡ segments_text d ss
written_is d ss =
    flat_map-map (room.written d) seen ss
    ∙ ap (λ (h : WrittenSegment → List ℕ). flat_map h ss) (fun_ext (λ s. segment_is d s.id s.elements))

abbrev inner_of : Delims → ℕ → AnsweredGroup → List WrittenSegment
inner_of d n g =
    old.head_segments (group_answer g) n ++ old.set_loops d (group_answer g) (map set_answer g.answers)
    ++ old.group_response (group_answer g) (old_group.totals_of (map set_answer g.answers)) ∷ []

ak9_is : (g : AnsweredGroup)
    → (codes "AK9" ∷ room_codes.group_verdict_text g.verdict
    ∷ decimal (unwrap_or (option_map_or (λ (ge : Segment). room_header.number_of 6 (element 1 ge.elements)) g.group.trailer None)
    (length g.answers))
    ∷ decimal (length g.answers) ∷ decimal (accepted_sets g) ∷ map room_codes.group_code_text g.codes)
    ≡ seen (old.group_response (group_answer g) (old_group.totals_of (map set_answer g.answers)))
ak9_is g =
    let listed : List ℕ = option_map_or (λ (ge : Segment). element 1 ge.elements) g.group.trailer [] in
    ap (λ v. codes "AK9" ∷ v ∷ decimal
    (unwrap_or (option_map_or (λ (ge : Segment). room_header.number_of 6 (element 1 ge.elements)) g.group.trailer None)
    (length g.answers))
    ∷ decimal (length g.answers) ∷ decimal (accepted_sets g) ∷ map room_codes.group_code_text g.codes) (codes_are.group_verdict g.verdict)
    ∙ ap (λ n. codes "AK9" ∷ words.group_verdict_text g.verdict ∷ decimal n
    ∷ decimal (length g.answers) ∷ decimal (accepted_sets g) ∷ map room_codes.group_code_text g.codes)
    (listed_is g.group.trailer (length g.answers))
    ∙ ap (λ n. codes "AK9" ∷ words.group_verdict_text g.verdict ∷ decimal (unwrap_or (words.number_of 6 listed) n)
    ∷ decimal n ∷ decimal (accepted_sets g) ∷ map room_codes.group_code_text g.codes) (sym (received_is g.answers))
    ∙ ap (λ n. codes "AK9" ∷ words.group_verdict_text g.verdict ∷ decimal
    (unwrap_or (words.number_of 6 listed) (old_group.received_sets (old_group.totals_of (map set_answer g.answers))))
    ∷ decimal (old_group.received_sets (old_group.totals_of (map set_answer g.answers))) ∷ decimal n
    ∷ map room_codes.group_code_text g.codes) (accepted_is g)
    ∙ ap (λ (h : GroupCode → List ℕ). codes "AK9" ∷ words.group_verdict_text g.verdict
    ∷ decimal (unwrap_or (words.number_of 6 listed) (old_group.received_sets (old_group.totals_of (map set_answer g.answers))))
    ∷ decimal (old_group.received_sets (old_group.totals_of (map set_answer g.answers)))
    ∷ decimal (old.accepted_sets g.codes (old_group.totals_of (map set_answer g.answers))) ∷ map h g.codes) (fun_ext codes_are.group)

pub report_segments_are : (d : Delims) (n : ℕ) (g : AnsweredGroup) → HaveTheirCodes g → room.report_segments d n g
    ≡ map seen (inner_of d n g)
report_segments_are d n g all =
    let gs : Elements = g.group.header.elements in
    let st : Elements = codes "ST" ∷ codes "999" ∷ room_written.set_number n ∷ codes "005010X231" ∷ [] in
    let ak1 : Elements = codes "AK1" ∷ element 1 gs ∷ element 6 gs ∷ element 8 gs ∷ [] in
    let sets : List SetAnswer = map set_answer g.answers in
    ap (λ ak9. st ∷ ak1 ∷ (if list_any room.hides_sets g.codes then [] else flat_map (room.set_segments d) g.answers) ++ ak9 ∷ [])
    (ak9_is g)
    ∙ ap (λ r. st ∷ ak1 ∷ (if list_any room.hides_sets g.codes then [] else r)
    ++ seen (old.group_response (group_answer g) (old_group.totals_of sets)) ∷ []) (sets_are d g.answers all)
    ∙ ap (λ (p : GroupCode → Bool). st ∷ ak1 ∷ (if list_any p g.codes then [] else map seen (flat_map (old.set_segments d) sets))
    ++ seen (old.group_response (group_answer g) (old_group.totals_of sets)) ∷ []) (fun_ext hides_is)
    ∙ ap (λ r. st ∷ ak1 ∷ r ++ seen (old.group_response (group_answer g) (old_group.totals_of sets)) ∷ [])
    (shown_sets (list_any old.hides_sets g.codes) (flat_map (old.set_segments d) sets))
    ∙ sym (ap (λ r. st ∷ ak1 ∷ r) (map-append seen (old.set_loops d (group_answer g) sets)
    (old.group_response (group_answer g) (old_group.totals_of sets) ∷ [])))

pub report_is : (d : Delims) (n : ℕ) (g : AnsweredGroup) → HaveTheirCodes g
    → room.report_text d n g ≡ old.text_999 d (group_answer g) (map set_answer g.answers) n
report_is d n g all =
    let inner : List WrittenSegment = inner_of d n g in
    ap (λ (ss : List Elements). flat_map (room.written d) ss
    ++ room.written d (codes "SE" ∷ decimal (length ss + 1) ∷ room_written.set_number n ∷ [])) (report_segments_are d n g all)
    ∙ ap (λ t. t ++ room.written d (codes "SE" ∷ decimal (length (map seen inner) + 1) ∷ room_written.set_number n ∷ []))
    (written_is d inner)
    ∙ ap (λ k. segments_text d inner ++ room.written d (codes "SE" ∷ decimal (k + 1) ∷ room_written.set_number n ∷ []))
    (length-map inner seen)
    ∙ ap (λ t. segments_text d inner ++ t) (segment_is d (codes "SE") (decimal (length inner + 1) ∷ room_written.set_number n ∷ [])
    ∙ sym (append-nil (segment_text d (codes "SE") (decimal (length inner + 1) ∷ room_written.set_number n ∷ []))))
    ∙ sym (flat_map-append (λ (s : WrittenSegment). segment_text d s.id s.elements) inner (old.set_trailer (length inner + 1) n ∷ []))

pub ta1_is : (d : Delims) (header note : List ℕ) → room.ta1_text d header note ≡ old_ta1.ta1_text d header note
ta1_is d header note =
    segment_is d (codes "TA1") (room_header.field 13 header ∷ room_header.field 9 header ∷ room_header.field 10 header
    ∷ room.ta1_code note ∷ note ∷ [])

pub acknowledgments_are_one : AcknowledgmentsAreOne
acknowledgments_are_one = record {
  copy = copy_is;
  faults = λ d faults all. notes_are d None faults all;
  set = set_is;
  report = report_is;
  ta1 = ta1_is;
}
