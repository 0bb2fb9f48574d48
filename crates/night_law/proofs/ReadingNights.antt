-- What a partner reads in the acknowledgments of a night.
use Rattle.std.proofs.Common.{◌≡◌, ℕ, ◌+◌, Bool, true, false, cond, not, List, [], ◌∷◌, ◌++◌, Option, Some, None, length, refl, sym}
use Rattle.std.proofs.Common.{ap, subst, ◌∙◌, arith, append-nil}
use Rattle.std.specs.Prelude.{◌&&◌, ◌||◌, filter, is_none, is_some, option_map, slice_get, if◌then◌else◌}
use Rattle.std.specs.List.{All, flat_map}
use Rattle.std.proofs.lemmas.List.Elements.{All-cons, All-head, All-nil, All-tail}
use Rattle.x12_bytes.specs.declared.delims.Delims.{Delims}
use Rattle.x12_write.specs.declared.envelope.Envelope.{Envelope}
use Rattle.x12_write.specs.Group.{texts_in_row}
use Rattle.x12_write.specs.Header.{header_text}
use Rattle.x12_write.specs.Segment.{WrittenSegment, segment_text}
use Rattle.x12_write.specs.Undivided.{CanDivide, IsUndivided}
use Rattle.moment.specs.Moment.{IsMoment}
use Rattle.env_index.specs.Words.{IndexEntry, IndexValue, settled, GroupEntry, InterchangeEntry}
use Rattle.count_numbers.specs.Num.{num}
use Rattle.partner_setup.specs.declared.partner.Partner.{Partner}
use Rattle.partner_setup.specs.Envelopes.{envelope_to}
use Rattle.partner_setup.specs.Setup.{SetupValue, sender_of}
use Rattle.partner_setup.specs.Sound.{IsSoundPartner, IsSoundSetup}
use Rattle.partner_setup.specs.SetupFaults.{are_ids}
use Rattle.hub_kinds.specs.declared.interchange.InterchangeFault.{InterchangeFault}
use Rattle.answered_sets.specs.Answered.{ta1_note}
use Rattle.answered_sets.specs.Judged.{responded_groups}
use Rattle.ack_999.specs.Interchange.{group_count, group_part, interchange_text, ta1_part}
use Rattle.ack_999.specs.Ta1.{ta1_text}
use Rattle.ack_999.specs.ReadBack.{written_parts}
use Rattle.ack_999.proofs.ForAbove.{IsReadable}
use Rattle.ack_999.specs.Report.{shows_sets, text_999}
use Rattle.set_answers.specs.declared.answered.AnsweredGroup.{AnsweredGroup}
use Rattle.set_answers.specs.Acknowledgments.{acknowledgment_text, acknowledgment_group_count, present, reports_from, ta1_of}
use Rattle.set_answers.specs.Answers.{SentValue}
use Rattle.set_answers.specs.CheckedText.{CheckedInterchange, AreCheckedAs, IsCheckedAs, acknowledged_to, acknowledgments_from}
use Rattle.set_answers.specs.CheckedText.{AreAnswersBy, acknowledgment_of, is_acknowledged_to, sent_by}
use Rattle.set_answers.specs.Pairs.{AreAllPairs}
use Rattle.set_answers.specs.Settled.{settled_faults}
use Rattle.night_batches.specs.declared.night.Night.{Night}
use Rattle.night_batches.specs.Night.{IsNight, acks_of}
use Rattle.night_law.specs.Quotable.{IsGroupQuotable}
use Rattle.night_law.specs.ReadBack.{AreReadBack, IsReadBack, IsResponseTo, SentSet}
use Rattle.night_law.specs.ReadBack.{answered_sets_in, sets_in_group, sets_told_to}
use Rattle.night_law.specs.Responses.{Response, responses_behind}
use Rattle.night_law.specs.Ta1sRead.{AreTa1sReadBack, AreTa1sReadBackBy, Ta1, ta1s_by, ta1s_of, ta1s_to, ta1s_told_to}
use Rattle.night_law.specs.Told.{groups_told, has_responses, is_from, is_told_to, note_to}
use Rattle.night_law.proofs.Enveloping.{component, ge, gs, iea, isa, isa_text, readable_ge, readable_gs, readable_iea, readable_isa}
use Rattle.night_law.proofs.Enveloping.{readable_ta1, ta1}
use Rattle.night_law.proofs.Repeated.{repeated}
use Rattle.night_law.proofs.Headers.{HasHeader, HaveHeaders, at_index, settled_headers}
use Rattle.night_law.proofs.Pairs.{pairs_tail, pairs_weaker_at}
use Rattle.night_law.proofs.QuotedElements.{AreElementsUndivided, elements_undivided}
use Rattle.night_law.proofs.Reading.{shown_responses}
use Rattle.night_law.proofs.ReadingSets.{group_quoted, group_together}
use Rattle.night_law.proofs.SettledSound.{IsSettledSound, settled_sound}
use Rattle.night_law.proofs.TellingNights.{IsAnsweredGroup, acknowledged_as_told, answered_anywhere, answers_here}
use Rattle.night_law.proofs.Together.{Together, together_append, together_pairs}
use Rattle.night_law.proofs.Silent.{ta1_said}
use Rattle.night_law.proofs.Written.{IsWritten, nothing_written, one_behind, other_written, report_written, responses_read, ta1s_read}

-- a text in which responses to these sets are read, and these TA1s
pub record AreResponses (d : Delims) (sets : List SentSet) (ta1s : List Ta1) (text : List ℕ) : Type 0 where
  pub responses : List Response
  pub written : IsWritten d text responses ta1s
  pub together : Together IsResponseTo sets responses

pub no_responses : (d : Delims) → AreResponses d [] [] []
no_responses d = record { responses = []; written = nothing_written d; together = tt }

both_read : (d : Delims) (xs ys : List SentSet) (ts us : List Ta1) (a b : List ℕ) → AreResponses d xs ts a → AreResponses d ys us b
    → AreResponses d (xs ++ ys) (ts ++ us) (a ++ b)
both_read d xs ys ts us a b front back = record {
  responses = front.responses ++ back.responses;
  written = one_behind d a b front.responses back.responses ts us front.written back.written;
  together = together_append IsResponseTo xs ys front.responses back.responses front.together back.together;
}

-- the sets of a group have the STs that are read, and its elements are undivided
abbrev pub IsGroupRead : Delims → SentValue → GroupEntry → Type 0
IsGroupRead d sent g = All (HasHeader sent.text sent.delims) g.sets × AreElementsUndivided d g

-- both of each group
pub groups_read : (d : Delims) (sent : SentValue) (gs : List GroupEntry)
    → All (λ (g : GroupEntry). All (HasHeader sent.text sent.delims) g.sets) gs → All (AreElementsUndivided d) gs
    → All (IsGroupRead d sent) gs
groups_read d sent [] headers elements = All-nil (IsGroupRead d sent)
groups_read d sent (g ∷ gs) headers elements =
    let H : GroupEntry → Type 0 = λ x. All (HasHeader sent.text sent.delims) x.sets in
    let E : GroupEntry → Type 0 = AreElementsUndivided d in
    All-cons (IsGroupRead d sent) g gs (All-head H g gs headers, All-head E g gs elements)
    (groups_read d sent gs (All-tail H g gs headers) (All-tail E g gs elements))

-- the sets of an interchange have the STs that are read, and without a fault it has none of the faults 1 to 7
abbrev pub IsRead : (text : List ℕ) → IndexEntry → Type 0
IsRead text entry = HaveHeaders text entry.interchange × IsSettledSound entry

-- the 999s of the groups that are answered
reports_read : (d : Delims) → CanDivide d → IsUndivided d (d.component ∷ []) → (sent : SentValue) (n : ℕ)
    (groups : List GroupEntry) (answers : List (Option AnsweredGroup))
    → All (IsGroupRead d sent) groups → All (IsGroupQuotable d sent) (responded_groups groups)
    → AreAllPairs (λ m group answered. IsAnsweredGroup sent group answered) groups answers
    → AreResponses d (answered_sets_in sent groups) [] (texts_in_row (reports_from d n (present answers)))
reports_read d can separator sent n [] [] headers quotable are = no_responses d
reports_read d can separator sent n [] (a ∷ more) headers quotable are = absurd (omega (arith, are.count))
reports_read d can separator sent n (g ∷ gs) [] headers quotable are = absurd (omega (arith, are.count))
reports_read d can separator sent n (g ∷ gs) (None ∷ more) headers quotable are =
    let H : GroupEntry → Type 0 = IsGroupRead d sent in
    let first : IsAnsweredGroup sent g None = are.each 0 g None refl refl in
    let same : responded_groups (g ∷ gs) ≡ responded_groups gs =
    ap (λ (b : Bool). cond (not b) (g ∷ responded_groups gs) (responded_groups gs)) first.1 in
    subst (λ (xs : List GroupEntry). AreResponses d (flat_map (sets_in_group sent) xs) []
    (texts_in_row (reports_from d n (present more))))
    (sym same)
    (reports_read d can separator sent n gs more (All-tail H g gs headers) (subst (All (IsGroupQuotable d sent)) same quotable)
    (pairs_tail (λ m group answered. IsAnsweredGroup sent group answered) g None gs more are))
reports_read d can separator sent n (g ∷ gs) (Some a ∷ more) headers quotable are =
    let H : GroupEntry → Type 0 = IsGroupRead d sent in
    let Q : GroupEntry → Type 0 = IsGroupQuotable d sent in
    let first : IsAnsweredGroup sent g (Some a) = are.each 0 g (Some a) refl refl in
    let same : responded_groups (g ∷ gs) ≡ g ∷ responded_groups gs =
    ap (λ (b : Bool). cond (not b) (g ∷ responded_groups gs) (responded_groups gs)) first.1.other in
    let quoted : All Q (g ∷ responded_groups gs) = subst (All Q) same quotable in
    let read : IsGroupRead d sent g = All-head H g gs headers in
    let one : AreResponses d (sets_in_group sent g) [] (text_999 d a.answer a.sets n) = record {
      responses = shown_responses (shows_sets a.answer.codes) a.sets;
      written = report_written d a.answer a.sets n can
          (group_quoted sent first.0 g a first.1 read.0 d can separator read.1 (All-head Q g (responded_groups gs) quoted));
      together = group_together sent first.0 g a first.1 read.0;
    } in
    subst (λ (xs : List GroupEntry). AreResponses d (flat_map (sets_in_group sent) xs) []
    (texts_in_row (reports_from d n (present (Some a ∷ more))))) (sym same)
    (both_read d (sets_in_group sent g) (flat_map (sets_in_group sent) (responded_groups gs)) [] [] (text_999 d a.answer a.sets n)
    (texts_in_row (reports_from d (n + 1) (present more))) one
    (reports_read d can separator sent (n + 1) gs more (All-tail H g gs headers) (All-tail Q g (responded_groups gs) quoted)
    (pairs_tail (λ m group answered. IsAnsweredGroup sent group answered) g (Some a) gs more are)))

-- the TA1 of a checked interchange is that of the index
same_ta1s : (setup : SetupValue) (entry : IndexEntry) (x : CheckedInterchange) → x.entry ≡ entry
    → x.sender ≡ sender_of setup entry.interchange.header
    → ta1s_by x.entry.interchange.header (acknowledgment_of x).note ≡ ta1s_to setup entry
same_ta1s setup entry x same sender =
    ap (λ (y : IndexEntry). ta1s_by y.interchange.header (ta1_note x.sender y.fault y.interchange)) same
    ∙ ap (λ (s : Option ℕ). ta1s_by entry.interchange.header (ta1_note s entry.fault entry.interchange)) sender

-- an interchange that isn't acknowledged has no TA1
one_left_out : (setup : SetupValue) (e : IndexEntry) (note : Option (List ℕ)) (responds here : Bool) (rest more : List IndexEntry)
    → flat_map (ta1s_to setup) rest ≡ flat_map (ta1s_to setup) more → note_to setup e ≡ note
    → flat_map (ta1s_to setup) (cond ((is_some note || responds) && here) (e ∷ rest) rest)
    ≡ flat_map (ta1s_to setup) (cond here (e ∷ more) more)
one_left_out setup e (Some note) responds true rest more same is = ap (λ (ts : List Ta1). ta1s_to setup e ++ ts) same
one_left_out setup e (Some note) responds false rest more same is = same
one_left_out setup e None true true rest more same is = ap (λ (ts : List Ta1). ta1s_to setup e ++ ts) same
one_left_out setup e None true false rest more same is = same
one_left_out setup e None false true rest more same is =
    same ∙ sym (ap (λ (o : Option (List ℕ)). ta1s_by e.interchange.header o ++ flat_map (ta1s_to setup) more) is)
one_left_out setup e None false false rest more same is = same

ta1s_of_all : (setup : SetupValue) (place : ℕ) (es : List IndexEntry)
    → flat_map (ta1s_to setup) (filter (is_told_to setup place) es) ≡ ta1s_told_to setup place es
ta1s_of_all setup place [] = refl
ta1s_of_all setup place (e ∷ es) =
    one_left_out setup e (note_to setup e) (has_responses e) (is_from setup place e) (filter (is_told_to setup place) es)
    (filter (is_from setup place) es) (ta1s_of_all setup place es) refl

module _ (text : List ℕ) (setup : SetupValue) (at : List ℕ) (moment : IsMoment at) (place : ℕ) (p : Partner) (count : ℕ)
    (hub_ids : are_ids setup.hub.qualifier setup.hub.id setup.hub.code ≡ true) (sound : IsSoundPartner count p) where
  abbrev d : Delims
  d = p.delims

  abbrev e : Envelope
  e = envelope_to setup p

  -- a segment around acknowledgments has no response
  silent : (s : WrittenSegment) (ts : List Ta1) → IsReadable d s
      → ((i c : List ℕ) (ss : List (List (List ℕ))) → responses_behind i c (written_parts s ∷ ss) ≡ responses_behind i c ss)
      → ta1s_of (written_parts s) ≡ ts → AreResponses d [] ts (segment_text d s.id s.elements)
  silent s ts readable past same = record { responses = []; written = other_written d s ts readable past same; together = tt }

  isa_read : (number : ℕ) → AreResponses d [] [] (header_text e at number)
  isa_read number =
      subst (AreResponses d [] []) (sym (isa_text e at number))
      (silent (isa e at number) [] (readable_isa setup p count hub_ids sound at moment number) (λ i c ss. refl) refl)

  gs_read : (control : ℕ) → AreResponses d [] [] (segment_text d (gs e at control).id (gs e at control).elements)
  gs_read control = silent (gs e at control) [] (readable_gs setup p count hub_ids sound at moment control) (λ i c ss. refl) refl

  ge_read : (reports control : ℕ) → AreResponses d [] [] (segment_text d (ge reports control).id (ge reports control).elements)
  ge_read reports control =
      silent (ge reports control) [] (readable_ge setup p count hub_ids sound at moment reports control) (λ i c ss. refl) refl

  iea_read : (groups number : ℕ) → AreResponses d [] [] (segment_text d (iea groups number).id (iea groups number).elements)
  iea_read groups number =
      silent (iea groups number) [] (readable_iea setup p count hub_ids sound at moment groups number) (λ i c ss. refl) refl

  -- a TA1 is read, and no response
  ta1_read : (sender : Option ℕ) (fault : Option InterchangeFault) (x : InterchangeEntry) (note : Option (List ℕ))
      → ta1_note sender fault x ≡ note → AreResponses d [] (ta1s_by x.header note) (ta1_part (option_map (ta1_text d x.header) note))
  ta1_read sender fault x None is = no_responses d
  ta1_read sender fault x (Some note) is =
      let noted = repeated sender fault x note is in
      silent (ta1 x.header note) (ta1s_by x.header (Some note))
      (readable_ta1 setup p count hub_ids sound at moment x.header note noted.control noted.day noted.time noted.said)
      (λ i c ss. refl) (ta1_said x.header note)

  -- the group has the responses of its reports
  grouped : (control : ℕ) (reports : List (List ℕ)) (sets : List SentSet) → AreResponses d sets [] (texts_in_row reports)
      → AreResponses d sets [] (group_part e at control reports)
  grouped control [] sets inner = inner
  grouped control (report ∷ reports) sets inner =
      let first : List ℕ = segment_text d (gs e at control).id (gs e at control).elements in
      let rows : List ℕ = texts_in_row (report ∷ reports) in
      let n : ℕ = length (report ∷ reports) in
      let last : List ℕ = segment_text d (ge n control).id (ge n control).elements in
      subst (λ (xs : List SentSet). AreResponses d xs [] (group_part e at control (report ∷ reports))) (append-nil sets)
      (both_read d sets [] [] [] (first ++ rows) last (both_read d [] sets [] [] first rows (gs_read control) inner) (ge_read n control))

  -- an interchange has the responses of its reports, and its TA1
  around : (number control : ℕ) (ta1 : Option (List ℕ)) (ts : List Ta1) (reports : List (List ℕ)) (sets : List SentSet)
      → AreResponses d [] ts (ta1_part ta1) → AreResponses d sets [] (texts_in_row reports)
      → AreResponses d sets ts (interchange_text e at number control ta1 reports)
  around number control ta1 ts reports sets answer inner =
      let head : List ℕ = header_text e at number in
      let group : List ℕ = group_part e at control reports in
      let end : List ℕ = segment_text d (iea (group_count reports) number).id (iea (group_count reports) number).elements in
      let front = both_read d [] [] [] ts head (ta1_part ta1) (isa_read number) answer in
      let all = both_read d sets [] (ts ++ []) [] ((head ++ ta1_part ta1) ++ group) end
      (both_read d [] sets ts [] (head ++ ta1_part ta1) group front (grouped control reports sets inner))
      (iea_read (group_count reports) number) in
      subst (λ (xs : List SentSet). AreResponses d xs ts (interchange_text e at number control ta1 reports)) (append-nil sets)
      (subst (λ (us : List Ta1). AreResponses d (sets ++ []) us (interchange_text e at number control ta1 reports))
      (append-nil (ts ++ []) ∙ append-nil ts) all)

  abbrev Quotable : IndexEntry → Type 0
  Quotable x = All (IsGroupQuotable d (sent_by text setup place x)) (responded_groups (groups_told x))

  abbrev sets_of_entry : IndexEntry → List SentSet
  sets_of_entry x = answered_sets_in (sent_by text setup place x) (groups_told x)

  -- the groups that are reported of an interchange with this fault
  abbrev told_by : Option InterchangeFault → IndexEntry → List GroupEntry
  told_by fault x = if is_none fault then x.interchange.content.groups else []

  reports_here : (entry : IndexEntry) (answers : List (Option AnsweredGroup)) (fault : Option InterchangeFault) → entry.fault ≡ fault
      → IsRead text entry → AreAnswersBy text setup entry fault (Some place) answers
      → All (IsGroupQuotable d (sent_by text setup place entry)) (responded_groups (told_by fault entry))
      → AreResponses d (answered_sets_in (sent_by text setup place entry) (told_by fault entry)) []
      (texts_in_row (reports_from d 1 (present answers)))
  reports_here entry answers (Some f) same read are quotable =
      subst (λ (given : List (Option AnsweredGroup)). AreResponses d [] [] (texts_in_row (reports_from d 1 (present given)))) (sym are)
      (no_responses d)
  reports_here entry answers None same read are quotable =
      let sent : SentValue = sent_by text setup place entry in
      let headers = groups_read d sent entry.interchange.content.groups read.0
      (elements_undivided d sound.divides entry.interchange (read.1 same)) in
      reports_read d sound.divides (component setup p count hub_ids sound at moment) sent 1
      entry.interchange.content.groups answers headers quotable
      (answered_anywhere sent entry.interchange.content.groups answers are)

  interchange_read : (number control : ℕ) (entry : IndexEntry) (x : CheckedInterchange) → IsRead text entry
      → IsCheckedAs text setup entry x → is_acknowledged_to place x ≡ true → Quotable entry
      → AreResponses d (sets_of_entry entry) (ta1s_to setup entry) (acknowledgment_text e at number control (acknowledgment_of x))
  interchange_read number control entry x read is told quotable =
      subst (λ (ts : List Ta1). AreResponses d (sets_of_entry entry) ts (acknowledgment_text e at number control (acknowledgment_of x)))
      (same_ta1s setup entry x is.entry is.sender)
      (around number control (ta1_of d (acknowledgment_of x)) (ta1s_by x.entry.interchange.header (acknowledgment_of x).note)
      (reports_from d 1 (present x.groups)) (sets_of_entry entry)
      (ta1_read x.sender x.entry.fault x.entry.interchange (acknowledgment_of x).note refl)
      (reports_here entry x.groups entry.fault refl read (answers_here text setup place entry x is told) quotable))

  -- what is read of interchanges, before whose acknowledgments there are k others and g groups
  abbrev AreRead : (k g : ℕ) → List IndexEntry → List CheckedInterchange → Type 0
  AreRead k g es xs =
      All Quotable (filter (is_told_to setup place) es)
      → AreResponses d (sets_told_to text setup place es) (flat_map (ta1s_to setup) (filter (is_told_to setup place) es))
      (acknowledgments_from setup p at k g (acknowledged_to place xs))

  one_in_front : (k g : ℕ) (entry : IndexEntry) (x : CheckedInterchange) (es : List IndexEntry) (xs : List CheckedInterchange)
      → IsRead text entry → IsCheckedAs text setup entry x → AreRead (k + 1) (g + acknowledgment_group_count (acknowledgment_of x)) es xs
      → AreRead k g es xs → (b : Bool) → is_acknowledged_to place x ≡ b → AreRead k g (entry ∷ es) (x ∷ xs)
  one_in_front k g entry x es xs headers is next same true known = λ quotable.
      let rest : List IndexEntry = filter (is_told_to setup place) es in
      let here : List CheckedInterchange = acknowledged_to place xs in
      let told : filter (is_told_to setup place) (entry ∷ es) ≡ entry ∷ rest =
      ap (λ (c : Bool). cond c (entry ∷ rest) rest) (sym (acknowledged_as_told text setup place entry x is) ∙ known) in
      let kept : acknowledged_to place (x ∷ xs) ≡ x ∷ here = ap (λ (c : Bool). cond c (x ∷ here) here) known in
      let quoted : All Quotable (entry ∷ rest) = subst (All Quotable) told quotable in
      let number : ℕ = num p.counters.interchange k in
      let control : ℕ = num p.counters.group g in
      subst (λ (ys : List IndexEntry). AreResponses d (flat_map sets_of_entry ys) (flat_map (ta1s_to setup) ys)
      (acknowledgments_from setup p at k g (acknowledged_to place (x ∷ xs)))) (sym told)
      (subst (λ (zs : List CheckedInterchange). AreResponses d (flat_map sets_of_entry (entry ∷ rest))
      (flat_map (ta1s_to setup) (entry ∷ rest))
      (acknowledgments_from setup p at k g zs)) (sym kept)
      (both_read d (sets_of_entry entry) (flat_map sets_of_entry rest) (ta1s_to setup entry) (flat_map (ta1s_to setup) rest)
      (acknowledgment_text e at number control (acknowledgment_of x))
      (acknowledgments_from setup p at (k + 1) (g + acknowledgment_group_count (acknowledgment_of x)) here)
      (interchange_read number control entry x headers is known (All-head Quotable entry rest quoted))
      (next (All-tail Quotable entry rest quoted))))
  one_in_front k g entry x es xs headers is next same false known = λ quotable.
      let rest : List IndexEntry = filter (is_told_to setup place) es in
      let here : List CheckedInterchange = acknowledged_to place xs in
      let told : filter (is_told_to setup place) (entry ∷ es) ≡ rest =
      ap (λ (c : Bool). cond c (entry ∷ rest) rest) (sym (acknowledged_as_told text setup place entry x is) ∙ known) in
      let kept : acknowledged_to place (x ∷ xs) ≡ here = ap (λ (c : Bool). cond c (x ∷ here) here) known in
      subst (λ (ys : List IndexEntry). AreResponses d (flat_map sets_of_entry ys) (flat_map (ta1s_to setup) ys)
      (acknowledgments_from setup p at k g (acknowledged_to place (x ∷ xs)))) (sym told)
      (subst (λ (zs : List CheckedInterchange). AreResponses d (flat_map sets_of_entry rest) (flat_map (ta1s_to setup) rest)
      (acknowledgments_from setup p at k g zs)) (sym kept) (same (subst (All Quotable) told quotable)))

  interchanges_read : (k g : ℕ) (es : List IndexEntry) (xs : List CheckedInterchange)
      → All (IsRead text) es → AreCheckedAs text setup es xs → AreRead k g es xs
  interchanges_read k g [] [] headers are = λ quotable. no_responses d
  interchanges_read k g [] (x ∷ xs) headers are = absurd (omega (arith, are.count))
  interchanges_read k g (entry ∷ es) [] headers are = absurd (omega (arith, are.count))
  interchanges_read k g (entry ∷ es) (x ∷ xs) headers are =
      let H : IndexEntry → Type 0 = IsRead text in
      let behind = All-tail H entry es headers in
      let rest : AreCheckedAs text setup es xs = pairs_tail (λ n e x. IsCheckedAs text setup e x) entry x es xs are in
      one_in_front k g entry x es xs (All-head H entry es headers) (are.each 0 entry x refl refl)
      (interchanges_read (k + 1) (g + acknowledgment_group_count (acknowledgment_of x)) es xs behind rest)
      (interchanges_read k g es xs behind rest)
      (is_acknowledged_to place x) refl

  partner_read : (es : List IndexEntry) (xs : List CheckedInterchange)
      → All (IsRead text) es → AreCheckedAs text setup es xs
      → IsReadBack text setup es place p (acks_of setup at xs place p)
  partner_read es xs headers are = λ quotable.
      let all = interchanges_read 0 0 es xs headers are quotable in
      let told : List SentSet = sets_told_to text setup place es in
      let ts : List Ta1 = flat_map (ta1s_to setup) (filter (is_told_to setup place) es) in
      subst (AreAllPairs (λ n s response. IsResponseTo s response) told)
      (sym (responses_read d (acks_of setup at xs place p) all.responses ts sound.divides.apart all.written))
      (together_pairs IsResponseTo told all.responses all.together)

  partner_answered : (es : List IndexEntry) (xs : List CheckedInterchange)
      → All (IsRead text) es → AreCheckedAs text setup es xs
      → AreTa1sReadBackBy text setup es place p (acks_of setup at xs place p)
  partner_answered es xs headers are = λ quotable.
      let all = interchanges_read 0 0 es xs headers are quotable in
      let ts : List Ta1 = flat_map (ta1s_to setup) (filter (is_told_to setup place) es) in
      ta1s_read d (acks_of setup at xs place p) all.responses ts sound.divides.apart all.written
      ∙ ta1s_of_all setup place es

-- both of each interchange
pub all_read : (text : List ℕ) (es : List IndexEntry) → All (λ e. HaveHeaders text e.interchange) es → All IsSettledSound es
    → All (IsRead text) es
all_read text [] headers sound = All-nil (IsRead text)
all_read text (e ∷ es) headers sound =
    let H : IndexEntry → Type 0 = λ y. HaveHeaders text y.interchange in
    All-cons (IsRead text) e es (All-head H e es headers, All-head IsSettledSound e es sound)
    (all_read text es (All-tail H e es headers) (All-tail IsSettledSound e es sound))

module _ (text : List ℕ) (setup : SetupValue) (at : List ℕ) (night : Night) (sound : IsSoundSetup setup) (moment : IsMoment at)
    (is : IsNight text setup at night) where
  abbrev index : IndexValue
  index = is.is_known.index

  abbrev entries : List IndexEntry
  entries = (settled index (settled_faults setup index.entries)).entries

  headers : All (IsRead text) entries
  headers =
      all_read text entries (settled_headers text index (settled_faults setup index.entries) is.is_known.read)
      (settled_sound text setup index is.is_known.read)

  partner_sound : (place : ℕ) (partner : Partner) → slice_get setup.partners place ≡ Some partner
      → IsSoundPartner (length setup.guides) partner
  partner_sound place partner at_place =
      at_index (IsSoundPartner (length setup.guides)) setup.partners place partner at_place sound.partners

  -- what is known of each partner's acknowledgments
  each_partner : (P : ℕ → Partner → List ℕ → Type 0)
      → ((place : ℕ) (partner : Partner) → slice_get setup.partners place ≡ Some partner
      → P place partner (acks_of setup at is.known place partner))
      → AreAllPairs P setup.partners night.acks
  each_partner P holds =
      pairs_weaker_at (λ place partner acks. acks ≡ acks_of setup at is.known place partner) P setup.partners night.acks
      (λ place partner acks at_place same. subst (P place partner) (sym same) (holds place partner at_place)) is.is.acks

  pub read_by_night : AreReadBack text setup night.acks
  read_by_night = record {
    index = index;
    read = is.is_known.read;
    each = each_partner (IsReadBack text setup entries) (λ place partner at_place.
        partner_read text setup at moment place partner (length setup.guides) sound.hub (partner_sound place partner at_place)
        entries is.known headers is.is_known.answered);
  }

  pub ta1s_read_by_night : AreTa1sReadBack text setup night.acks
  ta1s_read_by_night = record {
    index = index;
    read = is.is_known.read;
    each = each_partner (AreTa1sReadBackBy text setup entries) (λ place partner at_place.
        partner_answered text setup at moment place partner (length setup.guides) sound.hub (partner_sound place partner at_place)
        entries is.known headers is.is_known.answered);
  }
