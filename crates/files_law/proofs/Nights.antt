-- X12.5, interchange: what each partner reads in its acknowledgments of a night.
use Rattle.std.proofs.Common.{◌≡◌, ℕ, ◌+◌, ◌≤◌, Bool, true, false, cond, not, List, [], ◌∷◌, ◌++◌, length, Option, Some, None, refl, sym}
use Rattle.std.proofs.Common.{ap, subst, ◌∙◌, arith}
use Rattle.std.specs.Prelude.{filter, is_none, if◌then◌else◌}
use Rattle.std.specs.List.{All, flat_map}
use Rattle.std.proofs.lemmas.List.Elements.{All-cons, All-head, All-nil, All-tail}
use Rattle.x12_bytes.specs.declared.delims.Delims.{Delims}
use Rattle.x12_write.specs.declared.envelope.Envelope.{Envelope}
use Rattle.x12_write.specs.Group.{texts_in_row}
use Rattle.x12_write.specs.Undivided.{CanDivide, IsUndivided}
use Rattle.moment.specs.Moment.{IsMoment}
use Rattle.env_index.specs.Words.{GroupEntry, IndexEntry, IndexValue, settled}
use Rattle.count_numbers.specs.Num.{num}
use Rattle.partner_setup.specs.declared.partner.Partner.{Partner}
use Rattle.partner_setup.specs.Envelopes.{envelope_to}
use Rattle.partner_setup.specs.Setup.{SetupValue}
use Rattle.partner_setup.specs.Sound.{IsSoundPartner, IsSoundSetup}
use Rattle.partner_setup.specs.SetupFaults.{are_ids}
use Rattle.hub_kinds.specs.declared.interchange.InterchangeFault.{InterchangeFault}
use Rattle.answered_sets.specs.Judged.{responded_groups}
use Rattle.ack_999.specs.Report.{text_999}
use Rattle.set_answers.specs.declared.answered.AnsweredGroup.{AnsweredGroup}
use Rattle.set_answers.specs.Acknowledgments.{acknowledgment_text, acknowledgment_group_count, present, reports_from, ta1_of}
use Rattle.set_answers.specs.Answers.{SentValue}
use Rattle.set_answers.specs.CheckedText.{AreAnswersBy, AreCheckedAs, CheckedInterchange, IsCheckedAs, acknowledged_to, acknowledgment_of}
use Rattle.set_answers.specs.CheckedText.{acknowledgments_from, is_acknowledged_to, sent_by}
use Rattle.set_answers.specs.Pairs.{AreAllPairs}
use Rattle.set_answers.specs.Settled.{settled_faults}
use Rattle.night_batches.specs.declared.night.Night.{Night}
use Rattle.night_batches.specs.Night.{IsNight, acks_of}
use Rattle.night_law.specs.Quotable.{IsGroupQuotable}
use Rattle.night_law.specs.Told.{groups_told, is_told_to}
use Rattle.night_law.proofs.ForAbove.{IsAnsweredGroup, IsGroupRead, IsRead, acknowledged_as_told, all_read, answered_anywhere, answers_here}
use Rattle.night_law.proofs.ForAbove.{at_index, component, elements_undivided, group_quoted, groups_read, pairs_tail, pairs_weaker_at}
use Rattle.night_law.proofs.ForAbove.{settled_headers, settled_sound}
use Rattle.files_law.specs.Files.{HasInterchanges}
use Rattle.files_law.specs.Whole.{IsWholeSet, WholeSet, set_segments}
use Rattle.files_law.specs.Written.{BeginsOtherwise, IsWritten, Written, texts_of}
use Rattle.files_law.proofs.Clear.{otherwise_clear}
use Rattle.files_law.proofs.Interchanges.{interchanges_read}
use Rattle.files_law.specs.Acknowledgments.{AreAcknowledgmentsRead, HasAcknowledgments, acknowledgment_texts}
use Rattle.files_law.proofs.Acknowledgments.{AreReports, AsWritten, interchange_written, ta1_row}
use Rattle.files_law.proofs.Numbers.{few_groups, num_small}
use Rattle.files_law.proofs.Reports.{report_row, report_set, report_whole}
use Rattle.files_law.proofs.Rows.{both_rows, no_row}

no_reports : (d : Delims) → AreReports d []
no_reports d = record { sets = []; row = no_row d; whole = All-nil IsWholeSet }

-- the 999s of the groups that are answered
reports_whole : (d : Delims) → CanDivide d → IsUndivided d (d.component ∷ []) → (sent : SentValue) (n : ℕ)
    (groups : List GroupEntry) (answers : List (Option AnsweredGroup)) → n + length groups ≤ 999999999
    → All (IsGroupRead d sent) groups → All (IsGroupQuotable d sent) (responded_groups groups)
    → AreAllPairs (λ m group answered. IsAnsweredGroup sent group answered) groups answers
    → AreReports d (reports_from d n (present answers))
reports_whole d can separator sent n [] [] few headers quotable are = no_reports d
reports_whole d can separator sent n [] (a ∷ more) few headers quotable are = absurd (omega (arith, are.count))
reports_whole d can separator sent n (g ∷ gs) [] few headers quotable are = absurd (omega (arith, are.count))
reports_whole d can separator sent n (g ∷ gs) (None ∷ more) few headers quotable are =
    let H : GroupEntry → Type 0 = IsGroupRead d sent in
    let first : IsAnsweredGroup sent g None = are.each 0 g None refl refl in
    let same : responded_groups (g ∷ gs) ≡ responded_groups gs =
    ap (λ (b : Bool). cond (not b) (g ∷ responded_groups gs) (responded_groups gs)) first.1 in
    reports_whole d can separator sent n gs more (omega (arith, few)) (All-tail H g gs headers)
    (subst (All (IsGroupQuotable d sent)) same quotable)
    (pairs_tail (λ m group answered. IsAnsweredGroup sent group answered) g None gs more are)
reports_whole d can separator sent n (g ∷ gs) (Some a ∷ more) few headers quotable are =
    let H : GroupEntry → Type 0 = IsGroupRead d sent in
    let Q : GroupEntry → Type 0 = IsGroupQuotable d sent in
    let first : IsAnsweredGroup sent g (Some a) = are.each 0 g (Some a) refl refl in
    let same : responded_groups (g ∷ gs) ≡ g ∷ responded_groups gs =
    ap (λ (b : Bool). cond (not b) (g ∷ responded_groups gs) (responded_groups gs)) first.1.other in
    let quoted : All Q (g ∷ responded_groups gs) = subst (All Q) same quotable in
    let read : IsGroupRead d sent g = All-head H g gs headers in
    let one : WholeSet = report_set d a.answer a.sets n in
    let rest : AreReports d (reports_from d (n + 1) (present more)) =
    reports_whole d can separator sent (n + 1) gs more (omega (arith, few)) (All-tail H g gs headers)
    (All-tail Q g (responded_groups gs) quoted)
    (pairs_tail (λ m group answered. IsAnsweredGroup sent group answered) g (Some a) gs more are) in
    record {
      sets = one ∷ rest.sets;
      row = both_rows d (text_999 d a.answer a.sets n) (texts_in_row (reports_from d (n + 1) (present more))) (set_segments one)
          (flat_map set_segments rest.sets)
          (report_row d a.answer a.sets n can
          (group_quoted sent first.0 g a first.1 read.0 d can separator read.1 (All-head Q g (responded_groups gs) quoted)))
          rest.row;
      whole = All-cons IsWholeSet one rest.sets (report_whole d a.answer a.sets n (omega (arith, few))) rest.whole;
    }

-- texts that are interchanges which are written
record AllAsWritten (texts : List (List ℕ)) : Type 0 where
  ws : List Written
  is : texts_of ws ≡ texts
  written : All IsWritten ws
  other : All (λ w. All BeginsOtherwise w.segments) ws

nothing_written : AllAsWritten []
nothing_written = record { ws = []; is = refl; written = All-nil IsWritten; other = All-nil (λ w. All BeginsOtherwise w.segments) }

one_more : (text : List ℕ) (texts : List (List ℕ)) → AsWritten text → AllAsWritten texts → AllAsWritten (text ∷ texts)
one_more text texts one rest = record {
  ws = one.w ∷ rest.ws;
  is = ap (λ (t : List ℕ). t ∷ texts_of rest.ws) one.is ∙ ap (λ (ts : List (List ℕ)). text ∷ ts) rest.is;
  written = All-cons IsWritten one.w rest.ws one.written rest.written;
  other = All-cons (λ w. All BeginsOtherwise w.segments) one.w rest.ws one.other rest.other;
}

has_interchanges : (texts : List (List ℕ)) (file : List ℕ) → file ≡ texts_in_row texts → AllAsWritten texts → HasInterchanges texts file
has_interchanges texts file same all =
    let there : texts_in_row (texts_of all.ws) ≡ file = ap texts_in_row all.is ∙ sym same in
    subst (λ (f : List ℕ). HasInterchanges texts f) there
    (subst (λ (ts : List (List ℕ)). HasInterchanges ts (texts_in_row (texts_of all.ws))) all.is
    (interchanges_read all.ws all.written (otherwise_clear all.ws all.written all.other)))

in_a_row : (setup : SetupValue) (partner : Partner) (at : List ℕ) (k g : ℕ) (xs : List CheckedInterchange)
    → acknowledgments_from setup partner at k g xs ≡ texts_in_row (acknowledgment_texts setup partner at k g xs)
in_a_row setup partner at k g [] = refl
in_a_row setup partner at k g (x ∷ xs) =
    ap (λ (t : List ℕ). acknowledgment_text (envelope_to setup partner) at (num partner.counters.interchange k)
    (num partner.counters.group g) (acknowledgment_of x) ++ t)
    (in_a_row setup partner at (k + 1) (g + acknowledgment_group_count (acknowledgment_of x)) xs)

module _ (text : List ℕ) (setup : SetupValue) (at : List ℕ) (moment : IsMoment at) (place : ℕ) (p : Partner) (count : ℕ)
    (hub_ids : are_ids setup.hub.qualifier setup.hub.id setup.hub.code ≡ true) (sound : IsSoundPartner count p) where
  abbrev d : Delims
  d = p.delims

  abbrev e : Envelope
  e = envelope_to setup p

  abbrev Quotable : IndexEntry → Type 0
  Quotable x = All (IsGroupQuotable d (sent_by text setup place x)) (responded_groups (groups_told x))

  abbrev told_by : Option InterchangeFault → IndexEntry → List GroupEntry
  told_by fault x = if is_none fault then x.interchange.content.groups else []

  reports_here : (entry : IndexEntry) (answers : List (Option AnsweredGroup)) (fault : Option InterchangeFault) → entry.fault ≡ fault
      → IsRead text entry → AreAnswersBy text setup entry fault (Some place) answers
      → All (IsGroupQuotable d (sent_by text setup place entry)) (responded_groups (told_by fault entry))
      → AreReports d (reports_from d 1 (present answers))
  reports_here entry answers (Some f) same read are quotable =
      subst (λ (given : List (Option AnsweredGroup)). AreReports d (reports_from d 1 (present given))) (sym are) (no_reports d)
  reports_here entry answers None same read are quotable =
      let sent : SentValue = sent_by text setup place entry in
      let groups : List GroupEntry = entry.interchange.content.groups in
      let headers = groups_read d sent groups read.0 (elements_undivided d sound.divides entry.interchange (read.1 same)) in
      let few : length groups ≤ 99999 = few_groups entry.interchange (read.1 same) in
      reports_whole d sound.divides (component setup p count hub_ids sound at moment) sent 1 groups answers (omega (arith, few))
      headers quotable (answered_anywhere sent groups answers are)

  acknowledgment_written : (number control : ℕ) → number ≤ 999999999 → control ≤ 999999999 → (entry : IndexEntry) (x : CheckedInterchange)
      → IsRead text entry → IsCheckedAs text setup entry x → is_acknowledged_to place x ≡ true → Quotable entry
      → AsWritten (acknowledgment_text e at number control (acknowledgment_of x))
  acknowledgment_written number control nine small entry x read is told quotable =
      interchange_written setup p count hub_ids sound at moment number control nine small (ta1_of d (acknowledgment_of x))
      (reports_from d 1 (present x.groups))
      (ta1_row setup p count hub_ids sound at moment x.sender x.entry.fault x.entry.interchange (acknowledgment_of x).note refl)
      (reports_here entry x.groups entry.fault refl read (answers_here text setup place entry x is told) quotable)

  -- the acknowledgments of interchanges, before which there are k others and g groups
  abbrev AreAllWritten : (k g : ℕ) → List IndexEntry → List CheckedInterchange → Type 0
  AreAllWritten k g es xs =
      All Quotable (filter (is_told_to setup place) es) → AllAsWritten (acknowledgment_texts setup p at k g (acknowledged_to place xs))

  one_in_front : (k g : ℕ) (entry : IndexEntry) (x : CheckedInterchange) (es : List IndexEntry) (xs : List CheckedInterchange)
      → IsRead text entry → IsCheckedAs text setup entry x → AreAllWritten (k + 1) (g + acknowledgment_group_count
      (acknowledgment_of x)) es xs
      → AreAllWritten k g es xs → (b : Bool) → is_acknowledged_to place x ≡ b → AreAllWritten k g (entry ∷ es) (x ∷ xs)
  one_in_front k g entry x es xs headers is next same true known = λ quotable.
      let rest : List IndexEntry = filter (is_told_to setup place) es in
      let here : List CheckedInterchange = acknowledged_to place xs in
      let told : filter (is_told_to setup place) (entry ∷ es) ≡ entry ∷ rest =
      ap (λ (c : Bool). cond c (entry ∷ rest) rest) (sym (acknowledged_as_told text setup place entry x is) ∙ known) in
      let kept : acknowledged_to place (x ∷ xs) ≡ x ∷ here = ap (λ (c : Bool). cond c (x ∷ here) here) known in
      let quoted : All Quotable (entry ∷ rest) = subst (All Quotable) told quotable in
      let number : ℕ = num p.counters.interchange k in
      let control : ℕ = num p.counters.group g in
      subst (λ (ys : List CheckedInterchange). AllAsWritten (acknowledgment_texts setup p at k g ys)) (sym kept)
      (one_more (acknowledgment_text e at number control (acknowledgment_of x))
      (acknowledgment_texts setup p at (k + 1) (g + acknowledgment_group_count (acknowledgment_of x)) here)
      (acknowledgment_written number control (num_small p.counters.interchange k) (num_small p.counters.group g) entry x headers is known
      (All-head Quotable entry rest quoted))
      (next (All-tail Quotable entry rest quoted)))
  one_in_front k g entry x es xs headers is next same false known = λ quotable.
      let rest : List IndexEntry = filter (is_told_to setup place) es in
      let here : List CheckedInterchange = acknowledged_to place xs in
      let told : filter (is_told_to setup place) (entry ∷ es) ≡ rest =
      ap (λ (c : Bool). cond c (entry ∷ rest) rest) (sym (acknowledged_as_told text setup place entry x is) ∙ known) in
      let kept : acknowledged_to place (x ∷ xs) ≡ here = ap (λ (c : Bool). cond c (x ∷ here) here) known in
      subst (λ (ys : List CheckedInterchange). AllAsWritten (acknowledgment_texts setup p at k g ys)) (sym kept)
      (same (subst (All Quotable) told quotable))

  all_written : (k g : ℕ) (es : List IndexEntry) (xs : List CheckedInterchange) → All (IsRead text) es → AreCheckedAs text setup es xs
      → AreAllWritten k g es xs
  all_written k g [] [] headers are = λ quotable. nothing_written
  all_written k g [] (x ∷ xs) headers are = absurd (omega (arith, are.count))
  all_written k g (entry ∷ es) [] headers are = absurd (omega (arith, are.count))
  all_written k g (entry ∷ es) (x ∷ xs) headers are =
      let rest : AreCheckedAs text setup es xs = pairs_tail (λ n e x. IsCheckedAs text setup e x) entry x es xs are in
      let behind = All-tail (IsRead text) entry es headers in
      one_in_front k g entry x es xs (All-head (IsRead text) entry es headers) (are.each 0 entry x refl refl)
      (all_written (k + 1) (g + acknowledgment_group_count (acknowledgment_of x)) es xs behind rest) (all_written k g es xs behind rest)
      (is_acknowledged_to place x) refl

  pub partner_reads : (es : List IndexEntry) (xs : List CheckedInterchange) → All (IsRead text) es → AreCheckedAs text setup es xs
      → All Quotable (filter (is_told_to setup place) es) → HasAcknowledgments setup at xs place p (acks_of setup at xs place p)
  partner_reads es xs headers are quotable =
      has_interchanges (acknowledgment_texts setup p at 0 0 (acknowledged_to place xs)) (acks_of setup at xs place p)
      (in_a_row setup p at 0 0 (acknowledged_to place xs)) (all_written 0 0 es xs headers are quotable)

pub read_by_night : (text : List ℕ) (setup : SetupValue) (at : List ℕ) (night : Night) → IsSoundSetup setup → IsMoment at
    → IsNight text setup at night → AreAcknowledgmentsRead text setup at night.acks
read_by_night text setup at night sound moment is =
    let index : IndexValue = is.is_known.index in
    let entries : List IndexEntry = (settled index (settled_faults setup index.entries)).entries in
    let headers : All (IsRead text) entries =
    all_read text entries (settled_headers text index (settled_faults setup index.entries) is.is_known.read)
    (settled_sound text setup index is.is_known.read) in
    record {
      known = is.known;
      outside = is.outside;
      is_known = is.is_known;
      each = pairs_weaker_at (λ place partner acks. acks ≡ acks_of setup at is.known place partner)
          (λ place partner file. All (λ x. All (IsGroupQuotable partner.delims (sent_by text setup place x))
          (responded_groups (groups_told x)))
          (filter (is_told_to setup place) entries) → HasAcknowledgments setup at is.known place partner file)
          setup.partners night.acks
          (λ place partner acks at_place same.
          let own = at_index (IsSoundPartner (length setup.guides)) setup.partners place partner at_place sound.partners in
          subst (λ (file : List ℕ). All (λ x. All (IsGroupQuotable partner.delims (sent_by text setup place x))
          (responded_groups (groups_told x)))
          (filter (is_told_to setup place) entries) → HasAcknowledgments setup at is.known place partner file) (sym same)
          (partner_reads text setup at moment place partner (length setup.guides) sound.hub own entries is.known headers
          is.is_known.answered))
          is.is.acks;
    }
