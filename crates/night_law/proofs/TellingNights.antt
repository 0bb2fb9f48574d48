-- The bytes of a night's acknowledgments.
use Rattle.std.proofs.Common.{◌≡◌, ℕ, suc, ◌+◌, Bool, true, false, cond, ◌&&◌, ◌||◌, not, List, [], ◌∷◌, ◌++◌, Option, Some, None}
use Rattle.std.proofs.Common.{take, refl, sym, ap, subst, ◌∙◌, arith, append_assoc, append-nil, eqb-true, true≢false}
use Rattle.std.specs.Prelude.{is_none, is_some, option_map, filter, if◌then◌else◌}
use Rattle.std.specs.List.{All, list_any}
use Rattle.std.proofs.lemmas.List.Elements.{All-head, All-tail}
use Rattle.x12_bytes.specs.declared.delims.Delims.{Delims}
use Rattle.x12_write.specs.Group.{texts_in_row}
use Rattle.ack_999.specs.Interchange.{interchange_text}
use Rattle.ack_999.specs.Report.{text_999}
use Rattle.ack_999.specs.Ta1.{ta1_text}
use Rattle.hub_kinds.specs.declared.interchange.InterchangeFault.{InterchangeFault}
use Rattle.env_index.specs.Words.{IndexEntry, settled, GroupEntry}
use Rattle.count_numbers.specs.Num.{num}
use Rattle.partner_setup.specs.declared.partner.Partner.{Partner}
use Rattle.partner_setup.specs.Envelopes.{envelope_to}
use Rattle.partner_setup.specs.Setup.{SetupValue}
use Rattle.answered_sets.specs.Answered.{ta1_note}
use Rattle.answered_sets.specs.Judged.{is_fa}
use Rattle.set_answers.specs.declared.answered.AnsweredGroup.{AnsweredGroup}
use Rattle.set_answers.specs.Acknowledgments.{acknowledgment_text, acknowledgment_group_count, has_any, is_there, present, reports_from}
use Rattle.set_answers.specs.Acknowledgments.{ta1_of}
use Rattle.set_answers.specs.Answers.{AreGroupAnswers, IsGroupAnswered, SentValue}
use Rattle.set_answers.specs.CheckedText.{CheckedInterchange, AreCheckedAs, AreAnswersBy, IsCheckedAs, acknowledged_to}
use Rattle.set_answers.specs.CheckedText.{acknowledgment_of, acknowledgments_from, is_acknowledged_to, is_partner, sent_by}
use Rattle.set_answers.specs.Pairs.{AreAllPairs}
use Rattle.set_answers.specs.Settled.{settled_faults}
use Rattle.night_batches.specs.declared.night.Night.{Night}
use Rattle.night_batches.specs.Night.{IsNight, acks_of}
use Rattle.night_law.specs.Told.{AreSetsTold, IsGroupTold, IsInterchangeTold, IsPartnerTold, ToldGroup, groups_behind, answered_group_count}
use Rattle.night_law.specs.Told.{groups_told, has_responses, is_told_to, note_to, told_groups}
use Rattle.night_law.proofs.Headers.{HasHeader, HaveHeaders, settled_headers}
use Rattle.night_law.proofs.Pairs.{no_pairs, pairs_cons, pairs_tail, pairs_weaker}
use Rattle.night_law.proofs.TellingGroups.{group_told}

-- a group after some others is answered
abbrev pub IsAnsweredGroup : SentValue → GroupEntry → Option AnsweredGroup → Type 0
IsAnsweredGroup sent group answered = (before : List GroupEntry) × IsGroupAnswered sent before group answered

pub answered_anywhere : (sent : SentValue) (groups : List GroupEntry) (answers : List (Option AnsweredGroup))
    → AreGroupAnswers sent groups answers → AreAllPairs (λ n group answered. IsAnsweredGroup sent group answered) groups answers
answered_anywhere sent groups answers are =
    pairs_weaker (λ n group answered. IsGroupAnswered sent (take n groups) group answered)
    (λ n group answered. IsAnsweredGroup sent group answered) groups answers (λ n group answered is. (take n groups, is)) are

-- a group after these groups, by its place among those that follow
abbrev IsAnsweredBehind : SentValue → (before groups : List GroupEntry) → ℕ → GroupEntry → Option AnsweredGroup → Type 0
IsAnsweredBehind sent before groups m group answered = IsGroupAnswered sent (before ++ take m groups) group answered

first_answered : (sent : SentValue) (before : List GroupEntry) (g : GroupEntry) (gs : List GroupEntry) (a : Option AnsweredGroup)
    (more : List (Option AnsweredGroup)) → AreAllPairs (IsAnsweredBehind sent before (g ∷ gs)) (g ∷ gs) (a ∷ more)
    → IsGroupAnswered sent before g a
first_answered sent before g gs a more are =
    subst (λ (front : List GroupEntry). IsGroupAnswered sent front g a) (append-nil before) (are.each 0 g a refl refl)

others_answered : (sent : SentValue) (before : List GroupEntry) (g : GroupEntry) (gs : List GroupEntry) (a : Option AnsweredGroup)
    (more : List (Option AnsweredGroup)) → AreAllPairs (IsAnsweredBehind sent before (g ∷ gs)) (g ∷ gs) (a ∷ more)
    → AreAllPairs (IsAnsweredBehind sent (before ++ g ∷ []) gs) gs more
others_answered sent before g gs a more are =
    pairs_weaker (λ m group answered. IsAnsweredBehind sent before (g ∷ gs) (suc m) group answered)
    (IsAnsweredBehind sent (before ++ g ∷ []) gs) gs more (λ m group answered is.
    subst (λ (front : List GroupEntry). IsGroupAnswered sent front group answered) (sym (append_assoc before (g ∷ []) (take m gs))) is)
    (pairs_tail (IsAnsweredBehind sent before (g ∷ gs)) g a gs more are)

-- the 999s of the groups that are answered, the first of them as number n
module _ (d : Delims) (sent : SentValue) where
  abbrev H : GroupEntry → Type 0
  H g = All (HasHeader sent.text sent.delims) g.sets

  abbrev R : ℕ → ℕ → ToldGroup → List ℕ → Type 0
  R n k told report = IsGroupTold d sent (n + k) told.before told.group report

  abbrev this_group : (before : List GroupEntry) → GroupEntry → ToldGroup
  this_group before g = record { before = before; group = g }

  reports_told : (n : ℕ) (before groups : List GroupEntry) (answers : List (Option AnsweredGroup)) → All H groups
      → AreAllPairs (IsAnsweredBehind sent before groups) groups answers
      → AreAllPairs (R n) (told_groups before groups) (reports_from d n (present answers))
  reports_told n before [] [] headers are = no_pairs (R n)
  reports_told n before [] (a ∷ more) headers are = absurd (omega (arith, are.count))
  reports_told n before (g ∷ gs) [] headers are = absurd (omega (arith, are.count))
  reports_told n before (g ∷ gs) (None ∷ more) headers are =
      let first : is_fa g ≡ true = first_answered sent before g gs None more are in
      let behind : List ToldGroup = told_groups (before ++ g ∷ []) gs in
      subst (λ (b : Bool). AreAllPairs (R n) (cond b behind (this_group before g ∷ behind)) (reports_from d n (present more))) (sym first)
      (reports_told n (before ++ g ∷ []) gs more (All-tail H g gs headers) (others_answered sent before g gs None more are))
  reports_told n before (g ∷ gs) (Some a ∷ more) headers are =
      let first : IsGroupAnswered sent before g (Some a) = first_answered sent before g gs (Some a) more are in
      let behind : List ToldGroup = told_groups (before ++ g ∷ []) gs in
      let texts : List (List ℕ) = reports_from d (n + 1) (present more) in
      let rest = reports_told (n + 1) (before ++ g ∷ []) gs more (All-tail H g gs headers)
      (others_answered sent before g gs (Some a) more are) in
      let shifted = pairs_weaker (R (n + 1)) (λ k told report. R n (suc k) told report) behind texts (λ k told report is.
      subst (λ (m : ℕ). IsGroupTold d sent m told.before told.group report) (omega arith) is) rest in
      let report : List ℕ = text_999 d a.answer a.sets n in
      let one : R n 0 (this_group before g) report = subst (λ (m : ℕ). IsGroupTold d sent m before g report) (omega arith)
      (group_told d sent n before g a (All-head H g gs headers) first) in
      subst (λ (b : Bool). AreAllPairs (R n) (cond b behind (this_group before g ∷ behind)) (reports_from d n (present (Some a ∷ more))))
      (sym first.other) (pairs_cons (R n) (this_group before g) report behind texts one shifted)

-- something is answered to an interchange where it has a group that acknowledges nothing itself
answers_something : (sent : SentValue) (groups : List GroupEntry) (answers : List (Option AnsweredGroup))
    → AreAllPairs (λ m group answered. IsAnsweredGroup sent group answered) groups answers
    → has_any (present answers) ≡ list_any (λ g. not (is_fa g)) groups
answers_something sent [] [] are = refl
answers_something sent [] (a ∷ more) are = absurd (omega (arith, are.count))
answers_something sent (g ∷ gs) [] are = absurd (omega (arith, are.count))
answers_something sent (g ∷ gs) (None ∷ more) are =
    let first : IsAnsweredGroup sent g None = are.each 0 g None refl refl in
    answers_something sent gs more (pairs_tail (λ m group answered. IsAnsweredGroup sent group answered) g None gs more are)
    ∙ sym (ap (λ (b : Bool). not b || list_any (λ g. not (is_fa g)) gs) first.1)
answers_something sent (g ∷ gs) (Some a ∷ more) are =
    let first : IsAnsweredGroup sent g (Some a) = are.each 0 g (Some a) refl refl in
    sym (ap (λ (b : Bool). not b || list_any (λ g. not (is_fa g)) gs) first.1.other)

-- and so where it is responded to, of a known sender
pub responses_are_there : (text : List ℕ) (setup : SetupValue) (e : IndexEntry) (fault : Option InterchangeFault) (s : ℕ)
    (answers : List (Option AnsweredGroup)) → AreAnswersBy text setup e fault (Some s) answers
    → has_any (present answers) ≡ (is_none fault && list_any (λ g. not (is_fa g)) e.interchange.content.groups)
responses_are_there text setup e (Some f) s answers are = ap (λ (given : List (Option AnsweredGroup)). has_any (present given)) are
responses_are_there text setup e None s answers are =
    answers_something (sent_by text setup s e) e.interchange.content.groups answers
    (answered_anywhere (sent_by text setup s e) e.interchange.content.groups answers are)

chosen : (b : Bool) (place : ℕ) (s : Option ℕ) → is_partner place (if b then s else None) ≡ (b && is_partner place s)
chosen true place s = refl
chosen false place s = refl

nobody : (b c : Bool) → (b && false) ≡ (c && false)
nobody true true = refl
nobody true false = refl
nobody false true = refl
nobody false false = refl

-- an interchange is acknowledged to a partner as the index says
same_test : (text : List ℕ) (setup : SetupValue) (place : ℕ) (e : IndexEntry) (note : Option (List ℕ)) (sender : Option ℕ)
    (answers : List (Option AnsweredGroup)) → AreAnswersBy text setup e e.fault sender answers
    → is_partner place (if (is_some note || has_any (present answers)) then sender else None)
    ≡ ((is_some note || has_responses e) && is_partner place sender)
same_test text setup place e note None answers are =
    chosen (is_some note || has_any (present answers)) place None
    ∙ nobody (is_some note || has_any (present answers)) (is_some note || has_responses e)
same_test text setup place e note (Some s) answers are =
    chosen (is_some note || has_any (present answers)) place (Some s)
    ∙ ap (λ (b : Bool). (is_some note || b) && is_partner place (Some s)) (responses_are_there text setup e e.fault s answers are)

pub acknowledged_as_told : (text : List ℕ) (setup : SetupValue) (place : ℕ) (e : IndexEntry) (x : CheckedInterchange)
    → IsCheckedAs text setup e x → is_acknowledged_to place x ≡ is_told_to setup place e
acknowledged_as_told text setup place e x is =
    ap (λ (y : IndexEntry). is_partner place
    (if (is_some (ta1_note x.sender y.fault y.interchange) || has_any (present x.groups)) then x.sender else None)) is.entry
    ∙ same_test text setup place e (ta1_note x.sender e.fault e.interchange) x.sender x.groups is.groups
    ∙ ap (λ (s : Option ℕ). (is_some (ta1_note s e.fault e.interchange) || has_responses e) && is_partner place s) is.sender

-- and then this partner is its sender
pub sender_here : (place : ℕ) (b : Bool) (sender : Option ℕ) → is_partner place (if b then sender else None) ≡ true → sender ≡ Some place
sender_here place true (Some s) is = ap Some (eqb-true s place is)
sender_here place true None is = absurd (true≢false (sym is))
sender_here place false sender is = absurd (true≢false (sym is))

pub answers_here : (text : List ℕ) (setup : SetupValue) (place : ℕ) (e : IndexEntry) (x : CheckedInterchange)
    → IsCheckedAs text setup e x → is_acknowledged_to place x ≡ true → AreAnswersBy text setup e e.fault (Some place) x.groups
answers_here text setup place e x is told =
    subst (λ (s : Option ℕ). AreAnswersBy text setup e e.fault s x.groups)
    (sender_here place (is_there (acknowledgment_of x)) x.sender told) is.groups

-- it has a group where it is responded to
pub groups_here : (text : List ℕ) (setup : SetupValue) (place : ℕ) (e : IndexEntry) (x : CheckedInterchange)
    → IsCheckedAs text setup e x → is_acknowledged_to place x ≡ true → acknowledgment_group_count (acknowledgment_of x)
    ≡ answered_group_count e
groups_here text setup place e x is told =
    ap (λ (b : Bool). if b then 1 else 0)
    (responses_are_there text setup e e.fault place x.groups (answers_here text setup place e x is told))

-- the 999s of an interchange; none of one that is refused
each_told : (text : List ℕ) (setup : SetupValue) (place : ℕ) (e : IndexEntry) (d : Delims) (fault : Option InterchangeFault)
    (answers : List (Option AnsweredGroup)) → HaveHeaders text e.interchange → AreAnswersBy text setup e fault (Some place) answers
    → AreAllPairs (R d (sent_by text setup place e) 1)
    (told_groups [] (if is_none fault then e.interchange.content.groups else [])) (reports_from d 1 (present answers))
each_told text setup place e d (Some f) answers headers are =
    subst (λ (given : List (Option AnsweredGroup)). AreAllPairs (R d (sent_by text setup place e) 1) [] (reports_from d 1 (present given)))
    (sym are) (no_pairs (R d (sent_by text setup place e) 1))
each_told text setup place e d None answers headers are =
    reports_told d (sent_by text setup place e) 1 [] e.interchange.content.groups answers headers are

-- its TA1
same_ta1 : (text : List ℕ) (setup : SetupValue) (d : Delims) (e : IndexEntry) (x : CheckedInterchange) → IsCheckedAs text setup e x
    → ta1_of d (acknowledgment_of x) ≡ option_map (ta1_text d e.interchange.header) (note_to setup e)
same_ta1 text setup d e x is =
    ap (λ (y : IndexEntry). option_map (ta1_text d y.interchange.header) (ta1_note x.sender y.fault y.interchange)) is.entry
    ∙ ap (λ (s : Option ℕ). option_map (ta1_text d e.interchange.header) (ta1_note s e.fault e.interchange)) is.sender

-- the acknowledgment of an interchange
interchange_told : (text : List ℕ) (setup : SetupValue) (at : List ℕ) (place number control : ℕ) (partner : Partner) (e : IndexEntry)
    (x : CheckedInterchange) → HaveHeaders text e.interchange → IsCheckedAs text setup e x → is_acknowledged_to place x ≡ true
    → IsInterchangeTold (envelope_to setup partner) at number control
    (option_map (ta1_text partner.delims e.interchange.header) (note_to setup e)) (sent_by text setup place e) (groups_told e)
    (acknowledgment_text (envelope_to setup partner) at number control (acknowledgment_of x))
interchange_told text setup at place number control partner e x headers is told = record {
  reports = reports_from partner.delims 1 (present x.groups);
  is =
      ap (λ (ta1 : Option (List ℕ)). interchange_text (envelope_to setup partner) at number control ta1
      (reports_from partner.delims 1 (present x.groups))) (same_ta1 text setup partner.delims e x is);
  each = each_told text setup place e partner.delims e.fault x.groups headers (answers_here text setup place e x is told);
}

-- acknowledgments, before which there are k acknowledgments and g groups
abbrev texts_from : SetupValue → Partner → (at : List ℕ) → (k g : ℕ) → List CheckedInterchange → List (List ℕ)
texts_from setup partner at k g [] = []
texts_from setup partner at k g (x ∷ xs) =
    acknowledgment_text (envelope_to setup partner) at (num partner.counters.interchange k) (num partner.counters.group g)
    (acknowledgment_of x)
    ∷ texts_from setup partner at (k + 1) (g + acknowledgment_group_count (acknowledgment_of x)) xs

in_a_row : (setup : SetupValue) (partner : Partner) (at : List ℕ) (k g : ℕ) (xs : List CheckedInterchange)
    → acknowledgments_from setup partner at k g xs ≡ texts_in_row (texts_from setup partner at k g xs)
in_a_row setup partner at k g [] = refl
in_a_row setup partner at k g (x ∷ xs) =
    ap (λ (t : List ℕ). acknowledgment_text (envelope_to setup partner) at (num partner.counters.interchange k)
    (num partner.counters.group g) (acknowledgment_of x) ++ t)
    (in_a_row setup partner at (k + 1) (g + acknowledgment_group_count (acknowledgment_of x)) xs)

module _ (text : List ℕ) (setup : SetupValue) (at : List ℕ) (place : ℕ) (partner : Partner) where
  abbrev IsTold : (number control : ℕ) → IndexEntry → List ℕ → Type 0
  IsTold number control e told =
      IsInterchangeTold (envelope_to setup partner) at (num partner.counters.interchange number) (num partner.counters.group control)
      (option_map (ta1_text partner.delims e.interchange.header) (note_to setup e)) (sent_by text setup place e) (groups_told e) told

  -- those of a list, after k acknowledgments and g groups
  abbrev T : (k g : ℕ) → List IndexEntry → ℕ → IndexEntry → List ℕ → Type 0
  T k g es m e told = IsTold (k + m) (g + groups_behind (take m es)) e told

  first_told : (k g : ℕ) (e : IndexEntry) (x : CheckedInterchange) (es : List IndexEntry) (xs : List CheckedInterchange)
      → HaveHeaders text e.interchange → IsCheckedAs text setup e x → is_acknowledged_to place x ≡ true
      → AreAllPairs (T (k + 1) (g + answered_group_count e) es) es (texts_from setup partner at (k + 1) (g + answered_group_count e) xs)
      → AreAllPairs (T k g (e ∷ es)) (e ∷ es) (texts_from setup partner at k g (x ∷ xs))
  first_told k g e x es xs headers is told rest =
      let here : List ℕ = acknowledgment_text (envelope_to setup partner) at (num partner.counters.interchange k)
      (num partner.counters.group g) (acknowledgment_of x) in
      let same : answered_group_count e ≡ acknowledgment_group_count (acknowledgment_of x) = sym
      (groups_here text setup place e x is told) in
      let one : IsTold k g e here = interchange_told text setup at place (num partner.counters.interchange k)
      (num partner.counters.group g) partner e x headers is told in
      subst (λ (n : ℕ). AreAllPairs (T k g (e ∷ es)) (e ∷ es) (here ∷ texts_from setup partner at (k + 1) (g + n) xs)) same
      (pairs_cons (T k g (e ∷ es)) e here es (texts_from setup partner at (k + 1) (g + answered_group_count e) xs)
      (subst (λ (n : ℕ). IsTold n (g + 0) e here) (omega arith) (subst (λ (n : ℕ). IsTold k n e here) (omega arith) one))
      (pairs_weaker (T (k + 1) (g + answered_group_count e) es) (λ m y told. T k g (e ∷ es) (suc m) y told) es
      (texts_from setup partner at (k + 1) (g + answered_group_count e) xs)
      (λ m y told is. subst (λ (n : ℕ). IsTold n (g + (answered_group_count e + groups_behind (take m es))) y told) (omega arith)
      (subst (λ (n : ℕ). IsTold ((k + 1) + m) n y told) (omega arith) is)) rest))

  -- one interchange more in front, by whether it is acknowledged to the partner
  one_in_front : (k g : ℕ) (e : IndexEntry) (x : CheckedInterchange) (es : List IndexEntry) (xs : List CheckedInterchange)
      → HaveHeaders text e.interchange → IsCheckedAs text setup e x
      → AreAllPairs (T (k + 1) (g + answered_group_count e) es) es (texts_from setup partner at (k + 1) (g + answered_group_count e) xs)
      → AreAllPairs (T k g es) es (texts_from setup partner at k g xs)
      → (b : Bool) → is_acknowledged_to place x ≡ b
      → AreAllPairs (T k g (cond (is_told_to setup place e) (e ∷ es) es)) (cond (is_told_to setup place e) (e ∷ es) es)
      (texts_from setup partner at k g (cond (is_acknowledged_to place x) (x ∷ xs) xs))
  one_in_front k g e x es xs headers first next same b is = both (by b is)
    where
      both : AreAllPairs (T k g (cond b (e ∷ es) es)) (cond b (e ∷ es) es) (texts_from setup partner at k g (cond b (x ∷ xs) xs))
          → AreAllPairs (T k g (cond (is_told_to setup place e) (e ∷ es) es)) (cond (is_told_to setup place e) (e ∷ es) es)
          (texts_from setup partner at k g (cond (is_acknowledged_to place x) (x ∷ xs) xs))
      both all =
          let known : b ≡ is_acknowledged_to place x = sym is in
          subst (λ (c : Bool). AreAllPairs (T k g (cond c (e ∷ es) es)) (cond c (e ∷ es) es)
          (texts_from setup partner at k g (cond (is_acknowledged_to place x) (x ∷ xs) xs)))
          (known ∙ acknowledged_as_told text setup place e x first)
          (subst (λ (c : Bool). AreAllPairs (T k g (cond b (e ∷ es) es)) (cond b (e ∷ es) es)
          (texts_from setup partner at k g (cond c (x ∷ xs) xs))) known all)

      by : (b : Bool) → is_acknowledged_to place x ≡ b
          → AreAllPairs (T k g (cond b (e ∷ es) es)) (cond b (e ∷ es) es) (texts_from setup partner at k g (cond b (x ∷ xs) xs))
      by true is = first_told k g e x es xs headers first is next
      by false is = same

  interchanges_told : (k g : ℕ) (es : List IndexEntry) (xs : List CheckedInterchange)
      → All (λ e. HaveHeaders text e.interchange) es → AreCheckedAs text setup es xs
      → AreAllPairs (T k g (filter (is_told_to setup place) es)) (filter (is_told_to setup place) es)
      (texts_from setup partner at k g (acknowledged_to place xs))
  interchanges_told k g [] [] headers are = no_pairs (T k g [])
  interchanges_told k g [] (x ∷ xs) headers are = absurd (omega (arith, are.count))
  interchanges_told k g (e ∷ es) [] headers are = absurd (omega (arith, are.count))
  interchanges_told k g (e ∷ es) (x ∷ xs) headers are =
      let rest : AreCheckedAs text setup es xs = pairs_tail (λ n e x. IsCheckedAs text setup e x) e x es xs are in
      let behind = All-tail (λ (e : IndexEntry). HaveHeaders text e.interchange) e es headers in
      one_in_front k g e x (filter (is_told_to setup place) es) (acknowledged_to place xs)
      (All-head (λ (e : IndexEntry). HaveHeaders text e.interchange) e es headers) (are.each 0 e x refl refl)
      (interchanges_told (k + 1) (g + answered_group_count e) es xs behind rest) (interchanges_told k g es xs behind rest)
      (is_acknowledged_to place x) refl

  partner_told : (es : List IndexEntry) (xs : List CheckedInterchange) → All (λ e. HaveHeaders text e.interchange) es
      → AreCheckedAs text setup es xs
      → IsPartnerTold text setup at es place partner (acks_of setup at xs place partner)
  partner_told es xs headers are =
      let told : List IndexEntry = filter (is_told_to setup place) es in
      record {
        texts = texts_from setup partner at 0 0 (acknowledged_to place xs);
        is = in_a_row setup partner at 0 0 (acknowledged_to place xs);
        each = pairs_weaker (T 0 0 told) (λ m e text. IsTold m (groups_behind (take m told)) e text) told
            (texts_from setup partner at 0 0 (acknowledged_to place xs))
            (λ m e text is. subst (λ (n : ℕ). IsTold n (groups_behind (take m told)) e text) (omega arith)
            (subst (λ (n : ℕ). IsTold (0 + m) n e text) (omega arith) is)) (interchanges_told 0 0 es xs headers are);
      }

pub told_by_night : (text : List ℕ) (setup : SetupValue) (at : List ℕ) (night : Night) → IsNight text setup at night
    → AreSetsTold text setup at night.acks
told_by_night text setup at night is =
    let index = is.is_known.index in
    let entries : List IndexEntry = (settled index (settled_faults setup index.entries)).entries in
    let headers = settled_headers text index (settled_faults setup index.entries) is.is_known.read in
    record {
      index = index;
      read = is.is_known.read;
      each = pairs_weaker (λ place partner acks. acks ≡ acks_of setup at is.known place partner)
          (λ place partner told. IsPartnerTold text setup at entries place partner told) setup.partners night.acks
          (λ place partner acks same. subst (IsPartnerTold text setup at entries place partner) (sym same)
          (partner_told text setup at place partner entries is.known headers is.is_known.answered)) is.is.acks;
    }
