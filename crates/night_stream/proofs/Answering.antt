-- The answers to a batch, in the whole text.
use Rattle.std.proofs.Common.{◌≡◌, ℕ, Bool, ◌||◌, List, [], ◌∷◌, ◌++◌, Option, Some, None, length, map, take}
use Rattle.std.proofs.Common.{option_map, refl, sym, ap, subst, ◌∙◌}
use Rattle.std.specs.List.{All}
use Rattle.std.proofs.lemmas.List.{length-map}
use Rattle.hub_kinds.specs.declared.interchange.InterchangeFault.{InterchangeFault}
use Rattle.hub_kinds.specs.declared.answers.GroupAnswer.{GroupAnswer}
use Rattle.hub_kinds.specs.declared.answers.SetAnswer.{SetAnswer}
use Rattle.hub_kinds.specs.declared.set_codes.GroupCode.{GroupCode}
use Rattle.x12_segs.specs.Words.{IsSetSpan, SegValue, element_of}
use Rattle.env_index.specs.declared.entry.SetEnvelope.{SetEnvelope}
use Rattle.env_index.specs.Words.{GroupEntry, HasSpans, IndexEntry, span_of}
use Rattle.partner_setup.specs.Setup.{SetupValue}
use Rattle.set_check.specs.Answer.{answer_to}
use Rattle.set_check.specs.Checked.{Checked}
use Rattle.set_check.specs.Codes.{control_of}
use Rattle.ack_999.specs.Group.{are_same_number, group_codes_of, group_verdict_of, verdicts_of}
use Rattle.whole_interchanges.specs.Moved.{moved_entry, moved_group, moved_set, moved_span, moved_view}
use Rattle.whole_interchanges.proofs.ForAbove.{span_of_moved}
use Rattle.night_stream.specs.MovedSets.{moved_checked, moved_judged}
use Rattle.night_stream.proofs.Sets.{answer_moved, checked_moved}
use Rattle.set_answers.specs.declared.answered.AnsweredGroup.{AnsweredGroup}
use Rattle.set_answers.specs.Answers.{AreGroupAnswers, AreSetAnswers, IsGroupAnswered, IsSetAnswer, SentValue, answer_by, codes_where}
use Rattle.set_answers.specs.Answers.{controls_of, group_number, has_number_among, listed_by, support_of, trailer_of}
use Rattle.set_answers.specs.CheckedText.{AreAnswersBy, AreCheckedAs, CheckedInterchange, IsCheckedAs, judged, sent_by}
use Rattle.set_answers.specs.Seen.{is_among}
use Rattle.set_answers.proofs.ForAbove.{at_index}
use Rattle.night_stream.specs.MovedAnswers.{moved_answered}
use Rattle.night_stream.proofs.Pairs.{pairs_first_mapped, pairs_mapped, take_mapped}

abbrev pub moved_sent : (before behind : List ℕ) → SentValue → SentValue
moved_sent before behind s = record { text = before ++ (s.text ++ behind); setup = s.setup; sender = s.sender; delims = s.delims }

module _ (before behind : List ℕ) (sent : SentValue) where
  abbrev by : ℕ
  by = length before

  abbrev whole : SentValue
  whole = moved_sent before behind sent

  abbrev HasSpan : SetEnvelope → Type 0
  HasSpan set = IsSetSpan sent.text (span_of sent.delims set)

  controls_moved : (sets : List SetEnvelope) → controls_of (map (moved_set by) sets) ≡ controls_of sets
  controls_moved [] = refl
  controls_moved (s ∷ sets) = ap (λ (l : List (List ℕ)). control_of s.header ∷ l) (controls_moved sets)

  set_moved : (gs : SegValue) (earlier : List SetEnvelope) (set : SetEnvelope) (answer : SetAnswer) → HasSpan set
      → IsSetAnswer sent gs earlier set answer → IsSetAnswer whole (moved_view by gs) (map (moved_set by) earlier) (moved_set by set) answer
  set_moved gs earlier set answer span is =
      let c : Checked = is.checked in
      let its_span : IsSetSpan c.text c.span =
      subst (λ (t : List ℕ). IsSetSpan t c.span) (sym is.text) (subst (IsSetSpan sent.text) (sym is.span) span) in
      let told : Bool = is_among (control_of set.header) (controls_of earlier) in
      record {
        checked = moved_checked before behind c;
        text = ap (λ (t : List ℕ). before ++ (t ++ behind)) is.text;
        span = ap (moved_span by) is.span ∙ sym (span_of_moved by sent.delims set);
        guide = is.guide;
        exact = checked_moved before behind c its_span is.exact;
        is = is.is ∙ sym (answer_moved before behind c told its_span)
            ∙ ap (λ (l : List (List ℕ)). answer_to (moved_checked before behind c) (is_among (control_of set.header) l))
            (sym (controls_moved earlier));
      }

  sets_moved : (gs : SegValue) (sets : List SetEnvelope) (answers : List SetAnswer) → All HasSpan sets
      → AreSetAnswers sent gs sets answers → AreSetAnswers whole (moved_view by gs) (map (moved_set by) sets) answers
  sets_moved gs sets answers spans are =
      pairs_first_mapped (λ n set answer. IsSetAnswer sent gs (take n sets) set answer)
      (λ n set answer. IsSetAnswer whole (moved_view by gs) (take n (map (moved_set by) sets)) set answer) (moved_set by) sets answers
      (λ n set answer there is. subst (λ (l : List SetEnvelope). IsSetAnswer whole (moved_view by gs) l (moved_set by set) answer)
      (sym (take_mapped (moved_set by) n sets))
      (set_moved gs (take n sets) set answer (at_index HasSpan sets n set there spans) is)) are

  numbers_moved : (earlier : List GroupEntry) (group : GroupEntry)
      → has_number_among (map (moved_group by) earlier) (moved_group by group) ≡ has_number_among earlier group
  numbers_moved [] group = refl
  numbers_moved (g ∷ gs) group = ap (λ (b : Bool). are_same_number (group_number group) (group_number g) || b) (numbers_moved gs group)

  codes_moved : (earlier : Bool) (group : GroupEntry) → codes_where whole earlier (moved_group by group) ≡ codes_where sent earlier group
  codes_moved earlier group = by_trailer group.trailer
    where
      by_trailer : (t : Option SegValue)
          → group_codes_of (support_of sent.setup sent.sender group.header) (element_of group.header 6)
          (option_map trailer_of (option_map (moved_view by) t)) (length (map (moved_set by) group.sets)) earlier
          ≡ group_codes_of (support_of sent.setup sent.sender group.header) (element_of group.header 6) (option_map trailer_of t)
          (length group.sets) earlier
      by_trailer None = ap (λ (n : ℕ). group_codes_of (support_of sent.setup sent.sender group.header) (element_of group.header 6)
          None n earlier) (length-map group.sets (moved_set by))
      by_trailer (Some x) = ap (λ (n : ℕ). group_codes_of (support_of sent.setup sent.sender group.header) (element_of group.header 6)
          (Some (trailer_of x)) n earlier) (length-map group.sets (moved_set by))

  answer_by_moved : (group_codes : List GroupCode) (group : GroupEntry) (answers : List SetAnswer)
      → answer_by group_codes (moved_group by group) answers ≡ answer_by group_codes group answers
  answer_by_moved group_codes group answers = by_trailer group.trailer
    where
      by_trailer : (t : Option SegValue) → (let a : GroupAnswer = record {
        functional_id = element_of group.header 1;
        control = element_of group.header 6;
        version = element_of group.header 8;
        listed = listed_by (option_map (moved_view by) t);
        codes = group_codes;
        verdict = group_verdict_of group_codes (verdicts_of answers);
      } in a) ≡ record {
        functional_id = element_of group.header 1;
        control = element_of group.header 6;
        version = element_of group.header 8;
        listed = listed_by t;
        codes = group_codes;
        verdict = group_verdict_of group_codes (verdicts_of answers);
      }
      by_trailer None = refl
      by_trailer (Some x) = refl

  group_moved : (earlier : List GroupEntry) (group : GroupEntry) (answered : Option AnsweredGroup) → All HasSpan group.sets
      → IsGroupAnswered sent earlier group answered → IsGroupAnswered whole (map (moved_group by) earlier) (moved_group by group) answered
  group_moved earlier group None spans is = is
  group_moved earlier group (Some answered) spans is = record {
    other = is.other;
    sets = sets_moved group.header group.sets answered.sets spans is.sets;
    is = is.is
        ∙ ap (λ (cs : List GroupCode). answer_by cs group answered.sets)
        (ap (λ (b : Bool). codes_where sent b group) (sym (numbers_moved earlier group))
        ∙ sym (codes_moved (has_number_among (map (moved_group by) earlier) (moved_group by group)) group))
        ∙ sym (answer_by_moved
        (codes_where whole (has_number_among (map (moved_group by) earlier) (moved_group by group)) (moved_group by group))
        group answered.sets);
  }

  groups_moved : (groups : List GroupEntry) (answers : List (Option AnsweredGroup)) → All (λ g. All HasSpan g.sets) groups
      → AreGroupAnswers sent groups answers → AreGroupAnswers whole (map (moved_group by) groups) answers
  groups_moved groups answers spans are =
      pairs_first_mapped (λ n group answered. IsGroupAnswered sent (take n groups) group answered)
      (λ n group answered. IsGroupAnswered whole (take n (map (moved_group by) groups)) group answered) (moved_group by) groups answers
      (λ n group answered there is. subst (λ (l : List GroupEntry). IsGroupAnswered whole l (moved_group by group) answered)
      (sym (take_mapped (moved_group by) n groups))
      (group_moved (take n groups) group answered (at_index (λ (g : GroupEntry). All HasSpan g.sets) groups n group there spans) is)) are

module _ (before text behind : List ℕ) (setup : SetupValue) where
  abbrev all : List ℕ
  all = before ++ (text ++ behind)

  answers_moved : (e : IndexEntry) (fault : Option InterchangeFault) (sender : Option ℕ) (groups : List (Option AnsweredGroup))
      → HasSpans text e.interchange → AreAnswersBy text setup e fault sender groups
      → AreAnswersBy all setup (moved_entry (length before) e) fault sender groups
  answers_moved e (Some fault) sender groups spans are = are
  answers_moved e None None groups spans are = are
  answers_moved e None (Some sender) groups spans are =
      groups_moved before behind (sent_by text setup sender e) e.interchange.content.groups groups spans are

  answered_moved : (e : IndexEntry) (x : CheckedInterchange) → HasSpans text e.interchange → IsCheckedAs text setup e x
      → IsCheckedAs all setup (moved_entry (length before) e) (moved_answered (length before) x)
  answered_moved e x spans is = record {
    entry = ap (moved_entry (length before)) is.entry;
    sender = is.sender;
    groups = answers_moved e e.fault x.sender x.groups spans is.groups;
  }

  pub all_moved : (es : List IndexEntry) (xs : List CheckedInterchange) → All (λ e. HasSpans text e.interchange) es
      → AreCheckedAs text setup es xs
      → AreCheckedAs all setup (map (moved_entry (length before)) es) (map (moved_answered (length before)) xs)
  all_moved es xs spans are =
      pairs_mapped (λ n e x. IsCheckedAs text setup e x) (λ n e x. IsCheckedAs all setup e x) (moved_entry (length before))
      (moved_answered (length before)) es xs
      (λ n e x there is. answered_moved e x (at_index (λ (e : IndexEntry). HasSpans text e.interchange) es n e there spans) is) are

pub judged_moved : (before text behind : List ℕ) (xs : List CheckedInterchange)
    → map (judged (before ++ (text ++ behind))) (map (moved_answered (length before)) xs)
    ≡ map (moved_judged before behind) (map (judged text) xs)
judged_moved before text behind [] = refl
judged_moved before text behind (x ∷ xs) =
    ap (λ l. moved_judged before behind (judged text x) ∷ l) (judged_moved before text behind xs)
