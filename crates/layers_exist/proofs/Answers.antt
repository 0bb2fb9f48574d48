-- The groups and sets of an interchange have their answers.
use Rattle.std.proofs.Common.{◌≡◌, ℕ, List, [], ◌∷◌, Bool, true, false, take, Option, Some, None, refl, cond, subst, ◌∙◌}
use Rattle.std.specs.Prelude.{IfSome, find, slice_get}
use Rattle.std.specs.List.{All}
use Rattle.std.proofs.lemmas.List.Elements.{All-cons, All-head, All-nil, All-tail}
use Rattle.x12_segs.specs.Words.{SegValue, element_of}
use Rattle.x12_segs.specs.declared.set_span.SetSpan.{SetSpan}
use Rattle.hub_kinds.specs.declared.answers.SetAnswer.{SetAnswer}
use Rattle.guide_tree.specs.declared.rows.GuideRows.{GuideRows}
use Rattle.guide_tree.specs.Words.{IsAccepted}
use Rattle.env_index.specs.Words.{GroupEntry, span_of}
use Rattle.env_index.specs.declared.entry.SetEnvelope.{SetEnvelope}
use Rattle.answered_sets.specs.Judged.{is_fa}
use Rattle.partner_setup.specs.Names.{and_some, those_at}
use Rattle.partner_setup.specs.Setup.{SetupValue, guide_for_set, guides_of, is_for_set, places_of}
use Rattle.set_check.specs.Answer.{answer_to}
use Rattle.set_check.specs.Checked.{Checked, IsChecked, guide_tree_of}
use Rattle.set_check.specs.Codes.{control_of}
use Rattle.set_check.specs.MeetsLaw.{IsWellGuided}
use Rattle.set_check.specs.SetFaults.{codes_with}
use Rattle.set_check.specs.SetParts.{set_parts}
use Rattle.set_answers.specs.Answers.{AreGroupAnswers, AreSetAnswers, IsGroupAnswered, IsSetAnswer, SentValue, answer_by, codes_where}
use Rattle.set_answers.specs.Answers.{controls_of, has_number_among}
use Rattle.set_answers.specs.Seen.{is_among}
use Rattle.set_answers.specs.declared.answered.AnsweredGroup.{AnsweredGroup}
use Rattle.set_answers.proofs.ForAbove.{at_index}
use Rattle.accepted_guides.specs.Accepted.{AreGuidesAccepted}
use Rattle.layers_exist.specs.Laws.{EachGroupHasItsAnswers, EachSetHasItsFaults, FaultyGuidesAnswerNothing}
use Rattle.layers_exist.proofs.Pairs.{pairs}

-- what holds of all items holds of those at some places, and of the one that a test finds
module _ {A : Type 0} (P : A → Type 0) where
  at_places : (xs : List A) → All P xs → (places : List ℕ) → All P (those_at xs places)
  at_places xs all [] = All-nil P
  at_places xs all (n ∷ places) = by (slice_get xs n) refl (at_places xs all places)
    where
      by : (o : Option A) → slice_get xs n ≡ o → All P (those_at xs places) → All P (and_some o (those_at xs places))
      by None is rest = rest
      by (Some x) is rest = All-cons P x (those_at xs places) (at_index P xs n x is all) rest

  one_found : (test : A → Bool) (xs : List A) → All P xs → IfSome (find test xs) P
  one_found test [] all = tt
  one_found test (x ∷ xs) all = by (test x) (one_found test xs (All-tail P x xs all))
    where
      by : (b : Bool) → IfSome (find test xs) P → IfSome (cond b (Some x) (find test xs)) P
      by true rest = All-head P x xs all
      by false rest = rest

guide_accepted : (setup : SetupValue) (sender : ℕ) (group version set : List ℕ) → AreGuidesAccepted setup
    → IfSome (guide_for_set setup sender group version set) IsAccepted
guide_accepted setup sender group version set accepted =
    one_found IsAccepted (is_for_set group version set) (guides_of setup sender)
    (at_places IsAccepted setup.guides accepted (places_of setup sender))

well_guided : (guide : Option GuideRows) → IfSome guide IsAccepted → IsWellGuided (guide_tree_of guide)
well_guided None accepted = tt
well_guided (Some rows) accepted = accepted.well_formed

module _ (faults : EachSetHasItsFaults) where
  -- a set, checked
  abbrev checked : (text : List ℕ) → SetSpan → (guide : Option GuideRows) → IfSome guide IsAccepted → Checked
  checked text span guide accepted = record {
    text = text;
    span = span;
    guide = guide;
    faults = (faults guide (set_parts text span) accepted).0;
    codes = codes_with (guide_tree_of guide) (set_parts text span) (faults guide (set_parts text span) accepted).0;
  }

  is_checked : (text : List ℕ) (span : SetSpan) (guide : Option GuideRows) (accepted : IfSome guide IsAccepted)
      → IsChecked (checked text span guide accepted)
  is_checked text span guide accepted =
      let found = faults guide (set_parts text span) accepted in
      record { well_guided = well_guided guide accepted; faults = found.1; rising = found.2; codes = refl }

  module _ (sent : SentValue) (accepted : AreGuidesAccepted sent.setup) where
    set_answer : (gs : SegValue) (before : List SetEnvelope) (set : SetEnvelope)
        → (answer : SetAnswer) × IsSetAnswer sent gs before set answer
    set_answer gs before set =
        let guide : Option GuideRows
        = guide_for_set sent.setup sent.sender (element_of gs 1) (element_of gs 8) (element_of set.header 1) in
        let is : IfSome guide IsAccepted
        = guide_accepted sent.setup sent.sender (element_of gs 1) (element_of gs 8) (element_of set.header 1) accepted in
        let c : Checked = checked sent.text (span_of sent.delims set) guide is in (
          answer_to c (is_among (control_of set.header) (controls_of before)),
          record {
            checked = c;
            text = refl;
            span = refl;
            guide = refl;
            exact = is_checked sent.text (span_of sent.delims set) guide is;
            is = refl;
          },
        )

    answers_to_sets : (gs : SegValue) (sets : List SetEnvelope) → (answers : List SetAnswer) × AreSetAnswers sent gs sets answers
    answers_to_sets gs sets =
        pairs sets (λ n set answer. IsSetAnswer sent gs (take n sets) set answer) (λ n set. set_answer gs (take n sets) set)

    group_answer : (before : List GroupEntry) (group : GroupEntry)
        → (answered : Option AnsweredGroup) × IsGroupAnswered sent before group answered
    group_answer before group = by (is_fa group) refl
      where
        by : (fa : Bool) → is_fa group ≡ fa → (answered : Option AnsweredGroup) × IsGroupAnswered sent before group answered
        by true is = (None, is)
        by false is =
            let sets = answers_to_sets group.header group.sets in
            let answered : AnsweredGroup = record {
              answer = answer_by (codes_where sent (has_number_among before group) group) group sets.0;
              sets = sets.0;
            } in
            (Some answered, record { other = is; sets = sets.1; is = refl })

    pub group_answers : (groups : List GroupEntry) → (answers : List (Option AnsweredGroup)) × AreGroupAnswers sent groups answers
    group_answers groups =
        pairs groups (λ n group answered. IsGroupAnswered sent (take n groups) group answered)
        (λ n group. group_answer (take n groups) group)

pub answers : EachSetHasItsFaults → EachGroupHasItsAnswers
answers faults sent groups accepted = group_answers faults sent accepted groups

-- the check of a set says that its guide has no fault
pub no_answer : FaultyGuidesAnswerNothing
no_answer sent gs before set answer rows found faulty is =
    faulty (subst (λ (guide : Option GuideRows). IsWellGuided (guide_tree_of guide)) (is.guide ∙ found) is.exact.well_guided)
