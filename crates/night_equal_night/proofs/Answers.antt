-- The answers to groups and sets are those of the layers.
use Rattle.std.proofs.Common.{◌≡◌, ℕ, List, [], ◌∷◌, map, not, Option, Some, None, refl, sym, ap, ◌∙◌, subst}
use Rattle.std.specs.Prelude.{if◌then◌else◌, filter, take}
use Rattle.std.specs.List.{All}
use Rattle.std.proofs.lemmas.List.Elements.{All-cons, All-head, All-nil, All-tail}
use Rattle.x12_segs.specs.Words.{SegValue}
use Rattle.hub_kinds.specs.declared.answers.GroupAnswer.{GroupAnswer}
use Rattle.hub_kinds.specs.declared.answers.SetAnswer.{SetAnswer}
use Rattle.hub_kinds.specs.declared.fault.Fault.{Fault}
use Rattle.hub_kinds.specs.declared.set_codes.SetCode.{SetCode}
use Rattle.hub_kinds.specs.declared.set_codes.Verdict.{Verdict}
use Rattle.hub_kinds.specs.declared.set_codes.GroupCode.{GroupCode}
use Rattle.hub_kinds.specs.declared.set_codes.GroupVerdict.{GroupVerdict}
use Rattle.env_index.specs.Words.{GroupEntry}
use Rattle.env_index.specs.declared.entry.SetEnvelope.{SetEnvelope}
use Rattle.set_check.specs.Checked.{guide_in, parts_in}
use Rattle.set_answers.specs.Answers.{SentValue, IsSetAnswer, AreSetAnswers, IsGroupAnswered, AreGroupAnswers}
use Rattle.set_answers.specs.declared.answered.AnsweredGroup as then
use Rattle.night_law.proofs.ForAbove.{pairs_all}
use Rattle.night_definition.specs.Answers.{Answer, AnsweredGroup}
use Rattle.night_equal_text.specs.Answered.{IsAnswerOf, ChecksAreOne, AreAnswersOf, IsAnsweredAs, IsGroupOf, AreGroupsOf}
use Rattle.night_equal_text.specs.Laws.{AnswersFollow}
use Rattle.night_equal_writing.specs.Acknowledgments.{set_answer, group_answer, answered_group, HasItsCode, HaveTheirCodes}
use Rattle.night_equal_night.specs.Answers.{AnswersAreOne}
use Rattle.night_equal_night.proofs.Codes.{faults_shown}

abbrev set_made : List ℕ → List ℕ → List ℕ → List Fault → List SetCode → Verdict → SetAnswer
set_made identifier control convention faults codes verdict = record {
  identifier = identifier;
  control = control;
  convention = convention;
  faults = faults;
  codes = codes;
  verdict = verdict;
}

set_is : (a : Answer) (o : SetAnswer) → IsAnswerOf a o → set_answer a ≡ o
set_is a o is =
    let s : SetAnswer = set_answer a in
    ap (λ t. set_made t s.control s.convention s.faults s.codes s.verdict) is.identifier
    ∙ ap (λ t. set_made o.identifier t s.convention s.faults s.codes s.verdict) is.control
    ∙ ap (λ t. set_made o.identifier o.control t s.faults s.codes s.verdict) is.convention
    ∙ ap (λ t. set_made o.identifier o.control o.convention t s.codes s.verdict) is.faults
    ∙ ap (λ t. set_made o.identifier o.control o.convention o.faults t s.verdict) is.codes
    ∙ ap (λ t. set_made o.identifier o.control o.convention o.faults o.codes t) is.verdict

pub sets_are : (xs : List Answer) (os : List SetAnswer) → AreAnswersOf xs os → map set_answer xs ≡ os
sets_are [] [] are = refl
sets_are [] (o ∷ os) are = absurd are
sets_are (a ∷ xs) [] are = absurd are
sets_are (a ∷ xs) (o ∷ os) are = ap (λ s. s ∷ map set_answer xs) (set_is a o are.0) ∙ ap (λ ss. o ∷ ss) (sets_are xs os are.1)

abbrev group_made : List ℕ → List ℕ → List ℕ → List ℕ → List GroupCode → GroupVerdict → GroupAnswer
group_made functional_id control version listed codes verdict = record {
  functional_id = functional_id;
  control = control;
  version = version;
  listed = listed;
  codes = codes;
  verdict = verdict;
}

own_is : (g : AnsweredGroup) (o : then.AnsweredGroup) → IsAnsweredAs g o → group_answer g ≡ o.answer
own_is g o is =
    let s : GroupAnswer = group_answer g in
    let t : GroupAnswer = o.answer in
    ap (λ x. group_made x s.control s.version s.listed s.codes s.verdict) is.functional_id
    ∙ ap (λ x. group_made t.functional_id x s.version s.listed s.codes s.verdict) is.control
    ∙ ap (λ x. group_made t.functional_id t.control x s.listed s.codes s.verdict) is.version
    ∙ ap (λ x. group_made t.functional_id t.control t.version x s.codes s.verdict) is.listed
    ∙ ap (λ x. group_made t.functional_id t.control t.version t.listed x s.verdict) is.codes
    ∙ ap (λ x. group_made t.functional_id t.control t.version t.listed t.codes x) is.verdict

abbrev answered_made : GroupAnswer → List SetAnswer → then.AnsweredGroup
answered_made answer sets = record { answer = answer; sets = sets }

group_is : (g : AnsweredGroup) (o : Option then.AnsweredGroup) → IsGroupOf g o → answered_group g ≡ o
group_is g None is = ap (λ b. if b then None else Some (answered_made (group_answer g) (map set_answer g.answers))) is
group_is g (Some o) is =
    ap (λ b. if b then None else Some (answered_made (group_answer g) (map set_answer g.answers))) is.other
    ∙ ap (λ t. Some (answered_made t (map set_answer g.answers))) (own_is g o is)
    ∙ ap (λ t. Some (answered_made o.answer t)) (sets_are g.answers o.sets is.answers)

pub groups_are : (gs : List AnsweredGroup) (os : List (Option then.AnsweredGroup)) → AreGroupsOf gs os → map answered_group gs ≡ os
groups_are [] [] are = refl
groups_are [] (o ∷ os) are = absurd are
groups_are (g ∷ gs) [] are = absurd are
groups_are (g ∷ gs) (o ∷ os) are =
    ap (λ s. s ∷ map answered_group gs) (group_is g o are.0) ∙ ap (λ ss. o ∷ ss) (groups_are gs os are.1)

pub answers : AnswersFollow → ChecksAreOne → AnswersAreOne
answers follow checks sent gs es os kept is_in is = groups_are _ os (follow checks sent gs es os kept is_in is)

-- the faults of each set have their codes
abbrev AreCoded : SetAnswer → Type 0
AreCoded o = All HasItsCode o.faults

abbrev HasCoded : Option then.AnsweredGroup → Type 0
HasCoded None = Unit {0}
HasCoded (Some o) = All AreCoded o.sets

sets_coded : (sent : SentValue) (gs : SegValue) (es : List SetEnvelope) (os : List SetAnswer) → AreSetAnswers sent gs es os
    → All AreCoded os
sets_coded sent gs es os are =
    pairs_all (λ n e o. IsSetAnswer sent gs (take n es) e o) AreCoded es os are (λ n e o at_e is.
    subst (All HasItsCode) (sym (ap (λ (a : SetAnswer). a.faults) is.is))
    (faults_shown (guide_in is.checked) (parts_in is.checked) is.checked.faults is.exact.faults))

group_coded : (sent : SentValue) (before : List GroupEntry) (e : GroupEntry) (o : Option then.AnsweredGroup)
    → IsGroupAnswered sent before e o → HasCoded o
group_coded sent before e None is = tt
group_coded sent before e (Some o) is = sets_coded sent e.header e.sets o.sets is.sets

all_coded : (sent : SentValue) (es : List GroupEntry) (os : List (Option then.AnsweredGroup)) → AreGroupAnswers sent es os
    → All HasCoded os
all_coded sent es os are =
    pairs_all (λ n e o. IsGroupAnswered sent (take n es) e o) HasCoded es os are (λ n e o at_e is. group_coded sent (take n es) e o is)

abbrev IsCoded : Answer → Type 0
IsCoded a = All HasItsCode a.faults

answers_coded : (xs : List Answer) (os : List SetAnswer) → AreAnswersOf xs os → All AreCoded os → All IsCoded xs
answers_coded [] [] are all = All-nil IsCoded
answers_coded [] (o ∷ os) are all = absurd are
answers_coded (a ∷ xs) [] are all = absurd are
answers_coded (a ∷ xs) (o ∷ os) are all =
    All-cons IsCoded a xs (subst (All HasItsCode) (sym are.0.faults) (All-head AreCoded o os all))
    (answers_coded xs os are.1 (All-tail AreCoded o os all))

reported_by : (gs : List AnsweredGroup) (os : List (Option then.AnsweredGroup)) → AreGroupsOf gs os → All HasCoded os
    → All HaveTheirCodes (filter (λ (g : AnsweredGroup). not g.is_fa) gs)
reported_by [] [] are all = All-nil HaveTheirCodes
reported_by [] (o ∷ os) are all = absurd are
reported_by (g ∷ gs) [] are all = absurd are
reported_by (g ∷ gs) (o ∷ os) are all =
    by o are.0 (All-head HasCoded o os all) (reported_by gs os are.1 (All-tail HasCoded o os all))
  where
    by : (o : Option then.AnsweredGroup) → IsGroupOf g o → HasCoded o → All HaveTheirCodes (filter (λ (g : AnsweredGroup). not g.is_fa) gs)
        → All HaveTheirCodes (if not g.is_fa then g ∷ filter (λ (g : AnsweredGroup). not g.is_fa) gs
        else filter (λ (g : AnsweredGroup). not g.is_fa) gs)
    by None is has more =
        subst (λ b. All HaveTheirCodes (if not b then g ∷ filter (λ (g : AnsweredGroup). not g.is_fa) gs
        else filter (λ (g : AnsweredGroup). not g.is_fa) gs)) (sym is) more
    by (Some o) is has more =
        subst (λ b. All HaveTheirCodes (if not b then g ∷ filter (λ (g : AnsweredGroup). not g.is_fa) gs
        else filter (λ (g : AnsweredGroup). not g.is_fa) gs)) (sym is.other)
        (All-cons HaveTheirCodes g (filter (λ (g : AnsweredGroup). not g.is_fa) gs) (answers_coded g.answers o.sets is.answers has) more)

pub reported_coded : (sent : SentValue) (es : List GroupEntry) (gs : List AnsweredGroup) (os : List (Option then.AnsweredGroup))
    → AreGroupAnswers sent es os → AreGroupsOf gs os → All HaveTheirCodes (filter (λ (g : AnsweredGroup). not g.is_fa) gs)
reported_coded sent es gs os is are = reported_by gs os are (all_coded sent es os is)
