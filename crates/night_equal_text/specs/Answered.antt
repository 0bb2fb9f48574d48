-- What is answered to the groups and sets of an interchange, once a set that was checked has its faults.
use Rattle.std.specs.Prelude.{◌≡◌, Bool, true, false, List, [], ◌∷◌, Option, Some, None}
use Rattle.std.specs.Option.{option_map_or}
use Rattle.x12_bytes.specs.declared.delims.Delims.{Delims}
use Rattle.hub_kinds.specs.declared.answers.SetAnswer.{SetAnswer}
use Rattle.guide_tree.specs.Tree.{GuideTree}
use Rattle.set_check.specs.Answer.{answer_to}
use Rattle.set_check.specs.Checked.{Checked, IsChecked, guide_in, parts_in}
use Rattle.set_answers.specs.declared.answered.AnsweredGroup as then
use Rattle.night_definition.specs.Segments.{Segment, element}
use Rattle.night_definition.specs.Envelopes.{Set}
use Rattle.night_definition.specs.Sets.{faults_of, set_codes, verdict_on}
use Rattle.night_definition.specs.Answers.{Answer, AnsweredGroup}
use Rattle.night_equal_text.specs.Spanned.{IsSetOf}

-- a set answered by a guide, whose ST02 an earlier set may have
abbrev pub answer_with : Option GuideTree → Delims → Set → (earlier : Bool) → Answer
answer_with guide d set earlier =
    let faults = faults_of guide d set in
    let codes = set_codes guide d set faults earlier in
    record { set = set; faults = faults; codes = codes; verdict = verdict_on guide faults codes }

-- it has the ST01, ST02 and ST03, the faults, the codes and the verdict of an answer
pub record IsAnswerOf (a : Answer) (o : SetAnswer) : Type 0 where
  pub identifier : element 1 a.set.header.elements ≡ o.identifier
  pub control : element 2 a.set.header.elements ≡ o.control
  pub convention : element 3 a.set.header.elements ≡ o.convention
  pub faults : a.faults ≡ o.faults
  pub codes : a.codes ≡ o.codes
  pub verdict : a.verdict ≡ o.verdict

-- what the laws of a set are to give: a set that was checked is answered alike
abbrev pub ChecksAreOne : Type 0
ChecksAreOne = (c : Checked) (s : Set) (earlier : Bool) → IsSetOf s (parts_in c) → IsChecked c
    → IsAnswerOf (answer_with (guide_in c) c.span.delims s earlier) (answer_to c earlier)

abbrev pub AreAnswersOf : List Answer → List SetAnswer → Type 0
AreAnswersOf [] [] = Unit {0}
AreAnswersOf [] (o ∷ os) = ⊥
AreAnswersOf (a ∷ xs) [] = ⊥
AreAnswersOf (a ∷ xs) (o ∷ os) = IsAnswerOf a o × AreAnswersOf xs os

-- a group with its GS01, GS06, GS08 and GE01, its codes, its sets' answers and its verdict
pub record IsAnsweredAs (g : AnsweredGroup) (o : then.AnsweredGroup) : Type 0 where
  pub other : g.is_fa ≡ false
  pub functional_id : element 1 g.group.header.elements ≡ o.answer.functional_id
  pub control : element 6 g.group.header.elements ≡ o.answer.control
  pub version : element 8 g.group.header.elements ≡ o.answer.version
  pub listed : option_map_or (λ (ge : Segment). element 1 ge.elements) g.group.trailer [] ≡ o.answer.listed
  pub codes : g.codes ≡ o.answer.codes
  pub answers : AreAnswersOf g.answers o.sets
  pub verdict : g.verdict ≡ o.answer.verdict

-- nothing is answered to one of acknowledgments
abbrev pub IsGroupOf : AnsweredGroup → Option then.AnsweredGroup → Type 0
IsGroupOf g None = g.is_fa ≡ true
IsGroupOf g (Some o) = IsAnsweredAs g o

abbrev pub AreGroupsOf : List AnsweredGroup → List (Option then.AnsweredGroup) → Type 0
AreGroupsOf [] [] = Unit {0}
AreGroupsOf [] (o ∷ os) = ⊥
AreGroupsOf (g ∷ gs) [] = ⊥
AreGroupsOf (g ∷ gs) (o ∷ os) = IsGroupOf g o × AreGroupsOf gs os
