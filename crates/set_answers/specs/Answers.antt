-- 999 guide, functional group and transaction set response: what is answered to the groups and sets of an interchange whose sender is
-- known, each set checked by the sender's guide for it.
use Rattle.std.specs.Prelude.{◌≡◌, ℕ, Bool, true, false, List, [], map, take, length, Option, Some, None, option_map}
use Rattle.std.specs.Prelude.{if◌then◌else◌}
use Rattle.std.specs.List.{list_any}
use Rattle.x12_bytes.specs.declared.delims.Delims.{Delims}
use Rattle.x12_segs.specs.Words.{SegValue, element_of}
use Rattle.hub_kinds.specs.Words.{number_of}
use Rattle.hub_kinds.specs.declared.answers.GroupAnswer.{GroupAnswer}
use Rattle.hub_kinds.specs.declared.answers.SetAnswer.{SetAnswer}
use Rattle.hub_kinds.specs.declared.limits.TheConstants.{MOST_CONTROL_DIGITS}
use Rattle.hub_kinds.specs.declared.set_codes.GroupCode.{GroupCode}
use Rattle.set_check.specs.Answer.{answer_to}
use Rattle.set_check.specs.Checked.{Checked, IsChecked}
use Rattle.set_check.specs.Codes.{control_of}
use Rattle.ack_999.specs.Group.{are_same_number, group_codes_of, group_verdict_of, verdicts_of}
use Rattle.ack_999.specs.declared.support.GroupSupport.{GroupSupport}
use Rattle.ack_999.specs.declared.support.GroupSupport.TheVariants as support
use Rattle.ack_999.specs.declared.trailer.GroupTrailer.{GroupTrailer}
use Rattle.env_index.specs.Words.{span_of, GroupEntry}
use Rattle.env_index.specs.declared.entry.SetEnvelope.{SetEnvelope}
use Rattle.partner_setup.specs.Setup.{SetupValue, guide_for_set, has_group, has_version}
use Rattle.answered_sets.specs.Judged.{is_fa}
use Rattle.set_answers.specs.declared.answered.AnsweredGroup.{AnsweredGroup}
use Rattle.set_answers.specs.Pairs.{AreAllPairs}
use Rattle.set_answers.specs.Seen.{is_among}

-- what the sets of an interchange are checked under: the text, the setup, the sender's place in it, and the interchange's delimiters
pub record SentValue : Type 0 where
  pub text : List ℕ
  pub setup : SetupValue
  pub sender : ℕ
  pub delims : Delims

abbrev pub controls_of : List SetEnvelope → List (List ℕ)
controls_of sets = map (λ (s : SetEnvelope). control_of s.header) sets

-- a set of a group with this GS, after these sets: what its check by the sender's guide with GS01, GS08 and ST01 gives, and whether
-- one of them has its ST02
pub record IsSetAnswer (sent : SentValue) (gs : SegValue) (before : List SetEnvelope) (set : SetEnvelope)
    (answer : SetAnswer) : Type 0 where
  pub checked : Checked
  pub text : checked.text ≡ sent.text
  pub span : checked.span ≡ span_of sent.delims set
  pub guide : checked.guide ≡ guide_for_set sent.setup sent.sender (element_of gs 1) (element_of gs 8) (element_of set.header 1)
  pub exact : IsChecked checked
  pub is : answer ≡ answer_to checked (is_among (control_of set.header) (controls_of before))

-- the sets of a group, each after those before it
abbrev pub AreSetAnswers : SentValue → (gs : SegValue) → List SetEnvelope → List SetAnswer → Type 0
AreSetAnswers sent gs sets answers = AreAllPairs (λ n set answer. IsSetAnswer sent gs (take n sets) set answer) sets answers

-- whether the sender has guides for a group: with GS01; and with GS08
abbrev pub support_of : SetupValue → (sender : ℕ) → (gs : SegValue) → GroupSupport
support_of setup sender gs =
    if has_version setup sender (element_of gs 1) (element_of gs 8) then support.Served
    else (if has_group setup sender (element_of gs 1) then support.VersionNotServed else support.NotServed)

-- GE01 and GE02
abbrev pub trailer_of : SegValue → GroupTrailer
trailer_of trailer = record { listed = element_of trailer 1; control = element_of trailer 2 }

-- GE01, or nothing without a GE
abbrev pub listed_by : Option SegValue → List ℕ
listed_by None = []
listed_by (Some trailer) = element_of trailer 1

-- GS06 as a number
abbrev pub group_number : GroupEntry → Option ℕ
group_number group = number_of MOST_CONTROL_DIGITS (element_of group.header 6)

-- one of these groups has the GS06 of this one, as a number
abbrev pub has_number_among : List GroupEntry → GroupEntry → Bool
has_number_among before group = list_any (λ g. are_same_number (group_number group) (group_number g)) before

-- the codes of a group, whose GS06 an earlier group of the interchange may have
abbrev pub codes_where : SentValue → (earlier : Bool) → GroupEntry → List GroupCode
codes_where sent earlier group =
    group_codes_of (support_of sent.setup sent.sender group.header) (element_of group.header 6) (option_map trailer_of group.trailer)
    (length group.sets) earlier

-- the answer to a group with these codes, by the answers to its sets: GS01, GS06, GS08, GE01 as written
abbrev pub answer_by : List GroupCode → GroupEntry → List SetAnswer → GroupAnswer
answer_by group_codes group answers = record {
  functional_id = element_of group.header 1;
  control = element_of group.header 6;
  version = element_of group.header 8;
  listed = listed_by group.trailer;
  codes = group_codes;
  verdict = group_verdict_of group_codes (verdicts_of answers);
}

-- a group after these groups: nothing is answered to one that acknowledges something itself
pub record IsGroupAnswer (sent : SentValue) (before : List GroupEntry) (group : GroupEntry) (answered : AnsweredGroup) : Type 0 where
  pub other : is_fa group ≡ false
  pub sets : AreSetAnswers sent group.header group.sets answered.sets
  pub is : answered.answer ≡ answer_by (codes_where sent (has_number_among before group) group) group answered.sets

abbrev pub IsGroupAnswered : SentValue → (before : List GroupEntry) → GroupEntry → Option AnsweredGroup → Type 0
IsGroupAnswered sent before group None = is_fa group ≡ true
IsGroupAnswered sent before group (Some answered) = IsGroupAnswer sent before group answered

-- the groups of an interchange, each after those before it
abbrev pub AreGroupAnswers : SentValue → List GroupEntry → List (Option AnsweredGroup) → Type 0
AreGroupAnswers sent groups answers =
    AreAllPairs (λ n group answered. IsGroupAnswered sent (take n groups) group answered) groups answers
