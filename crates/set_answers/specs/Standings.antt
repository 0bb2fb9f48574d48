-- 999 guide, functional group response: what the check of a group leaves for deliveries and the report.
use Rattle.std.specs.Prelude.{Bool, true, false, List, [], ◌∷◌, Option, Some, None}
use Rattle.hub_kinds.specs.declared.set_codes.GroupCode.{GroupCode}
use Rattle.ack_999.specs.Group.{totals_of, verdicts_of}
use Rattle.ack_999.specs.Report.{accepted_sets}
use Rattle.answered_sets.specs.declared.standing.GroupStanding.{GroupStanding}
use Rattle.answered_sets.specs.Judged.{no_standing}
use Rattle.set_answers.specs.declared.answered.AnsweredGroup.{AnsweredGroup}

abbrev pub has_no_code : List GroupCode → Bool
has_no_code [] = true
has_no_code (code ∷ more) = false

-- no code; AK901; AK904; the verdict on each set
abbrev pub standing_of : AnsweredGroup → GroupStanding
standing_of x = record {
  clear = has_no_code x.answer.codes;
  verdict = x.answer.verdict;
  accepted = accepted_sets x.answer.codes (totals_of x.sets);
  verdicts = verdicts_of x.sets;
}

-- of a group that acknowledges something itself nothing is known
abbrev pub standing_by : Option AnsweredGroup → GroupStanding
standing_by None = no_standing
standing_by (Some x) = standing_of x
