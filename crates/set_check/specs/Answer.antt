-- 999 guide, transaction set response header and trailer (AK2, IK5): what is answered to a set.
use Rattle.std.specs.Prelude.{Bool}
use Rattle.hub_kinds.specs.declared.answers.SetAnswer.{SetAnswer}
use Rattle.x12_segs.specs.Words.{element_of}
use Rattle.set_check.specs.Codes.{control_of}
use Rattle.set_check.specs.Checked.{Checked, guide_in, parts_in}
use Rattle.set_check.specs.SetFaults.{set_codes_where}
use Rattle.set_check.specs.Verdict.{verdict_with}

-- a checked set, whose ST02 an earlier set of its group may have: ST01, ST02 and ST03 as written, its faults, codes and verdict
abbrev pub answer_to : Checked → (earlier : Bool) → SetAnswer
answer_to c earlier = record {
  identifier = element_of (parts_in c).header 1;
  control = control_of (parts_in c).header;
  convention = element_of (parts_in c).header 3;
  faults = c.faults;
  codes = set_codes_where (guide_in c) (parts_in c) c.faults earlier;
  verdict = verdict_with (guide_in c) (parts_in c) c.faults earlier;
}
