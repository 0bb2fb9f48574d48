-- 999 guide, the code lists of IK501, IK502, AK901 and AK905: their texts.
use Rattle.std.specs.Prelude.{ℕ, List, codes}
use Rattle.hub_kinds.specs.declared.set_codes.SetCode.{SetCode}
use Rattle.hub_kinds.specs.declared.set_codes.SetCode.TheVariants as set
use Rattle.hub_kinds.specs.declared.set_codes.GroupCode.{GroupCode}
use Rattle.hub_kinds.specs.declared.set_codes.GroupCode.TheVariants as group
use Rattle.hub_kinds.specs.declared.set_codes.Verdict.{Verdict}
use Rattle.hub_kinds.specs.declared.set_codes.Verdict.TheVariants as verdict
use Rattle.hub_kinds.specs.declared.set_codes.GroupVerdict.{GroupVerdict}
use Rattle.hub_kinds.specs.declared.set_codes.GroupVerdict.TheVariants as group_verdict

-- IK502
abbrev pub set_code_text : SetCode → List ℕ
set_code_text set.SegmentsInError = codes "5"
set_code_text set.ImplementationSegmentsInError = codes "I5"
set_code_text set.NotSupported = codes "1"
set_code_text set.TrailerMissing = codes "2"
set_code_text set.ControlNumbersDiffer = codes "3"
set_code_text set.SegmentCountWrong = codes "4"
set_code_text set.ControlNumberInvalid = codes "7"
set_code_text set.ControlNumberNotUnique = codes "23"
set_code_text set.ConventionNotSupported = codes "I6"

-- AK905
abbrev pub group_code_text : GroupCode → List ℕ
group_code_text group.NotSupported = codes "1"
group_code_text group.VersionNotSupported = codes "2"
group_code_text group.TrailerMissing = codes "3"
group_code_text group.ControlNumbersDiffer = codes "4"
group_code_text group.SetCountWrong = codes "5"
group_code_text group.ControlNumberNotUnique = codes "19"

-- IK501
abbrev pub verdict_text : Verdict → List ℕ
verdict_text verdict.Accepted = codes "A"
verdict_text verdict.AcceptedWithErrors = codes "E"
verdict_text verdict.Rejected = codes "R"

-- AK901
abbrev pub group_verdict_text : GroupVerdict → List ℕ
group_verdict_text group_verdict.Accepted = codes "A"
group_verdict_text group_verdict.AcceptedWithErrors = codes "E"
group_verdict_text group_verdict.PartlyAccepted = codes "P"
group_verdict_text group_verdict.Rejected = codes "R"
