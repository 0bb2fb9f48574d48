-- 999 guide, transaction set acknowledgment code (IK501); which faults reject a set is own, and a guide may say that some don't.
use Rattle.std.specs.Prelude.{◌==◌, Bool, true, false, ◌&&◌, if◌then◌else◌, List, [], ◌∷◌, Option, Some, None}
use Rattle.std.specs.List.{list_all, list_any}
use Rattle.hub_kinds.specs.Words.{segment_rank, element_rank}
use Rattle.hub_kinds.specs.declared.codes.SegmentCode.{SegmentCode}
use Rattle.hub_kinds.specs.declared.codes.ElementCode.{ElementCode}
use Rattle.hub_kinds.specs.declared.fault.ElemFault.{ElemFault}
use Rattle.hub_kinds.specs.declared.fault.Fault.{Fault}
use Rattle.hub_kinds.specs.declared.set_codes.SetCode.{SetCode}
use Rattle.hub_kinds.specs.declared.set_codes.SetCode.TheVariants as code
use Rattle.hub_kinds.specs.declared.set_codes.Verdict.{Verdict}
use Rattle.hub_kinds.specs.declared.set_codes.Verdict.TheVariants.{Accepted, AcceptedWithErrors, Rejected}
use Rattle.guide_tree.specs.Words.{GuideTree}
use Rattle.set_check.specs.SetParts.{SetParts}
use Rattle.set_check.specs.SetFaults.{set_codes_where}

-- 5 and I5 report faults in the segments, each other code of something else
abbrev pub tells_of_faults : SetCode → Bool
tells_of_faults code.SegmentsInError = true
tells_of_faults code.ImplementationSegmentsInError = true
tells_of_faults code.NotSupported = false
tells_of_faults code.TrailerMissing = false
tells_of_faults code.ControlNumbersDiffer = false
tells_of_faults code.SegmentCountWrong = false
tells_of_faults code.ControlNumberInvalid = false
tells_of_faults code.ControlNumberNotUnique = false
tells_of_faults code.ConventionNotSupported = false

-- a list of codes has the code
abbrev pub lists_segment_code : List SegmentCode → SegmentCode → Bool
lists_segment_code listed c = list_any (λ l. segment_rank l == segment_rank c) listed

abbrev pub lists_element_code : List ElementCode → ElementCode → Bool
lists_element_code listed c = list_any (λ l. element_rank l == element_rank c) listed

-- a guide tolerates a fault by its IK403 where an element is at fault, else by its IK304
abbrev pub tolerates_code : GuideTree → SegmentCode → Option ElemFault → Bool
tolerates_code g c None = lists_segment_code g.head.tolerate_segment c
tolerates_code g c (Some elem) = lists_element_code g.head.tolerate_element elem.code

abbrev pub tolerates : Option GuideTree → Fault → Bool
tolerates None f = false
tolerates (Some g) f = tolerates_code g f.code f.elem

-- there is neither a fault nor a code
abbrev pub is_without_fault : List Fault → List SetCode → Bool
is_without_fault [] [] = true
is_without_fault [] (code ∷ codes) = false
is_without_fault (fault ∷ faults) codes = false

-- accepted: no fault and no code; with errors noted: the codes report faults alone, each of which the guide tolerates
abbrev pub verdict_on : Option GuideTree → List Fault → List SetCode → Verdict
verdict_on guide faults codes =
    if is_without_fault faults codes then Accepted
    else (if list_all tells_of_faults codes && list_all (tolerates guide) faults then AcceptedWithErrors
    else Rejected)

-- the verdict on a set with these faults, whose ST02 an earlier set of its group may have
abbrev pub verdict_with : Option GuideTree → SetParts → List Fault → (earlier : Bool) → Verdict
verdict_with guide parts faults earlier = verdict_on guide faults (set_codes_where guide parts faults earlier)
