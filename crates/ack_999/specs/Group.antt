-- 999 guide, functional group response trailer (AK9): the group's codes, its verdict, and what is counted over its sets.
use Rattle.std.specs.Prelude.{ℕ, ◌+◌, ◌*◌, ◌^◌, ◌<◌, ◌≤◌, ◌==◌, Bool, true, false, not, ◌&&◌, Option, Some, None, if◌then◌else◌}
use Rattle.std.specs.Prelude.{List, [], ◌∷◌, ◌++◌, length, map, count_by}
use Rattle.std.specs.List.{list_all, sum_by}
use Rattle.hub_kinds.specs.Words.{number_of}
use Rattle.hub_kinds.specs.declared.answers.SetAnswer.{SetAnswer}
use Rattle.hub_kinds.specs.declared.limits.TheConstants.{MOST_CONTROL_DIGITS, MOST_COUNT_DIGITS}
use Rattle.hub_kinds.specs.declared.set_codes.GroupCode.{GroupCode}
use Rattle.hub_kinds.specs.declared.set_codes.GroupCode.TheVariants as code
use Rattle.hub_kinds.specs.declared.set_codes.Verdict.{Verdict}
use Rattle.hub_kinds.specs.declared.set_codes.Verdict.TheVariants as verdict
use Rattle.hub_kinds.specs.declared.set_codes.GroupVerdict.{GroupVerdict}
use Rattle.hub_kinds.specs.declared.set_codes.GroupVerdict.TheVariants as group
use Rattle.ack_999.specs.declared.support.GroupSupport.{GroupSupport}
use Rattle.ack_999.specs.declared.support.GroupSupport.TheVariants as support
use Rattle.ack_999.specs.declared.trailer.GroupTrailer.{GroupTrailer}
use Rattle.ack_999.specs.declared.totals.Totals.{Totals}
use Rattle.ack_999.specs.Faults.{notes}

-- two control numbers, read as numbers, are the same
abbrev pub are_same_number : Option ℕ → Option ℕ → Bool
are_same_number (Some a) (Some b) = a == b
are_same_number _ _ = false

-- a code where a test fails
abbrev pub unless : Bool → GroupCode → List GroupCode
unless true code = []
unless false code = code ∷ []

-- 1: no guide of the sender has GS01; 2: some has, but none of these has GS08
abbrev pub support_codes : GroupSupport → List GroupCode
support_codes support.Served = []
support_codes support.NotServed = code.NotSupported ∷ []
support_codes support.VersionNotServed = code.VersionNotSupported ∷ []

-- 3: there is no GE; 4: GE02 isn't 1 to 9 digits equal as a number to GS06; 5: GE01 isn't 1 to 6 digits equal to the number of sets
abbrev pub trailer_codes : List ℕ → Option GroupTrailer → ℕ → List GroupCode
trailer_codes control None sets = code.TrailerMissing ∷ []
trailer_codes control (Some trailer) sets =
    unless (are_same_number (number_of MOST_CONTROL_DIGITS trailer.control)
    (number_of MOST_CONTROL_DIGITS control)) code.ControlNumbersDiffer
    ++ unless (are_same_number (number_of MOST_COUNT_DIGITS trailer.listed) (Some sets)) code.SetCountWrong

-- 19: an earlier group of the interchange has the same GS06 as a number
abbrev pub earlier_group_codes : Bool → List GroupCode
earlier_group_codes true = code.ControlNumberNotUnique ∷ []
earlier_group_codes false = []

-- the codes of a group, in their order
abbrev pub group_codes_of : GroupSupport → List ℕ → Option GroupTrailer → ℕ → Bool → List GroupCode
group_codes_of support control trailer sets earlier =
    support_codes support ++ trailer_codes control trailer sets ++ earlier_group_codes earlier

abbrev pub is_accepted : Verdict → Bool
is_accepted verdict.Accepted = true
is_accepted verdict.AcceptedWithErrors = false
is_accepted verdict.Rejected = false

abbrev pub is_accepted_with_errors : Verdict → Bool
is_accepted_with_errors verdict.AcceptedWithErrors = true
is_accepted_with_errors verdict.Accepted = false
is_accepted_with_errors verdict.Rejected = false

abbrev pub is_rejected : Verdict → Bool
is_rejected verdict.Rejected = true
is_rejected verdict.Accepted = false
is_rejected verdict.AcceptedWithErrors = false

-- the verdict on a group without codes: A if all sets are A, or there are none; E if none is R; R if all are; else P
abbrev pub verdict_on_sets : List Verdict → GroupVerdict
verdict_on_sets verdicts =
    if list_all is_accepted verdicts then group.Accepted
    else (if list_all (λ v. not (is_rejected v)) verdicts then group.AcceptedWithErrors
    else (if list_all is_rejected verdicts then group.Rejected
    else group.PartlyAccepted))

-- the verdict on a group: R with any code
abbrev pub group_verdict_of : List GroupCode → List Verdict → GroupVerdict
group_verdict_of [] verdicts = verdict_on_sets verdicts
group_verdict_of (_ ∷ _) verdicts = group.Rejected

-- the verdicts on sets
abbrev pub verdicts_of : List SetAnswer → List Verdict
verdicts_of sets = map (λ s. s.verdict) sets

-- how many sets have each verdict, and how many segments report their faults
abbrev pub totals_of : List SetAnswer → Totals
totals_of sets = record {
  accepted = count_by is_accepted (verdicts_of sets);
  accepted_with_errors = count_by is_accepted_with_errors (verdicts_of sets);
  rejected = count_by is_rejected (verdicts_of sets);
  fault_segments = sum_by (λ s. length (notes s.faults)) sets;
}

-- AK903: the number of sets
abbrev pub received_sets : Totals → ℕ
received_sets t = t.accepted + t.accepted_with_errors + t.rejected

-- an AK2 and an IK5 for each set, and between them what reports its faults
abbrev pub set_segment_count : Totals → ℕ
set_segment_count t = 2 * received_sets t + t.fault_segments

-- fewer than 2^64 sets, with no more than 2^64 segments each (own)
pub record IsCountable (t : Totals) : Type 0 where
  pub sets : received_sets t < 2 ^ 64
  pub segments : set_segment_count t ≤ 2 ^ 64 * received_sets t

-- the verdict on sets, over the totals
abbrev pub verdict_on_totals : Totals → GroupVerdict
verdict_on_totals t =
    if t.accepted_with_errors == 0 && t.rejected == 0 then group.Accepted
    else (if t.rejected == 0 then group.AcceptedWithErrors
    else (if t.accepted == 0 && t.accepted_with_errors == 0 then group.Rejected
    else group.PartlyAccepted))

-- the verdict on a group, over the totals of its sets
abbrev pub verdict_by : List GroupCode → Totals → GroupVerdict
verdict_by [] t = verdict_on_totals t
verdict_by (_ ∷ _) t = group.Rejected
