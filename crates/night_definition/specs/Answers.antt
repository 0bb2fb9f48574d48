-- 999 guide: the answer to each set and each functional group of an interchange.
use Rattle.std.specs.Prelude.{ℕ, Bool, true, false, not, ◌&&◌, List, [], ◌∷◌, ◌++◌, map, length, Option, Some, None, if◌then◌else◌}
use Rattle.std.specs.Prelude.{bytes_eq, codes, count_by}
use Rattle.std.specs.Option.{option_map_or}
use Rattle.std.specs.List.{list_all, list_any}
use Rattle.x12_bytes.specs.declared.delims.Delims.{Delims}
use Rattle.hub_kinds.specs.declared.fault.Fault.{Fault}
use Rattle.hub_kinds.specs.declared.interchange.InterchangeFault.{InterchangeFault}
use Rattle.hub_kinds.specs.declared.set_codes.SetCode.{SetCode}
use Rattle.hub_kinds.specs.declared.set_codes.GroupCode.{GroupCode}
use Rattle.hub_kinds.specs.declared.set_codes.GroupCode.TheVariants as ak905
use Rattle.hub_kinds.specs.declared.set_codes.Verdict.{Verdict}
use Rattle.hub_kinds.specs.declared.set_codes.Verdict.TheVariants as ik501
use Rattle.hub_kinds.specs.declared.set_codes.GroupVerdict.{GroupVerdict}
use Rattle.hub_kinds.specs.declared.set_codes.GroupVerdict.TheVariants as ak901
use Rattle.night_definition.specs.Header.{number_of}
use Rattle.night_definition.specs.Segments.{Elements, element}
use Rattle.night_definition.specs.Envelopes.{Set, Group}
use Rattle.night_definition.specs.Sets.{faults_of, set_codes, verdict_on, control_of, code_if}
use Rattle.night_definition.specs.Setup.{Setup, guides_of, guide_of, is_number, Judged}

-- a set, its faults and codes, and its verdict
pub record Answer : Type 0 where
  pub set : Set
  pub faults : List Fault
  pub codes : List SetCode
  pub verdict : Verdict

abbrev pub answer_to : Setup → (sender : ℕ) → Delims → Group → (before : List Set) → Set → Answer
answer_to setup sender d group before set =
    let guide = guide_of setup sender group.header.elements (element 1 set.header.elements) in
    let faults = faults_of guide d set in
    let codes = set_codes guide d set faults (list_any (λ s. bytes_eq (control_of s) (control_of set)) before) in
    record { set = set; faults = faults; codes = codes; verdict = verdict_on guide faults codes }

abbrev pub answers_after : Setup → (sender : ℕ) → Delims → Group → (before : List Set) → List Set → List Answer
answers_after setup sender d group before [] = []
answers_after setup sender d group before (set ∷ sets) =
    answer_to setup sender d group before set ∷ answers_after setup sender d group (before ++ set ∷ []) sets

abbrev pub number_of_group : Group → Option ℕ
number_of_group group = number_of 9 (element 6 group.header.elements)

-- the sender has no guide for the group, or only guides for other versions
abbrev pub support_codes : Setup → (sender : ℕ) → Elements → List GroupCode
support_codes setup sender gs =
    if list_any (λ g. bytes_eq g.head.group (element 1 gs) && bytes_eq g.head.version (element 8 gs)) (guides_of setup sender) then []
    else if list_any (λ g. bytes_eq g.head.group (element 1 gs)) (guides_of setup sender) then ak905.VersionNotSupported ∷ []
    else ak905.NotSupported ∷ []

abbrev pub are_same : Option ℕ → Option ℕ → Bool
are_same m n = option_map_or (is_number m) n false

-- AK905 to AK909, in the order in which they are written
abbrev pub group_codes : Setup → (sender : ℕ) → (before : List Group) → Group → List GroupCode
group_codes setup sender before group =
    support_codes setup sender group.header.elements
    ++ option_map_or (λ ge.
    code_if (not (are_same (number_of 9 (element 2 ge.elements)) (number_of_group group))) ak905.ControlNumbersDiffer
    ++ code_if (not (is_number (number_of 6 (element 1 ge.elements)) (length group.sets))) ak905.SetCountWrong)
    group.trailer (ak905.TrailerMissing ∷ [])
    ++ code_if (list_any (λ g. are_same (number_of_group g) (number_of_group group)) before) ak905.ControlNumberNotUnique

abbrev pub is_accepted : Verdict → Bool
is_accepted ik501.Accepted = true
is_accepted verdict = false

abbrev pub is_rejected : Verdict → Bool
is_rejected ik501.Rejected = true
is_rejected verdict = false

abbrev pub group_verdict : List GroupCode → List Verdict → GroupVerdict
group_verdict [] verdicts =
    if list_all is_accepted verdicts then ak901.Accepted
    else if list_all (λ v. not (is_rejected v)) verdicts then ak901.AcceptedWithErrors
    else if list_all is_rejected verdicts then ak901.Rejected
    else ak901.PartlyAccepted
group_verdict (code ∷ more) verdicts = ak901.Rejected

abbrev text_fa : List ℕ
text_fa = codes "FA"

-- a group with its answers; a group of acknowledgments (FA) gets none
pub record AnsweredGroup : Type 0 where
  pub group : Group
  pub is_fa : Bool
  pub codes : List GroupCode
  pub answers : List Answer
  pub verdict : GroupVerdict

-- AK904
abbrev pub accepted_sets : AnsweredGroup → ℕ
accepted_sets g = by g.codes where
  by : List GroupCode → ℕ
  by [] = count_by (λ (a : Answer). not (is_rejected a.verdict)) g.answers
  by (c ∷ cs) = 0

abbrev pub answered_group : Setup → (sender : ℕ) → Delims → (before : List Group) → Group → AnsweredGroup
answered_group setup sender d before group =
    let codes = group_codes setup sender before group in
    let answers = answers_after setup sender d group [] group.sets in
    record {
      group = group;
      is_fa = bytes_eq (element 1 group.header.elements) (text_fa);
      codes = codes;
      answers = answers;
      verdict = group_verdict codes (map (λ (a : Answer). a.verdict) answers);
    }

abbrev pub groups_after : Setup → (sender : ℕ) → Delims → (before : List Group) → List Group → List AnsweredGroup
groups_after setup sender d before [] = []
groups_after setup sender d before (group ∷ groups) =
    answered_group setup sender d before group ∷ groups_after setup sender d (before ++ group ∷ []) groups

-- an interchange with its answered groups; a refused one has none
pub record Answered : Type 0 where
  pub judged : Judged
  pub groups : List AnsweredGroup

abbrev pub answered : Setup → Judged → Answered
answered setup j = record { judged = j; groups = by j.fault j.sender } where
  by : Option InterchangeFault → Option ℕ → List AnsweredGroup
  by None (Some sender) = groups_after setup sender j.interchange.delims [] j.interchange.content.groups
  by fault sender = []
