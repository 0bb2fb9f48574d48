-- 999 guide, implementation transaction set syntax error code (IK502): the codes of a set; which code is for which fault is own.
use Rattle.std.specs.Prelude.{ℕ, ◌==◌, Bool, true, false, not, ◌&&◌, nat_eq, nat_lt, List, [], ◌∷◌, ◌++◌, Option, Some, None, is_none}
use Rattle.std.specs.Prelude.{codes, if◌then◌else◌, length, take}
use Rattle.std.specs.List.{list_any, starts_with}
use Rattle.std.specs.Option.{option_map_or}
use Rattle.std.specs.Str.{bytes_eq}
use Rattle.hub_kinds.specs.Words.{segment_code_text, element_code_text, number_of}
use Rattle.hub_kinds.specs.declared.codes.SegmentCode.{SegmentCode}
use Rattle.hub_kinds.specs.declared.fault.ElemFault.{ElemFault}
use Rattle.hub_kinds.specs.declared.fault.Fault.{Fault}
use Rattle.hub_kinds.specs.declared.set_codes.SetCode.{SetCode}
use Rattle.hub_kinds.specs.declared.set_codes.SetCode.TheVariants as code
use Rattle.guide_tree.specs.Words.{GuideTree}
use Rattle.x12_bytes.specs.declared.delims.Delims.{Delims}
use Rattle.x12_segs.specs.Words.{SegValue, element_of}
use Rattle.elem_rules.specs.Divided.{is_empty}
use Rattle.set_check.specs.declared.codes.TheConstants.{COUNT_DIGITS, LEAST_CONTROL}

-- the code, where there is cause for it
abbrev pub code_if : Bool → SetCode → List SetCode
code_if true code = code ∷ []
code_if false code = []

-- the code that a fault is reported by: IK403 of an element, else IK304; 8 alone reports none, since the faults of its elements do
abbrev pub reported_by : SegmentCode → Option ElemFault → Option (List ℕ)
reported_by seg None = if bytes_eq (segment_code_text seg) (codes "8") then None else Some (segment_code_text seg)
reported_by seg (Some elem) = Some (element_code_text elem.code)

abbrev pub reported : Fault → Option (List ℕ)
reported f = reported_by f.code f.elem

-- a code of the implementation guides begins with I
abbrev pub is_of_guides : List ℕ → Bool
is_of_guides code = starts_with nat_eq code (codes "I")

-- 5: some fault is reported by a code of the standard; I5: by one of the implementation guides
abbrev pub fault_codes : List Fault → List SetCode
fault_codes faults =
    code_if (list_any (λ f. option_map_or (λ c. not (is_of_guides c)) (reported f) false) faults) code.SegmentsInError
    ++ code_if (list_any (λ f. option_map_or is_of_guides (reported f) false) faults) code.ImplementationSegmentsInError

-- 1: there isn't a guide for the set
abbrev pub guide_codes : Option GuideTree → List SetCode
guide_codes guide = code_if (is_none guide) code.NotSupported

-- the transaction set control number: ST02 of the header
abbrev pub control_of : SegValue → List ℕ
control_of header = element_of header 2

-- SE02 is another text than ST02
abbrev pub has_other_control : SegValue → Option SegValue → Bool
has_other_control header None = false
has_other_control header (Some trailer) = not (bytes_eq (element_of trailer 2) (control_of header))

-- the number is this one
abbrev pub is_count : ℕ → Option ℕ → Bool
is_count segments None = false
is_count segments (Some n) = n == segments

-- SE01 isn't 1 to 10 digits that write the number of segments, ST and SE among them
abbrev pub has_other_count : ℕ → Option SegValue → Bool
has_other_count segments None = false
has_other_count segments (Some trailer) = not (is_count segments (number_of COUNT_DIGITS (element_of trailer 1)))

-- ST02 has fewer than 4 bytes
abbrev pub has_short_control : SegValue → Bool
has_short_control header = nat_lt (length (control_of header)) LEAST_CONTROL

-- 2, 3, 4 and 7: what ST, SE and the number of segments show
abbrev pub envelope_codes : SegValue → ℕ → Option SegValue → List SetCode
envelope_codes header segments trailer =
    code_if (is_none trailer) code.TrailerMissing
    ++ code_if (has_other_control header trailer) code.ControlNumbersDiffer
    ++ code_if (has_other_count segments trailer) code.SegmentCountWrong
    ++ code_if (has_short_control header) code.ControlNumberInvalid

-- 23: an earlier set of the group has the same ST02
abbrev pub earlier_set_codes : Bool → List SetCode
earlier_set_codes earlier = code_if earlier code.ControlNumberNotUnique

-- ST03 isn't empty, and is another text than the convention
abbrev pub is_other : Delims → Option (List ℕ) → List ℕ → Bool
is_other delims None given = false
is_other delims (Some convention) given = not (is_empty delims given) && not (bytes_eq given convention)

abbrev pub has_other_convention : Delims → Option GuideTree → List ℕ → Bool
has_other_convention delims None given = false
has_other_convention delims (Some guide) given = is_other delims guide.head.convention given

-- I6: the guide has a convention, and ST03 names another
abbrev pub convention_codes : Option GuideTree → SegValue → List SetCode
convention_codes guide header = code_if (has_other_convention header.delims guide (element_of header 3)) code.ConventionNotSupported

-- all of a set's codes, in their order
abbrev pub all_codes : List Fault → Option GuideTree → SegValue → ℕ → Option SegValue → Bool → List SetCode
all_codes faults guide header segments trailer earlier =
    fault_codes faults ++ guide_codes guide ++ envelope_codes header segments trailer ++ earlier_set_codes earlier
    ++ convention_codes guide header

-- an IK5 has room for five
abbrev pub first_five : List SetCode → List SetCode
first_five codes = take 5 codes

-- the codes of a set by its faults, its guide if it has one, its ST, its number of segments, its SE if it has one, and whether an
-- earlier set of its group has its ST02
abbrev pub set_codes_of : List Fault → Option GuideTree → SegValue → ℕ → Option SegValue → Bool → List SetCode
set_codes_of faults guide header segments trailer earlier = first_five (all_codes faults guide header segments trailer earlier)
