-- X12.5, interchange control numbers and counts, and X12.6, functional group and transaction set headers: the faults 1 to 7
-- of an interchange, the least reported (own numbers).
use Rattle.std.specs.Prelude.{ℕ, Bool, false, not, ◌&&◌, ◌==◌, List, length, Option, Some, None, if◌then◌else◌}
use Rattle.std.specs.List.{list_all}
use Rattle.std.specs.Char.{is_ascii_uppercase}
use Rattle.x12_bytes.specs.Header.{field_of}
use Rattle.x12_segs.specs.Words.{SegValue, element_of}
use Rattle.hub_kinds.specs.Words.{is_number, number_of, is_word}
use Rattle.hub_kinds.specs.declared.interchange.InterchangeFault.{InterchangeFault}
use Rattle.hub_kinds.specs.declared.interchange.InterchangeFault.TheVariants.{TrailerMissing, ControlNumberInvalid}
use Rattle.hub_kinds.specs.declared.interchange.InterchangeFault.TheVariants.{ControlNumbersDiffer, GroupCountWrong}
use Rattle.hub_kinds.specs.declared.interchange.InterchangeFault.TheVariants.{SegmentMisplaced, GroupHeaderInvalid, SetHeaderInvalid}
use Rattle.hub_kinds.specs.declared.limits.TheConstants.{MOST_CONTROL_DIGITS}
use Rattle.env_index.specs.Summary.{GroupEntry}
use Rattle.env_index.specs.Interchange.{InterchangeEntry}

abbrev pub is_some_number : Option ℕ → ℕ → Bool
is_some_number None n = false
is_some_number (Some m) n = m == n

-- a text of 1 to that many digits writes this number
abbrev pub writes_number : ℕ → List ℕ → ℕ → Bool
writes_number most text n = is_some_number (number_of most text) n

-- ISA13 as a number, where it is nine digits
abbrev pub control_number : List ℕ → Option ℕ
control_number header = if length (field_of header 13) == 9 then number_of MOST_CONTROL_DIGITS (field_of header 13) else None

-- IEA02 is ISA13 as a number
abbrev pub has_control : SegValue → ℕ → Bool
has_control trailer control = writes_number MOST_CONTROL_DIGITS (element_of trailer 2) control

-- IEA01 is the number of groups
abbrev pub counts_groups : SegValue → ℕ → Bool
counts_groups trailer groups = writes_number 5 (element_of trailer 1) groups

-- a GS: two upper-case letters, a number of 1 to 9 digits, a version of 1 to 12 letters or digits
abbrev pub is_group_header : SegValue → Bool
is_group_header header =
    (length (element_of header 1) == 2) && list_all is_ascii_uppercase (element_of header 1)
    && is_number MOST_CONTROL_DIGITS (element_of header 6) && is_word 1 12 (element_of header 8)

-- an ST: an id of three letters or digits, a number of 1 to 9 letters or digits
abbrev pub is_set_header : SegValue → Bool
is_set_header header = is_word 3 3 (element_of header 1) && is_word 1 9 (element_of header 2)

-- the ST of each set of a group
abbrev pub has_set_headers : GroupEntry → Bool
has_set_headers group = list_all (λ set. is_set_header set.header) group.sets

-- the least fault of the headers
abbrev pub fault_of_headers : InterchangeEntry → Option InterchangeFault
fault_of_headers x =
    if not (list_all (λ group. is_group_header group.header) x.content.groups) then Some GroupHeaderInvalid
    else if not (list_all has_set_headers x.content.groups) then Some SetHeaderInvalid
    else None

-- the least fault of an interchange that has an IEA, by its ISA13
abbrev pub fault_with : InterchangeEntry → SegValue → Option ℕ → Option InterchangeFault
fault_with x trailer None = Some ControlNumberInvalid
fault_with x trailer (Some control) =
    if not (has_control trailer control) then Some ControlNumbersDiffer
    else if not (counts_groups trailer (length x.content.groups)) then Some GroupCountWrong
    else if x.content.misplaced then Some SegmentMisplaced
    else fault_of_headers x

-- the least fault of an interchange, by its IEA
abbrev pub fault_by : InterchangeEntry → Option SegValue → Option InterchangeFault
fault_by x None = Some TrailerMissing
fault_by x (Some trailer) = fault_with x trailer (control_number x.header)

-- the least of the faults 1 to 7
abbrev pub fault_of : InterchangeEntry → Option InterchangeFault
fault_of x = fault_by x x.content.trailer
